-- What is taken for a turned figure bounds it.
use Rattle.std.proofs.Common.{◌≡◌, ◌⊎◌, false, IsTrue, ◌≤◌, inl, inr, ℕ, ℤ, pos, List, [], ◌∷◌, All, length, take, drop, get_or, ◌-◌, sym, subst, ap, ◌∙◌, arith}
use Rattle.std.proofs.lemmas.List.Elements.{All-cons, All-nil, All-weaker}
use Rattle.std.proofs.lemmas.List.{take_all}
use Rattle.planar.specs.Plane.{IsPlaced, Point, at}
use Rattle.planar.specs.declared.Spot.{Spot}
use Rattle.contact.specs.Solid.{SharePoint}
use Rattle.arcs.specs.Copper.{InChain}
use Rattle.board_shapes.specs.Figures.{Figure, InFigure, area_figure, figure_of, filled, round}
use Rattle.area_contact.specs.declared.Area.{Area}
use Rattle.board_shapes.specs.Pieces.{plain_pieces}
use Rattle.board_shapes.specs.declared.placed.Placed.{Placed}
use Rattle.board_shapes.specs.declared.shape.Shape.{Shape}
use Rattle.board_shapes.specs.declared.shape.Shape.TheVariants.{Filled}
use Rattle.slants.specs.Cones.{PossiblyTurned}
use Rattle.slants.specs.Discs.{DiscAbove}
use Rattle.slants.specs.Laws.{TurnedIsBetween}
use Rattle.turned_outlines.specs.Laws.{OutlineHolds, OutlineLies}
use Rattle.turned_outlines.specs.Nearest.{slack, turned_corners}
use Rattle.turned_outlines.specs.Taken.{EachOfBoth, corner_of}
use Rattle.arc_covers.specs.Bounds.{BoundTurned, HoldTogether, InSome, capsules_from, capsules_of, figures_of}
use Rattle.arc_covers.specs.Eighths.{frame_about}
use Rattle.arc_covers.specs.Outlines.{CapsulesStand, IsReached, OutlineLies as LiesBy}
use Rattle.arc_covers.specs.Taken.{TurnedTaken}
use Rattle.arc_covers.specs.declared.side.Side.{Side}
use Rattle.arc_covers.specs.declared.side.Side.TheVariants.{Above, Below}
use Rattle.arc_covers.proofs.Figures.{same_number}
use Rattle.arc_covers.proofs.Told.{Touches, in_chain, on_edge, touch_chain}

-- each capsule along a polygon touches it
touching : (corners : List Spot) (r : ℕ) → All (λ f. SharePoint (InFigure (filled corners)) (InFigure f)) (capsules_of corners (pos r))
touching [] r = All-nil (λ f. SharePoint (InFigure (filled [])) (InFigure f))
touching (a ∷ []) r = All-nil (λ f. SharePoint (InFigure (filled (a ∷ []))) (InFigure f))
touching (a ∷ b ∷ rest) r =
    All-weaker (Touches a (b ∷ rest)) (λ f. SharePoint (InFigure (filled (a ∷ b ∷ rest))) (InFigure f)) (λ f (s, in_f, on). record { point = at s; in_first = inl on; in_second = in_f }) (capsules_of (a ∷ b ∷ rest) (pos r))
    (touch_chain a (b ∷ rest) (a ∷ b ∷ rest) r (λ s h. on_edge a b rest s h))

pub turned_bounded : TurnedIsBetween → OutlineHolds → OutlineLies → (side : Side) (contour : List Spot) (about : Spot) (angle : ℕ) (figures : List Figure) → TurnedTaken side contour about angle figures → BoundTurned side contour about angle figures
turned_bounded turns law lies Below contour about angle figures (inl none) = inl none
turned_bounded turns law lies Below contour about angle figures (inr (points, same, inl taken)) = inr (points, same, λ p inside. (turns contour about angle points p).0 taken inside)
turned_bounded turns law lies Below contour about angle figures (inr (points, same, inr taken)) =
    inr (points, same, λ p inside. lies (frame_about about) contour about angle (turned_corners contour about angle) (slack contour about) points p taken.0 taken.1 inside)
turned_bounded turns law lies Above contour about angle figures (inl (points, same, taken)) = record {
  first = filled points;
  rest = [];
  are = same;
  meet = All-nil (λ f. SharePoint (InFigure (filled points)) (InFigure f));
  hold = λ p inside. subst (λ (fs : List Figure). InSome fs p) (sym same) (inl ((turns contour about angle points p).1 taken inside));
}
turned_bounded turns law lies Above contour about angle figures (inr h) = by h.stand
  where
    by : CapsulesStand contour about angle h.corners h.capsules → HoldTogether (PossiblyTurned contour about angle) figures
    by (r, same, taken) = record {
      first = filled h.corners;
      rest = h.capsules;
      are = h.are;
      meet = subst (λ (fs : List Figure). All (λ f. SharePoint (InFigure (filled h.corners)) (InFigure f)) fs) (sym same) (touching h.corners r);
      hold = λ p inside. subst (λ (fs : List Figure). InSome fs p) (sym h.are) (all p (law contour about angle h.corners r p taken inside));
    }
      where
        all : (p : Point) → InFigure (filled h.corners) p ⊎ InChain h.corners (pos r) p → InFigure (filled h.corners) p ⊎ InSome h.capsules p
        all p (inl k) = inl k
        all p (inr k) = inr (subst (λ (fs : List Figure). InSome fs p) (sym same) (in_chain h.corners r p k))

-- ---- the code's answers

radius_in : List Figure → ℤ
radius_in [] = pos 0
radius_in (round s ∷ rest) = s.r
radius_in (filled points ∷ rest) = pos 0

-- capsules have one radius
pub one_radius : (corners : List Spot) (figures : List Figure) (r s : ℕ) → 4 ≤ length corners → figures ≡ capsules_of corners (pos r) → figures ≡ capsules_of corners (pos s) → r ≡ s
unfolding radius_in
one_radius [] figures r s some e f = absurd (omega (arith, some))
one_radius (a ∷ []) figures r s some e f = absurd (omega (arith, some))
one_radius (a ∷ b ∷ rest) figures r s some e f = same_number r s (ap radius_in (sym e ∙ f))

pub no_capsules : (corners : List Spot) (figures : List Figure) (r : ℕ) → 4 ≤ length corners → ((a b : Spot) (r : ℕ) (rest : List Figure) → ¬ (figures ≡ round (record { a = a; b = b; r = pos r }) ∷ rest)) → figures ≡ capsules_of corners (pos r) → ⊥
no_capsules [] figures r some none e = absurd (omega (arith, some))
no_capsules (a ∷ []) figures r some none e = absurd (omega (arith, some))
no_capsules (a ∷ b ∷ rest) figures r some none e = none a b r (capsules_from b rest (pos r)) e

pub first_filled : (pieces : List (Placed Shape)) (first : Placed Shape) (area : Area) → 1 ≤ length pieces → first ≡ get_or pieces 0 first → first.shape ≡ Filled area
    → area_figure area ∷ figures_of (plain_pieces (take (length pieces - 1) (drop 1 pieces))) ≡ figures_of (plain_pieces pieces)
first_filled [] first area some is shape = absurd (omega (arith, some))
first_filled (p ∷ rest) first area some is shape =
    let whole : take (length (p ∷ rest) - 1) rest ≡ rest = take_all (length (p ∷ rest) - 1) rest (omega arith) in
    ap (λ (ps : List (Placed Shape)). area_figure area ∷ figures_of (plain_pieces ps)) whole
    ∙ ap (λ (s : Shape). figure_of s ∷ figures_of (plain_pieces rest)) (sym shape ∙ ap (λ (q : Placed Shape). q.shape) is)

-- what lies in a figure by its corners has that within a metre
corners_reached : (about : Spot) (angle r : ℕ) (figure corners : List Spot) → EachOfBoth (λ a b. DiscAbove (corner_of a about angle) b r) figure corners → All IsPlaced figure
corners_reached about angle r [] [] all = All-nil IsPlaced
corners_reached about angle r [] (b ∷ ys) all = absurd all
corners_reached about angle r (a ∷ xs) [] all = absurd all
corners_reached about angle r (a ∷ xs) (b ∷ ys) all = All-cons IsPlaced a xs all.0.near.centre (corners_reached about angle r xs ys all.1)

pub reached : (contour : List Spot) (about : Spot) (angle : ℕ) (points : List Spot) → LiesBy contour about angle points → IsReached contour about
reached [] about angle points h = absurd (no h.1.inside)
  where
    no : IsTrue false → ⊥
    no k = cc
reached (a ∷ rest) about angle points h = (h.1.stand.near.0.near.ready.from, corners_reached about angle (slack (a ∷ rest) about) (a ∷ rest) (turned_corners (a ∷ rest) about angle) h.1.stand.near)
