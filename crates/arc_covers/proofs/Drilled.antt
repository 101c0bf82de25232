-- What stands for a fine figure with a hole.
use Rattle.std.proofs.Common.{◌≡◌, ◌↔◌, length, List, [], ◌∷◌, All, Bool, false, IsTrue, sym, subst}
use Rattle.std.proofs.lemmas.List.Elements.{All-cons, All-head, All-nil, All-tail}
use Rattle.board_shapes.specs.Figures.{Figure, figure_of}
use Rattle.board_shapes.specs.Pieces.{plain_pieces}
use Rattle.board_shapes.specs.declared.placed.Placed.{Placed}
use Rattle.board_shapes.specs.declared.shape.Shape.{Shape}
use Rattle.fine_figures.specs.Holes.{HoledBelow}
use Rattle.fine_figures.specs.declared.HoledFigure.{HoledFigure}
use Rattle.planar.specs.Plane.{IsPlaced}
use Rattle.planar.specs.declared.Frame.{Frame}
use Rattle.arc_covers.specs.Bounds.{OneFigure, figures_of}
use Rattle.arc_covers.specs.Taken.{HoledTaken}
use Rattle.arc_covers.specs.declared.side.Side.{Side}
use Rattle.arc_covers.specs.declared.side.Side.TheVariants.{Above, Below}

-- of each piece, and of each figure
pub of_figures : (P : Figure → Type 0) (pieces : List (Placed Shape)) → All P (figures_of (plain_pieces pieces)) ↔ All (λ (p : Placed Shape). P (figure_of p.shape)) pieces
of_figures P [] = (λ all. All-nil (λ (p : Placed Shape). P (figure_of p.shape)), λ all. All-nil P)
of_figures P (p ∷ rest) = by (of_figures P rest)
  where
    by : All P (figures_of (plain_pieces rest)) ↔ All (λ (q : Placed Shape). P (figure_of q.shape)) rest → All P (figures_of (plain_pieces (p ∷ rest))) ↔ All (λ (q : Placed Shape). P (figure_of q.shape)) (p ∷ rest)
    by k = (
      λ all. All-cons (λ (q : Placed Shape). P (figure_of q.shape)) p rest (All-head P (figure_of p.shape) (figures_of (plain_pieces rest)) all) (k.0 (All-tail P (figure_of p.shape) (figures_of (plain_pieces rest)) all)),
      λ all. All-cons P (figure_of p.shape) (figures_of (plain_pieces rest)) (All-head (λ (q : Placed Shape). P (figure_of q.shape)) p rest all) (k.1 (All-tail (λ (q : Placed Shape). P (figure_of q.shape)) p rest all)),
    )

pub as_figures : (P : Figure → Type 0) (pieces : List (Placed Shape)) (b : Bool) → IsTrue b ↔ All (λ (p : Placed Shape). P (figure_of p.shape)) pieces → IsTrue b ↔ All P (figures_of (plain_pieces pieces))
as_figures P pieces b told = let k = of_figures P pieces in (λ yes. k.1 (told.0 yes), λ all. told.1 (k.0 all))

-- so below, and above
pub taken_below : (side : Side) (h : HoledFigure) (figures : List Figure) (b : Bool) → side ≡ Below → IsTrue b ↔ HoledTaken Below h figures → IsTrue b ↔ HoledTaken side h figures
taken_below side h figures b is told = subst (λ (s : Side). IsTrue b ↔ HoledTaken s h figures) (sym is) told

pub taken_above : (side : Side) (h : HoledFigure) (figures : List Figure) (b : Bool) → side ≡ Above → IsTrue b ↔ HoledTaken Above h figures → IsTrue b ↔ HoledTaken side h figures
taken_above side h figures b is told = subst (λ (s : Side). IsTrue b ↔ HoledTaken s h figures) (sym is) told

-- a figure about a centre that is not within a metre has none below
pub not_placed : (frame : Frame) (h : HoledFigure) (f : Figure) (b : Bool) → b ≡ false → IsTrue b ↔ IsPlaced h.centre → IsTrue false ↔ HoledBelow frame h f
not_placed frame h f b off told = (λ yes. absurd cc, λ (lies, clear). absurd (let yes = told.1 clear.placed in cc))

-- one figure is no list of none or of more
pub not_one : (P : Figure → Type 0) (pieces : List (Placed Shape)) → (length pieces ≡ 1 → ⊥) → IsTrue false ↔ OneFigure P (figures_of (plain_pieces pieces))
not_one P [] other = (λ yes. absurd cc, λ (f, same, taken). absurd cc)
not_one P (p ∷ []) other = (λ yes. absurd cc, λ h. absurd (other cc))
not_one P (p ∷ q ∷ rest) other = (λ yes. absurd cc, λ (f, same, taken). absurd cc)
