-- A figure that is moved is turned as far as before, and one that is read by less than a right angle.
use Rattle.std.proofs.Common.{◌≡◌, ◌∙◌, Bool, true, ◌&&◌, List, [], ◌∷◌, All, refl, sym, ap}
use Rattle.std.specs.Prelude.{ℤ, nat_le, nat_lt}
use Rattle.std.proofs.lemmas.List.Elements.{All-cons, All-nil}
use Rattle.board_shapes.specs.declared.placed.Placed.{Placed}
use Rattle.step_repeat.specs.Copies.{piece_by, pieces_by}
use Rattle.real_copper.specs.RealReader.{plain}
use Rattle.real_copper.specs.declared.anchored.Anchored.{Anchored}
use Rattle.real_shapes.specs.Settled.{is_settled}
use Rattle.real_shapes.specs.declared.RealShape.{RealShape}
use Rattle.real_shapes.specs.declared.RealShape.TheVariants as shape
use Rattle.slants.specs.declared.cones.TheConstants.{RIGHT_ANGLE}
use Rattle.real_copper.specs.Figures.{RealFigure, exact, arc, line, region, turned, turned_disc, polygon, odd, holed, shifted_real}
use Rattle.real_copper.specs.Shapes.{PlainReal, plain_real, plain_reals, real_figure}

-- the same of the figure of a shape
abbrev settled_by : RealFigure → Bool
settled_by (turned contour about angle) = nat_lt angle RIGHT_ANGLE
settled_by (turned_disc d) = nat_lt d.angle RIGHT_ANGLE
settled_by (polygon g) = nat_lt g.angle RIGHT_ANGLE && (nat_le 3 g.polygon.corners && nat_le g.polygon.corners 12)
settled_by other = true

by_figure : (s : RealShape) → is_settled s ≡ settled_by (real_figure s)
by_figure (shape.Plain s) = refl
by_figure (shape.ArcDraw a) = refl
by_figure (shape.Slanted a) = refl
by_figure (shape.Region area) = refl
by_figure (shape.Turned t) = refl
by_figure (shape.TurnedDisc disc) = refl
by_figure (shape.Polygon g) = refl
by_figure (shape.Fine f) = refl
by_figure (shape.Holed h) = refl

by_move : (dx dy : ℤ) (f : RealFigure) → settled_by (shifted_real dx dy f) ≡ settled_by f
by_move dx dy (exact f) = refl
by_move dx dy (arc a) = refl
by_move dx dy (line a) = refl
by_move dx dy (region start parts) = refl
by_move dx dy (turned contour about angle) = refl
by_move dx dy (turned_disc d) = refl
by_move dx dy (polygon g) = refl
by_move dx dy (odd f) = refl
by_move dx dy (holed h) = refl

pub settled_moved : (dx dy : ℤ) (s moved : RealShape) → real_figure moved ≡ shifted_real dx dy (real_figure s) → is_settled s ≡ true → is_settled moved ≡ true
settled_moved dx dy s moved is h = by_figure moved ∙ ap settled_by is ∙ by_move dx dy (real_figure s) ∙ sym (by_figure s) ∙ h

one_settled : (r : Placed RealShape) (p : Placed Anchored) → plain_real r ≡ piece_by plain p → is_settled r.shape ≡ true
one_settled r p h = by_figure r.shape ∙ ap (λ (q : PlainReal). settled_by q.figure) h ∙ sym (by_figure p.shape.shape) ∙ p.shape.settled

-- shapes of the figures that the reader keeps
pub all_settled : (reals : List (Placed RealShape)) (pieces : List (Placed Anchored)) → plain_reals reals ≡ pieces_by plain pieces → All (λ (q : Placed RealShape). is_settled q.shape ≡ true) reals
all_settled [] pieces h = All-nil (λ (q : Placed RealShape). is_settled q.shape ≡ true)
all_settled (r ∷ reals) [] h = absurd cc
all_settled (r ∷ reals) (p ∷ pieces) h =
    let first : plain_real r ≡ piece_by plain p = cc in
    let more : plain_reals reals ≡ pieces_by plain pieces = cc in
    All-cons (λ (q : Placed RealShape). is_settled q.shape ≡ true) r reals (one_settled r p first) (all_settled reals pieces more)
