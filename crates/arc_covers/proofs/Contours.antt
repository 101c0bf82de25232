-- What one figure alone bounds.
use Rattle.std.proofs.Common.{◌≡◌, ◌↔◌, ◌⊎◌, inl, inr, ◌≤◌, ◌<◌, length, List, [], ◌∷◌, Bool, false, IsTrue, get_or, refl, sym, ap, subst, arith}
use Rattle.board_shapes.specs.Figures.{Figure, figure_of}
use Rattle.board_shapes.specs.Pieces.{plain_pieces}
use Rattle.board_shapes.specs.declared.placed.Placed.{Placed}
use Rattle.board_shapes.specs.declared.shape.Shape.{Shape}
use Rattle.arcs.specs.declared.Arc.{Arc}
use Rattle.arc_regions.specs.declared.Region.{Region as Contour}
use Rattle.real_shapes.specs.declared.RealShape.{RealShape}
use Rattle.fine_figures.specs.declared.HoledFigure.{HoledFigure}
use Rattle.slants.specs.declared.figure.TurnedFigure.{TurnedFigure}
use Rattle.real_shapes.specs.declared.RealShape.TheVariants.{ArcDraw, Fine, Holed, Plain, Polygon, Region, Slanted, Turned, TurnedDisc}
use Rattle.arc_covers.specs.Bounds.{OneFigure, OrNone, figures_of}
use Rattle.arc_covers.specs.Taken.{AloneTaken, StandTaken}
use Rattle.arc_covers.specs.declared.side.Side.{Side}
use Rattle.arc_covers.specs.declared.side.Side.TheVariants.{Above, Below}

pub of_figure : (P : Figure → Type 0) (f : Figure) (b : Bool) → IsTrue b ↔ P f → IsTrue b ↔ OneFigure P (f ∷ [])
of_figure P f b told = (λ yes. (f, refl, told.0 yes), λ (g, same, taken). told.1 (let one : g ≡ f = cc in subst P one taken))

-- ---- one figure of which something holds, or none

pub or_one : (side : Side) (P : List Figure → Type 0) (f : Figure) (figures : List Figure) (b : Bool) → figures ≡ f ∷ [] → IsTrue b ↔ P (f ∷ []) → IsTrue b ↔ OrNone side P figures
or_one Above P f figures b is told = (λ yes. subst P (sym is) (told.0 yes), λ h. told.1 (subst P is h))
or_one Below P f figures b is told = (λ yes. inr (subst P (sym is) (told.0 yes)), back)
  where
    back : (figures ≡ []) ⊎ P figures → IsTrue b
    back (inl none) = absurd cc
    back (inr h) = told.1 (subst P is h)

or_none : (side : Side) (P : List Figure → Type 0) (figures : List Figure) (b : Bool) → (P figures → ⊥) → figures ≡ [] → IsTrue b ↔ (side ≡ Below) → IsTrue b ↔ OrNone side P figures
or_none Above P figures b never is told = (λ yes. absurd (let no : Above ≡ Below = told.0 yes in cc), λ h. absurd (never h))
or_none Below P figures b never is told = (λ yes. inl is, λ h. told.1 refl)

or_more : (side : Side) (P : List Figure → Type 0) (f g : Figure) (rest figures : List Figure) (b : Bool) → (P figures → ⊥) → b ≡ false → figures ≡ f ∷ g ∷ rest → IsTrue b ↔ OrNone side P figures
or_more Above P f g rest figures b never off is = (λ yes. absurd cc, λ h. absurd (never h))
or_more Below P f g rest figures b never off is = (λ yes. absurd cc, back)
  where
    back : (figures ≡ []) ⊎ P figures → IsTrue b
    back (inl none) = absurd cc
    back (inr h) = absurd (never h)

-- ---- one piece, or more

pub one_piece : (pieces : List (Placed Shape)) (p : Placed Shape) → 1 ≤ length pieces → length pieces < 2 → p ≡ get_or pieces 0 p → figures_of (plain_pieces pieces) ≡ figure_of p.shape ∷ []
one_piece [] p some few is = absurd (omega arith)
one_piece (q ∷ []) p some few is = let same : q ≡ p = sym is in ap (λ (x : Placed Shape). figure_of x.shape ∷ []) same
one_piece (q ∷ r ∷ rest) p some few is = absurd (omega arith)

-- what one figure alone bounds has one
alone_is : (side : Side) (real : RealShape) (figures : List Figure) → AloneTaken side real figures → length figures ≡ 1
alone_is side (Slanted line) figures (points, same, taken) = ap (λ (fs : List Figure). length fs) same
alone_is side (TurnedDisc disc) figures (s, r, same, taken) = ap (λ (fs : List Figure). length fs) same
alone_is side (Polygon g) figures (points, same, taken) = ap (λ (fs : List Figure). length fs) same
alone_is side (Fine fine) figures (f, same, taken) = ap (λ (fs : List Figure). length fs) same
alone_is side (Plain shape) figures h = absurd h
alone_is side (ArcDraw arc) figures h = absurd h
alone_is side (Region area) figures h = absurd h
alone_is side (Turned t) figures h = absurd h
alone_is side (Holed f) figures h = absurd h

pub no_pieces : (side : Side) (real : RealShape) (pieces : List (Placed Shape)) (b : Bool) → length pieces < 1 → IsTrue b ↔ (side ≡ Below) → IsTrue b ↔ OrNone side (AloneTaken side real) (figures_of (plain_pieces pieces))
no_pieces side real [] b none told = or_none side (AloneTaken side real) [] b (λ h. let one = alone_is side real [] h in absurd (omega (arith, one))) refl told
no_pieces side real (p ∷ rest) b none told = absurd (omega arith)

pub more_pieces : (side : Side) (real : RealShape) (pieces : List (Placed Shape)) → 2 ≤ length pieces → IsTrue false ↔ OrNone side (AloneTaken side real) (figures_of (plain_pieces pieces))
more_pieces side real [] some = absurd (omega arith)
more_pieces side real (p ∷ []) some = absurd (omega arith)
more_pieces side real (p ∷ q ∷ rest) some = or_more side (AloneTaken side real) (figure_of p.shape) (figure_of q.shape) (figures_of (plain_pieces rest)) (figures_of (plain_pieces (p ∷ q ∷ rest))) false (λ h. let one = alone_is side real (figures_of (plain_pieces (p ∷ q ∷ rest))) h in absurd (omega (arith, one))) refl refl

-- and stands so
pub alone_stands : (side : Side) (real : RealShape) (figures : List Figure) (b : Bool) → ((x : Shape) → real ≡ Plain x → ⊥) → ((x : Arc) → real ≡ ArcDraw x → ⊥) → ((x : Contour) → real ≡ Region x → ⊥) → ((x : TurnedFigure) → real ≡ Turned x → ⊥) → ((x : HoledFigure) → real ≡ Holed x → ⊥)
    → IsTrue b ↔ OrNone side (AloneTaken side real) figures → IsTrue b ↔ StandTaken side real figures
alone_stands side (Slanted line) figures b plain bent curved turned drilled told = told
alone_stands side (Turned t) figures b plain bent curved turned drilled told = absurd (turned t refl)
alone_stands side (TurnedDisc disc) figures b plain bent curved turned drilled told = told
alone_stands side (Polygon g) figures b plain bent curved turned drilled told = told
alone_stands side (Fine fine) figures b plain bent curved turned drilled told = told
alone_stands side (Plain shape) figures b plain bent curved turned drilled told = absurd (plain shape refl)
alone_stands side (ArcDraw arc) figures b plain bent curved turned drilled told = absurd (bent arc refl)
alone_stands side (Region area) figures b plain bent curved turned drilled told = absurd (curved area refl)
alone_stands side (Holed f) figures b plain bent curved turned drilled told = absurd (drilled f refl)
