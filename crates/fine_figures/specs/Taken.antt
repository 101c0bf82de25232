-- Exactly which figures the checks take.
use Rattle.std.specs.Prelude.{ℤ, pos, ◌-ℤ◌, ◌*ℤ◌, ◌≤ℤ◌, ◌<ℤ◌, ◌≡◌, List}
use Rattle.planar.specs.Plane.{dot_of, square}
use Rattle.planar.specs.declared.Spot.{Spot}
use Rattle.contact.specs.declared.Bounds.{Bounds}
use Rattle.board_shapes.specs.Figures.{Figure, IsLawfulFigure, figure_box, filled, round}
use Rattle.board_shapes.specs.Rectangles.{rectangle}
use Rattle.fine_figures.specs.declared.FineFigure.{FineFigure}
use Rattle.fine_figures.specs.declared.FineFigure.TheVariants.{Round, Rectangle}
use Rattle.fine_figures.specs.declared.FineStroke.{FineStroke}

-- ---- strokes

-- the spot in half u
abbrev pub doubled : Spot → Spot
doubled s = record { x = pos 2 *ℤ s.x; y = pos 2 *ℤ s.y }

-- both ends of the fine stroke are at most so many half u from a and b, one by one
pub record EndsNear (f : FineStroke) (a b : Spot) (far : ℤ) : Type 0 where
  pub some : pos 0 ≤ℤ far
  pub start : dot_of f.a (doubled a) (doubled a) ≤ℤ square far
  pub end : dot_of f.b (doubled b) (doubled b) ≤ℤ square far

-- a stroke with a radius from 0, which is at least so much less
pub record IsThinner (f : FineStroke) (a b : Spot) (r : ℤ) : Type 0 where
  pub from_zero : pos 0 ≤ℤ r
  pub near : EndsNear f a b (pos f.r -ℤ pos 2 *ℤ r)

-- ---- rectangles

-- a box in u lies between sides in half u
pub record IsBetweenSides (sides box : Bounds) : Type 0 where
  pub not_left : sides.left ≤ℤ (pos 2 *ℤ box.left)
  pub not_right : (pos 2 *ℤ box.right) ≤ℤ sides.right
  pub not_below : sides.low ≤ℤ (pos 2 *ℤ box.low)
  pub not_above : (pos 2 *ℤ box.high) ≤ℤ sides.high

-- the box of a figure does
pub record IsInSides (sides : Bounds) (f : Figure) : Type 0 where
  pub lawful : IsLawfulFigure f
  pub between : IsBetweenSides sides (figure_box f)

-- from a lower left corner to an upper right one, and the sides are not outside
pub record HoldSides (lower upper : Spot) (sides : Bounds) : Type 0 where
  pub wide : lower.x <ℤ upper.x
  pub high : lower.y <ℤ upper.y
  pub not_left : (pos 2 *ℤ lower.x) ≤ℤ sides.left
  pub not_right : sides.right ≤ℤ (pos 2 *ℤ upper.x)
  pub not_below : (pos 2 *ℤ lower.y) ≤ℤ sides.low
  pub not_above : sides.high ≤ℤ (pos 2 *ℤ upper.y)

-- the points are the corners of such a rectangle, counterclockwise from the lower left one
pub record IsRectangleAround (sides : Bounds) (points : List Spot) : Type 0 where
  pub lower : Spot
  pub upper : Spot
  pub are : points ≡ rectangle lower upper
  pub hold : HoldSides lower upper sides

-- ---- both

-- for a fine stroke a thinner one, for a fine rectangle what is between its sides
abbrev pub TakenBelow : FineFigure → Figure → Type 0
TakenBelow (Round f) (round s) = IsThinner f s.a s.b s.r
TakenBelow (Round f) (filled points) = ⊥
TakenBelow (Rectangle sides) figure = IsInSides sides figure

-- for a fine stroke one that is at least so much thicker as the ends are off, for a fine rectangle one around its sides
abbrev pub TakenAbove : FineFigure → Figure → Type 0
TakenAbove (Round f) (round s) = EndsNear f s.a s.b (pos 2 *ℤ s.r -ℤ pos f.r)
TakenAbove (Round f) (filled points) = ⊥
TakenAbove (Rectangle sides) (round s) = ⊥
TakenAbove (Rectangle sides) (filled points) = IsRectangleAround sides points

-- ---- words that only contracts want

-- as far across as the one spot and as far up as the other
abbrev pub corner : Spot → Spot → Spot
corner across up = record { x = across.x; y = up.y }
