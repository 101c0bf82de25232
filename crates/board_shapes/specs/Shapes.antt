-- A shape as a solid: the points, the box and the invariant of its figure.
use Rattle.planar.specs.Plane.{Point}
use Rattle.contact.specs.declared.Bounds.{Bounds}
use Rattle.contact.specs.RoundLaws.{boxed as round_boxed, not_empty as round_not_empty}
use Rattle.contact.specs.Solid.{InBox}
use Rattle.area_contact.specs.AreaLaws.{boxed as area_boxed, not_empty as area_not_empty}
use Rattle.board_shapes.specs.declared.shape.Shape.{Shape}
use Rattle.board_shapes.specs.declared.shape.Shape.TheVariants.{Round, Filled}
use Rattle.board_shapes.specs.Figures.{Figure, round, filled, figure_of, InFigure, IsLawfulFigure, figure_box}

-- the point lies in the shape
abbrev pub InShape : Shape → Point → Type 0
InShape s p = InFigure (figure_of s) p

-- the box of the shape
abbrev pub shape_box : Shape → Bounds
shape_box s = figure_box (figure_of s)

-- the shape keeps the invariant of its type
abbrev pub IsShapeLawful : Shape → Type 0
IsShapeLawful s = IsLawfulFigure (figure_of s)

-- ---- Laws

-- each shape does
pub lawful : (s : Shape) → IsShapeLawful s
lawful (Round c) = (c.start, c.end, c.radius)
lawful (Filled a) = record { closed = a.closed; enough = a.enough; not_many = a.not_many; placed = a.placed }

-- a lawful figure has a point, and its points lie in its box
pub not_empty_figure : (f : Figure) → IsLawfulFigure f → (p : Point) × InFigure f p
not_empty_figure (round s) h = round_not_empty s.a s.b s.r h
not_empty_figure (filled points) h = area_not_empty points h

pub boxed_figure : (f : Figure) (p : Point) → IsLawfulFigure f → InFigure f p → InBox (figure_box f) p
boxed_figure (round s) p h k = round_boxed s.a s.b s.r p h k
boxed_figure (filled points) p h k = area_boxed points p h k

-- and so with shapes
pub not_empty : (s : Shape) → IsShapeLawful s → (p : Point) × InShape s p
not_empty s h = not_empty_figure (figure_of s) h

pub boxed : (s : Shape) (p : Point) → IsShapeLawful s → InShape s p → InBox (shape_box s) p
boxed s p h k = boxed_figure (figure_of s) p h k
