-- Shapes as plain data, without their invariants: figures, their points and their boxes.
use Rattle.std.specs.Prelude.{ℕ, ◌-◌, ℤ, List, length, Option, Some, None}
use Rattle.planar.specs.declared.Spot.{Spot}
use Rattle.planar.specs.Plane.{InCapsule, Point}
use Rattle.contact.specs.declared.Bounds.{Bounds}
use Rattle.contact.specs.declared.Capsule.{Capsule}
use Rattle.contact.specs.Round.{IsLawful, box_of}
use Rattle.area_contact.specs.Contour.{InArea, IsContour, area_box, edges_of}
use Rattle.area_contact.specs.declared.Area.{Area}
use Rattle.board_shapes.specs.declared.shape.Shape.{Shape}
use Rattle.board_shapes.specs.declared.shape.Shape.TheVariants.{Round, Filled}

-- the places at most r away from the segment from a to b
pub record Stroke : Type 0 where
  pub a : Spot
  pub b : Spot
  pub r : ℤ

-- a stroke, or what the closed contour through the points bounds
pub data Figure : Type 0 where
  round : Stroke → Figure
  filled : List Spot → Figure

-- the figure of a capsule, of an area, and of a shape, which is one of the two
abbrev pub capsule_figure : Capsule → Figure
capsule_figure c = round (record { a = c.a; b = c.b; r = c.r })

abbrev pub area_figure : Area → Figure
area_figure area = filled area.points.items

abbrev pub figure_of : Shape → Figure
figure_of (Round c) = capsule_figure c
figure_of (Filled area) = area_figure area

-- the figure of a shape, if there is one
abbrev pub seen_shape : Option Shape → Option Figure
seen_shape None = None
seen_shape (Some shape) = Some (figure_of shape)

-- how many edges the figure has: none, or those of its contour
abbrev pub figure_edges : Figure → ℕ
figure_edges (round s) = 0
figure_edges (filled points) = length points - 1

-- the point lies in the figure
abbrev pub InFigure : Figure → Point → Type 0
InFigure (round s) p = InCapsule s.a s.b s.r p
InFigure (filled points) p = InArea (edges_of points) p

-- the box of the figure
abbrev pub figure_box : Figure → Bounds
figure_box (round s) = box_of s.a s.b s.r
figure_box (filled points) = area_box points

-- ends within one metre and a radius from 0 to MOST_RADIUS, or the points of a contour
abbrev pub IsLawfulFigure : Figure → Type 0
IsLawfulFigure (round s) = IsLawful s.a s.b s.r
IsLawfulFigure (filled points) = IsContour points
