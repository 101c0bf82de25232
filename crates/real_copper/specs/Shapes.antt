-- The figures of the shapes that the reader makes, and pieces of them.
use Rattle.std.specs.Prelude.{List}
use Rattle.board_shapes.specs.Pieces.{PieceOf}
use Rattle.board_shapes.specs.declared.placed.Placed.{Placed}
use Rattle.step_repeat.specs.Copies.{piece_by, pieces_by}
use Rattle.board_shapes.specs.Figures.{figure_of}
use Rattle.real_shapes.specs.declared.RealShape.{RealShape}
use Rattle.real_shapes.specs.declared.RealShape.TheVariants as shape
use Rattle.real_copper.specs.Figures.{RealFigure, exact, arc, line, region, turned, turned_disc, polygon, odd, holed}

-- a shape without where its points lie in memory
abbrev pub real_figure : RealShape → RealFigure
real_figure (shape.Plain s) = exact (figure_of s)
real_figure (shape.ArcDraw a) = arc a
real_figure (shape.Slanted a) = line a
real_figure (shape.Region area) = region area.start area.parts.items
real_figure (shape.Turned t) = turned t.contour.items t.about t.angle
real_figure (shape.TurnedDisc disc) = turned_disc disc
real_figure (shape.Polygon g) = polygon g
real_figure (shape.Fine f) = odd f
real_figure (shape.Holed h) = holed h

-- one figure on a span of layers
abbrev pub PlainReal : Type 0
PlainReal = PieceOf RealFigure

-- a piece without where its points lie in memory, and each of a list
abbrev pub plain_real : Placed RealShape → PlainReal
plain_real p = piece_by real_figure p

abbrev pub plain_reals : List (Placed RealShape) → List PlainReal
plain_reals pieces = pieces_by real_figure pieces
