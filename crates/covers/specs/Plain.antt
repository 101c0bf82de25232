-- The boards that the program reads, as boards with any copper.
use Rattle.std.specs.Prelude.{ℕ, ◌≡◌, Some, map, slice_get}
use Rattle.planar.specs.Plane.{Point}
use Rattle.board_shapes.specs.Figures.{InFigure}
use Rattle.board_shapes.specs.Plain.{PlainBoard, PlainPiece}
use Rattle.covers.specs.Boards.{Layout, Span}

-- the layers of the piece
abbrev pub span_of : PlainPiece → Span
span_of piece = record { top = piece.top; bottom = piece.bottom }

-- the board but for its copper
abbrev pub layout_of : PlainBoard → Layout
layout_of b = record { spans = map span_of b.pieces; probes = b.probes; names = b.names; layers = b.layers }

-- the point lies in the figure of piece i
pub record InPiece (b : PlainBoard) (i : ℕ) (p : Point) : Type 0 where
  pub piece : PlainPiece
  pub piece_is : slice_get b.pieces i ≡ Some piece
  pub inside : InFigure piece.figure p
