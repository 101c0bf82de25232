-- Pieces as plain data.
use Rattle.std.specs.Prelude.{ℕ, List, map, sum_by}
use Rattle.board_shapes.specs.declared.shape.Shape.{Shape}
use Rattle.board_shapes.specs.declared.placed.Origin.{Origin}
use Rattle.board_shapes.specs.declared.placed.Placed.{Placed}
use Rattle.board_shapes.specs.Figures.{Figure, figure_edges, figure_of}

-- a figure, of whatever kind, on a span of layers
pub record PieceOf (G : Type 0) : Type 0 where
  pub figure : G
  pub top : ℕ
  pub bottom : ℕ
  pub origin : Origin

-- a figure of ours on a span of layers
abbrev pub PlainPiece : Type 0
PlainPiece = PieceOf Figure

-- a piece with the figure of its shape, and each of a list
abbrev pub plain_piece : Placed Shape → PlainPiece
plain_piece p = record { figure = figure_of p.shape; top = p.top; bottom = p.bottom; origin = p.origin }

abbrev pub plain_pieces : List (Placed Shape) → List PlainPiece
plain_pieces pieces = map plain_piece pieces

-- how many edges the figures of the pieces have
abbrev pub edges_in : List PlainPiece → ℕ
edges_in pieces = sum_by (λ p. figure_edges p.figure) pieces
