-- The pieces of a board with their shapes grown, and their spans.
use Rattle.std.specs.Prelude.{◌≡◌, ℤ, List, map, All}
use Rattle.board_shapes.specs.declared.placed.Placed.{Placed}
use Rattle.board_shapes.specs.Figures.{figure_of}
use Rattle.board_shapes.specs.Pieces.{PlainPiece}
use Rattle.gaps.specs.declared.Fat.{Fat}
use Rattle.gaps.specs.declared.meetings.Span.{Span}

-- the piece whose shape is grown
abbrev pub piece_in : Placed Fat → PlainPiece
piece_in f = record { figure = figure_of f.shape.shape.now; top = f.top; bottom = f.bottom; origin = f.origin }

-- the pieces, each of them grown by g
pub record AreGrown (g : ℤ) (pieces : List PlainPiece) (fats : List (Placed Fat)) : Type 0 where
  pub pieces_are : map piece_in fats ≡ pieces
  pub growths : All (λ f. f.shape.grow ≡ g) fats

-- the first and the last layer of a piece
abbrev pub piece_span : PlainPiece → Span
piece_span p = record { top = p.top; bottom = p.bottom }
