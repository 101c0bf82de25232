-- Pieces and boards as plain data, without their invariants.
use Rattle.std.specs.Prelude.{ℕ, List}
use Rattle.planar.specs.declared.Frame.{Frame}
use Rattle.board_shapes.specs.declared.shape.Shape.{Shape}
use Rattle.board_shapes.specs.declared.placed.Placed.{Placed}
use Rattle.board_shapes.specs.declared.probe.Probe.{Probe}
use Rattle.board_shapes.specs.declared.board.Board.{Board}
use Rattle.board_shapes.specs.CommonBox.{common_box, frame_over}
use Rattle.board_shapes.specs.Pieces.{PlainPiece, plain_pieces}
pub use Rattle.board_shapes.specs.Figures.{Stroke, Figure, round, filled, figure_of}
pub use Rattle.board_shapes.specs.Pieces.{PlainPiece, plain_piece, plain_pieces}
pub use Rattle.board_shapes.specs.CommonBox.{common_box, FitsFrame, Fits}

-- pieces and probes, the texts of the net names, and how many layers there are
pub record PlainBoard : Type 0 where
  pub pieces : List PlainPiece
  pub probes : List Probe
  pub names : List (List ℕ)
  pub layers : ℕ

-- the board of these parts
abbrev pub plain_parts : List (Placed Shape) → List Probe → List (List ℕ) → ℕ → PlainBoard
plain_parts pieces probes names layers = record { pieces = plain_pieces pieces; probes = probes; names = names; layers = layers }

-- a board without its invariant
abbrev pub plain_board : Board → PlainBoard
plain_board b = plain_parts b.pieces.items b.probes b.names b.layers

-- the board of the same pieces and layers with these probes and names
abbrev pub with_netlist : PlainBoard → List Probe → List (List ℕ) → PlainBoard
with_netlist b probes names = record { pieces = b.pieces; probes = probes; names = names; layers = b.layers }

-- the frame of the board's pieces
abbrev pub frame_of : PlainBoard → Frame
frame_of b = frame_over (common_box b.pieces)

-- the pieces themselves
abbrev pub pieces_of : Board → List (Placed Shape)
pieces_of b = b.pieces.items
