-- What the command `write` puts.
use Rattle.std.specs.Prelude.{◌≡◌, ℕ, List}
use Rattle.board_shapes.specs.Plain.{PlainBoard}
use Rattle.reports.specs.Right.{IsRightOn}
use Rattle.netlist_writer.specs.WrittenNetlist.{written_netlist_of}
use Rattle.verdict.specs.declared.verdict.Verdict.{Verdict}

-- the written netlist of a board, for the nets of a right verdict on it
pub record IsNetlistOn (board : PlainBoard) (text : List ℕ) : Type 0 where
  pub verdict : Verdict
  pub right : IsRightOn board verdict
  pub text_is : text ≡ written_netlist_of board.layers verdict.nets board.pieces
