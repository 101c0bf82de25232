use Rattle.std.proofs.Common.{◌≡◌, drop}
use Rattle.board_shapes.specs.CommonBox.{box_around}
use Rattle.board_shapes.specs.Pieces.{plain_pieces}
use Rattle.board_shapes.proofs.common_box.widened.Given as goal

abbrev pub invariant-loop-piece : goal.invariant-loop-piece
invariant-loop-piece l = box_around l.all (plain_pieces (drop l.piece-index l.pieces)) ≡ box_around l.initial.all (plain_pieces l.pieces)
