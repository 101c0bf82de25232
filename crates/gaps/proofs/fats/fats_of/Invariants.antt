use Rattle.std.proofs.Common.{pos, take}
use Rattle.board_shapes.specs.Pieces.{plain_pieces}
use Rattle.gaps.specs.GrownPieces.{AreGrown}
use Rattle.gaps.proofs.fats.fats_of.Given as goal

abbrev pub invariant-loop-piece : goal.invariant-loop-piece
invariant-loop-piece l = AreGrown (pos l.grow) (plain_pieces (take l.piece-index l.pieces)) l.fats.items
