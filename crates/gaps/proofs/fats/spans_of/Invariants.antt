use Rattle.std.proofs.Common.{◌≡◌, map, take}
use Rattle.board_shapes.specs.Pieces.{plain_pieces}
use Rattle.gaps.specs.GrownPieces.{piece_span}
use Rattle.gaps.proofs.fats.spans_of.Given as goal

abbrev pub invariant-loop-piece : goal.invariant-loop-piece
invariant-loop-piece l = l.spans.items ≡ map piece_span (plain_pieces (take l.piece-index l.pieces))
