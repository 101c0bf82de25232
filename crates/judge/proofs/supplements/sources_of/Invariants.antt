use Rattle.std.proofs.Common.{◌≡◌, map, take}
use Rattle.board_shapes.specs.Pieces.{plain_pieces}
use Rattle.board_shapes.specs.Tables.{source_of as source_on}
use Rattle.verdict.specs.Right.{source_of}
use Rattle.judge.proofs.supplements.sources_of.Given as goal

abbrev pub invariant-loop-piece : goal.invariant-loop-piece
invariant-loop-piece l = l.sources ≡ map source_of (map source_on (plain_pieces (take l.piece-index l.pieces)))
