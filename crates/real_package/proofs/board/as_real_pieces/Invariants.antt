use Rattle.std.proofs.Common.{◌≡◌, ◌++◌, length}
use Rattle.std.specs.Vec.Iter.{into_iter_items, into_iter_len}
use Rattle.real_copper.specs.Shapes.{plain_reals}
use Rattle.board_shapes.specs.Pieces.{plain_pieces}
use Rattle.real_package.specs.RealBoards.{as_reals}
use Rattle.real_package.proofs.board.as_real_pieces.Given as goal

abbrev pub invariant-loop-piece : goal.invariant-loop-piece
invariant-loop-piece l = (plain_reals l.reals.items ++ as_reals (plain_pieces (into_iter_items l.piece-iterator)) ≡ as_reals (plain_pieces (into_iter_items l.initial.piece-iterator)))
    × (into_iter_len l.piece-iterator ≡ length (into_iter_items l.piece-iterator))
