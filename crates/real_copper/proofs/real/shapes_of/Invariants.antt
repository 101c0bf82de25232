use Rattle.std.proofs.Common.{◌≡◌, ◌++◌, length}
use Rattle.std.specs.Vec.Iter.{into_iter_items, into_iter_len}
use Rattle.step_repeat.specs.Copies.{pieces_by}
use Rattle.real_copper.specs.RealReader.{plain}
use Rattle.real_copper.specs.Shapes.{plain_reals}
use Rattle.real_copper.proofs.real.shapes_of.Given as goal

abbrev pub invariant-loop-piece : goal.invariant-loop-piece
invariant-loop-piece l = (plain_reals l.reals.items ++ pieces_by plain (into_iter_items l.piece-iterator) ≡ pieces_by plain (into_iter_items l.initial.piece-iterator))
    × (into_iter_len l.piece-iterator ≡ length (into_iter_items l.piece-iterator))
