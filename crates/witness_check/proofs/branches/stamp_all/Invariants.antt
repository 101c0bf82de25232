use Rattle.std.proofs.Common.{take}
use Rattle.witness_check.proofs.Stamping.{AreStampedTo}
use Rattle.witness_check.proofs.branches.stamp_all.Given as goal

abbrev pub invariant-loop-piece : goal.invariant-loop-piece
invariant-loop-piece l = AreStampedTo l.stamp l.initial.stamps (take l.piece-index l.pieces) l.stamps
