use Rattle.std.proofs.Common.{length}
use Rattle.witness_check.proofs.Branching.{AreRightTo}
use Rattle.witness_check.proofs.branches.branches_hold.Given as goal

abbrev pub invariant-loop-i : goal.invariant-loop-i
invariant-loop-i l = AreRightTo l.nets l.marks l.homes l.shorts (length l.initial.stamps) l.i l.stamps
