use Rattle.std.proofs.Common.{length}
use Rattle.witness_check.proofs.Branching.{AreBranchedTo}
use Rattle.witness_check.proofs.branches.are_branches.Given as goal

abbrev pub invariant-loop-i : goal.invariant-loop-i
invariant-loop-i l = AreBranchedTo l.net l.homes l.marks l.branches l.stamp (length l.initial.stamps) l.i l.stamps
