use Rattle.witness_check.proofs.Naming.{AreNamedTo}
use Rattle.witness_check.proofs.shorts.are_named.Given as goal

abbrev pub invariant-loop-i : goal.invariant-loop-i
invariant-loop-i l = AreNamedTo l.branches l.marks l.i
