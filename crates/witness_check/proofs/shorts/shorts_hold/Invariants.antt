use Rattle.witness_check.proofs.Naming.{AreShortTo}
use Rattle.witness_check.proofs.shorts.shorts_hold.Given as goal

abbrev pub invariant-loop-n : goal.invariant-loop-n
invariant-loop-n l = AreShortTo l.shorts l.marks l.next l.n
