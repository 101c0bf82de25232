use Rattle.witness_check.proofs.Opening.{AreOpenTo}
use Rattle.witness_check.proofs.opens.opens_hold.Given as goal

abbrev pub invariant-loop-n : goal.invariant-loop-n
invariant-loop-n l = AreOpenTo l.names l.groups l.opens l.next l.n
