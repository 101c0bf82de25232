use Rattle.witness_check.proofs.Opening.{AreOpensTo}
use Rattle.witness_check.proofs.opens.past_opens.Given as goal

abbrev pub invariant-loop-i : goal.invariant-loop-i
invariant-loop-i l = AreOpensTo l.name l.home l.seats l.opens l.next l.i l.at
