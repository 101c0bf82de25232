use Rattle.witness_check.proofs.Opening.{opens_stop}
use Rattle.witness_check.proofs.Told.{denied}
use Rattle.witness_check.proofs.opens.past_opens.Goals as goal

pub returns-then-not-stands_at : goal.returns-then-not-stands_at
returns-then-not-stands_at c = opens_stop c.args.name c.args.home c.args.seats.now c.args.opens.now c.args.next c.loop-i.i c.loop-i.at _ c.loop-i-test.true (denied c.stands_at.result _ c.stands_at.ensures c.if-not-stands_at.true) c.loop-i.invariant
