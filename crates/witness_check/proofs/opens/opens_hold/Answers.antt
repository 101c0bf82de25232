use Rattle.std.proofs.Common.{length}
use Rattle.witness_check.proofs.Opening.{names_done}
use Rattle.witness_check.proofs.Told.{tested, through}
use Rattle.witness_check.proofs.opens.opens_hold.Goals as goal

pub returns : goal.returns
returns c = λ lines firsts. through _ _ _ (tested c.loop-n.next (length c.args.opens.now)) (names_done c.args.names.now c.args.groups.now c.args.opens.now c.loop-n.next c.loop-n.n c.loop-n-test.false c.loop-n.invariant lines firsts)
