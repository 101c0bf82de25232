use Rattle.std.proofs.Common.{[], length}
use Rattle.witness_check.proofs.Told.{tested, through}
use Rattle.witness_check.proofs.Naming.{shorts_done}
use Rattle.witness_check.proofs.shorts.shorts_hold.Goals as goal

pub returns : goal.returns
returns c = through _ _ _ (tested c.loop-n.next (length c.args.shorts.now)) (shorts_done c.args.shorts.now c.args.marks.now c.loop-n.next c.loop-n.n (record { net = 0; branches = [] }) c.loop-n-test.false c.loop-n.invariant)
