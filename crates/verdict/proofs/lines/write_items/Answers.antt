use Rattle.verdict.proofs.Gathered.{gathered_turn}
use Rattle.verdict.proofs.Numbered.{numbered_turn}
use Rattle.verdict.proofs.lines.write_items.Goals as goal

pub loop-number-preserved : goal.loop-number-preserved
loop-number-preserved g c = (numbered_turn g.T.Line.text _ _ _ c.args.items.now c.loop-number.number c.index-items-number.result c.index-items-number.result c.loop-number-test.true c.index-items-number.is c.loop-number.invariant.0 c.in_ok-write.ensures.written, gathered_turn g.T.Line.is_lawful c.args.items.now c.loop-number.number c.index-items-number.result c.index-items-number.result c.loop-number-test.true c.index-items-number.is c.loop-number.invariant.1 c.in_ok-write.ensures.lawful)
