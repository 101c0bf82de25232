use Rattle.area_contact.proofs.RunBoxes.{about_run, over_turn}
use Rattle.area_contact.proofs.runs.run_box.Goals as goal

pub loop-number-preserved : goal.loop-number-preserved
loop-number-preserved c = over_turn c.args.points.now c.loop-number.all c.segment_box.result c.joined_with-all.result c.args.numbers.now c.loop-number.number-index c.segment_box.ensures c.joined_with-all.ensures c.loop-number.invariant

pub returns : goal.returns
returns c = about_run c.args.points.now c.loop-number.all c.args.numbers.now c.loop-number.number-index c.requires.placed c.requires.edges c.loop-number-test.false c.loop-number.invariant
