use Rattle.cell_index.proofs.Found.{met_boxes}
use Rattle.cell_index.proofs.finer.is_met.Goals as goal

pub returns-then-not-meet : goal.returns-then-not-meet
returns-then-not-meet c met = (let t = c.meet.ensures.1 (met_boxes c.args.copy.now c.args.bounds c.args.patch.now c.args.across c.args.up met) in let f = c.if-not-meet.true in cc)

pub returns-then-not-begins_across : goal.returns-then-not-begins_across
returns-then-not-begins_across c met = (let t = c.begins_across.ensures met.from_left in let f = c.if-not-begins_across.true in cc)

pub returns : goal.returns
returns c met = c.begins_up.ensures met.from_low
