use Rattle.std.proofs.Common.{arith}
use Rattle.std.proofs.lemmas.List.{length_push}
use Rattle.area_contact.proofs.RunBoxes.{about_more}
use Rattle.area_contact.proofs.runs.run_boxes.Goals as goal

pub loop-k-preserved : goal.loop-k-preserved
loop-k-preserved c = rw c.in_ok-push.ensures.items (
  (let l = length_push c.loop-k.boxes.items c.run_box.result in omega (arith, c.loop-k.invariant.0)),
  about_more c.args.points.now c.args.numbers.now c.part.result.now c.loop-k.boxes.items c.args.size c.loop-k.k c.run_box.result c.loop-k.invariant.0 c.part.ensures c.run_box.ensures c.loop-k.invariant.1,
)
