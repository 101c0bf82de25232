use Rattle.std.proofs.Common.{arith}
use Rattle.arc_covers.proofs.Parts.{parts_turn}
use Rattle.arc_covers.proofs.regions.parts_stand.Goals as goal

pub loop-part-preserved : goal.loop-part-preserved
loop-part-preserved c =
    let turn =
    parts_turn c.args.start c.loop-part.from c.end_of-from.result c.args.parts.now c.loop-part.part-index _ c.loop-part.spots.now c.behind-spots.result.now c.loop-part.rest.now c.behind-rest.result.now c.in_ok-n.field-0 c.in-Some.n c.in-Some.m c.in-Some.is
    c.in_ok-n.ensures.some (omega arith) c.end_of-from.ensures c.behind-spots.ensures c.behind-rest.ensures in (
      λ h. c.loop-part.invariant.0 (turn.0 h),
      λ h. turn.1 (c.loop-part.invariant.1 h),
    )
