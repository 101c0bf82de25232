use Rattle.std.proofs.Common.{arith, pos, refl}
use Rattle.std.proofs.lemmas.Int.{ints}
use Rattle.planar.proofs.Meet.{wider, within_decide, either_true}
use Rattle.planar.proofs.distance.are_within.Goals as goal

pub returns-then-segments_meet : goal.returns-then-segments_meet
returns-then-segments_meet c = (λ h. wider c.args.a c.args.b c.args.c c.args.d (pos c.args.r) (omega (arith, ints)) (c.segments_meet.ensures.0 h), λ h. c.if-segments_meet.true)

pub returns-else-segments_meet : goal.returns-else-segments_meet
returns-else-segments_meet c =
    either_true c.if-segments_meet.false
    (within_decide c.args.a c.args.b c.args.c c.args.d (pos c.args.r) _ c.segments_meet.result c.ends_within.result (omega (arith, ints)) refl c.segments_meet.ensures c.ends_within.ensures)
