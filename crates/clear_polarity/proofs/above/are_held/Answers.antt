use Rattle.std.proofs.Common.{arith, sym}
use Rattle.clear_polarity.specs.Taken.{AreHeld}
use Rattle.clear_polarity.proofs.Helds.{ended, refused_at, turn_at}
use Rattle.clear_polarity.proofs.above.are_held.Goals as goal

pub loop-object-preserved : goal.loop-object-preserved
loop-object-preserved c =
    turn_at c.args.objects.now c.args.upper.now (AreHeld c.args.objects.now c.args.upper.now) c.loop-object.start c.loop-object.object-index c.loop-object.invariant.0 c.loop-object.invariant.1 c.object-item.result c.loop-object-test.true (sym c.object-item.is) c.from.result.now c.in-Some.count c.from.ensures c.in-Some.ensures.some.0 c.in-Some.ensures.some.1

pub returns-in-None : goal.returns-in-None
returns-in-None c = (
  λ t. absurd cc,
  λ w. absurd (refused_at c.args.objects.now c.args.upper.now (AreHeld c.args.objects.now c.args.upper.now) c.loop-object.start c.loop-object.object-index c.loop-object.invariant.0 c.loop-object.invariant.1 c.object-item.result c.loop-object-test.true (sym c.object-item.is) c.from.result.now c.from.ensures c.in-None.ensures.none w),
)

pub returns : goal.returns
returns c = ended c.args.objects.now c.args.upper.now (AreHeld c.args.objects.now c.args.upper.now) c.loop-object.start c.loop-object.object-index c.loop-object.invariant.0 c.loop-object.invariant.1 (omega (arith, c.loop-object-test.false))
