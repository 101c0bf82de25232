use Rattle.std.proofs.Common.{All, arith, refl}
use Rattle.clear_polarity.specs.Taken.{IsLeft}
use Rattle.clear_polarity.proofs.Lists.{all_first, all_next, all_past}
use Rattle.clear_polarity.proofs.below.are_left.Goals as goal

pub loop-piece-preserved : goal.loop-piece-preserved
loop-piece-preserved c =
    all_next (IsLeft c.args.frame c.args.objects.now) c.args.pieces.now c.loop-piece.piece-index c.piece-item.result (All (IsLeft c.args.frame c.args.objects.now) c.args.pieces.now) c.loop-piece-test.true c.piece-item.is c.loop-piece.invariant (c.is_left.ensures.0 c.if-not-is_left.false)

pub returns-then-not-is_left : goal.returns-then-not-is_left
returns-then-not-is_left c = (
  λ t. absurd cc,
  λ w.
      let t = c.is_left.ensures.1 (all_first (IsLeft c.args.frame c.args.objects.now) c.args.pieces.now c.loop-piece.piece-index c.piece-item.result (All (IsLeft c.args.frame c.args.objects.now) c.args.pieces.now) c.loop-piece-test.true c.piece-item.is c.loop-piece.invariant w) in
      let f = c.if-not-is_left.true in
      absurd cc,
)

pub returns : goal.returns
returns c = (λ t. c.loop-piece.invariant.0 (all_past (IsLeft c.args.frame c.args.objects.now) c.args.pieces.now c.loop-piece.piece-index (omega (arith, c.loop-piece-test.false))), λ w. refl)
