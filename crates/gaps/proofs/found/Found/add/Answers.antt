use Rattle.std.proofs.Common.{arith, refl, sym, subst, inr, List, ◌+◌}
use Rattle.gaps.specs.declared.gap.Gap.{Gap}
use Rattle.gaps.specs.Meetings.{GainsLines, IsLineOf}
use Rattle.gaps.proofs.Collecting.{all_layers, one_more}
use Rattle.gaps.proofs.found.Found.add.Goals as goal

pub loop-layer-preserved : goal.loop-layer-preserved
loop-layer-preserved c = (
  omega (arith, c.loop-layer.invariant.0),
  inr (omega (arith, c.loop-layer-test.true)),
  subst (λ (xs : List Gap). GainsLines (IsLineOf c.args.pair.now.low c.args.pair.now.high c.args.pair.now.first c.args.pair.now.second c.args.pair.now.top (c.loop-layer.layer + 1)) c.args.self.now.lines.items xs) (sym c.in_ok-push.ensures)
      (one_more c.args.pair.now.low c.args.pair.now.high c.args.pair.now.first c.args.pair.now.second c.args.pair.now.top c.loop-layer.layer (c.loop-layer.layer + 1) c.args.self.now.lines.items c.loop-layer.self.lines.items c.line.result c.loop-layer.invariant.0 refl c.line.ensures.layer c.line.ensures.low c.line.ensures.high c.line.ensures.first c.line.ensures.second c.loop-layer.invariant.2),
)

pub returns : goal.returns
returns c =
    all_layers c.args.pair.now.low c.args.pair.now.high c.args.pair.now.first c.args.pair.now.second c.args.pair.now.top _ c.loop-layer.layer _ _ c.args.self.now.lines.items c.loop-layer.self.lines.items refl refl (omega (arith, c.loop-layer-test.false)) c.loop-layer.invariant.1 c.loop-layer.invariant.2
