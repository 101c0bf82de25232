use Rattle.std.proofs.Common.{◌+◌, arith, refl, rules}
use Rattle.gaps.proofs.Collecting.{covered_all, covered_more, covered_none}
use Rattle.gaps.proofs.found.Found.covers_all.Goals as goal

pub loop-layer-init : goal.loop-layer-init
loop-layer-init c = covered_none c.args.pair.now.low c.args.pair.now.high c.args.pair.now.first c.args.pair.now.second c.args.pair.now.top c.args.self.now.lines.items

pub loop-layer-preserved : goal.loop-layer-preserved
loop-layer-preserved c =
    covered_more c.args.pair.now.low c.args.pair.now.high c.args.pair.now.first c.args.pair.now.second c.args.pair.now.top c.loop-layer.layer (c.loop-layer.layer + 1) c.args.self.now.lines.items c.line.result refl c.line.ensures.layer c.line.ensures.low c.line.ensures.high c.line.ensures.first c.line.ensures.second
    (c.covers.ensures (search rules)) c.loop-layer.invariant

pub returns : goal.returns
returns c = λ t gap l. covered_all c.args.pair.now.low c.args.pair.now.high c.args.pair.now.first c.args.pair.now.second c.args.pair.now.top (c.args.pair.now.bottom + 1) c.loop-layer.layer c.args.self.now.lines.items (omega (arith, c.loop-layer-test.false)) c.loop-layer.invariant gap l
