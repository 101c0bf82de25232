use Rattle.std.proofs.Common.{arith, refl, sym}
use Rattle.std.proofs.lemmas.List.{take_all}
use Rattle.std.proofs.lemmas.List.Elements.{All-more, All-same}
use Rattle.slants.specs.Polygons.{CornersLean}
use Rattle.slants.proofs.polygons.all_corners_lean.Goals as goal

pub loop-g-preserved : goal.loop-g-preserved
loop-g-preserved c = All-more (λ g. CornersLean g c.args.b c.args.c) c.args.gs.now c.loop-g.g-index _ (omega arith) c.loop-g.invariant (c.corners_lean.ensures.0 c.if-not-corners_lean.false)

pub returns : goal.returns
returns c = (λ yes. All-same (λ g. CornersLean g c.args.b c.args.c) c.args.gs.now _ (sym (take_all c.loop-g.g-index c.args.gs.now c.loop-g-test.false)) c.loop-g.invariant, λ all. refl)
