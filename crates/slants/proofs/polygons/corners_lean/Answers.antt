use Rattle.std.proofs.Common.{◌*◌}
use Rattle.slants.specs.Polygons.{corner_of, turns_to}
use Rattle.slants.specs.Turned.{Leans}
use Rattle.slants.proofs.Reach.{one_more}
use Rattle.slants.proofs.polygons.corners_lean.Goals as goal

pub loop-k-preserved : goal.loop-k-preserved
loop-k-preserved c = one_more (λ k. Leans (turns_to c.args.g.now (2 * k)) c.args.b c.args.c (corner_of c.args.g.now k)) c.loop-k.k c.loop-k.invariant (c.corner_leans.ensures.0 c.if-not-corner_leans.false)
