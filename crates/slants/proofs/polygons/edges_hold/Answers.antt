use Rattle.std.proofs.Common.{arith}
use Rattle.std.proofs.lemmas.Bool.{both_ways}
use Rattle.slants.specs.Polygons.{EdgeHolds}
use Rattle.slants.proofs.Reach.{one_more}
use Rattle.slants.proofs.polygons.edges_hold.Goals as goal

pub returns-then-not-edge_holds : goal.returns-then-not-edge_holds
returns-then-not-edge_holds c = (λ yes. absurd cc, λ all. absurd (both_ways c.edge_holds.result c.if-not-edge_holds.true (c.edge_holds.ensures.1 (all c.loop-k.k (omega arith)))))

pub loop-k-preserved : goal.loop-k-preserved
loop-k-preserved c = one_more (EdgeHolds c.args.g.now c.args.points.now) c.loop-k.k c.loop-k.invariant (c.edge_holds.ensures.0 c.if-not-edge_holds.false)
