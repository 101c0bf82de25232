use Rattle.std.proofs.Common.{arith}
use Rattle.regions.proofs.Points.{points_are, points_placed}
use Rattle.regions.proofs.contour.Contour.points.Goals as goal

pub returns-clause-value : goal.returns-clause-value
returns-clause-value g c = points_are c.loop-leg.points.items c.args.self.now.first c.args.self.now.legs.items c.loop-leg.leg-index (omega (arith, c.loop-leg-test.false)) c.loop-leg.invariant

pub returns-clause-placed : goal.returns-clause-placed
returns-clause-placed g c = points_placed c.loop-leg.points.items c.args.self.now.first c.args.self.now.legs.items c.args.self.now.begun c.args.self.now.placed (returns-clause-value g c)
