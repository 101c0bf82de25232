use Rattle.slants.proofs.Sides.{above_holds}
use Rattle.slants.proofs.above.is_above.Goals as goal

pub returns-then-is_ready-clause-copper : goal.returns-then-is_ready-clause-copper
returns-then-is_ready-clause-copper c = λ yes p. above_holds c.args.slant.now c.args.points.now p record { placed = c.is_ready.ensures.0 c.if-is_ready.true; edges = c.has_root.ensures.0 yes }
