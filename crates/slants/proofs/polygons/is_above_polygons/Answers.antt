use Rattle.std.proofs.Common.{rules}
use Rattle.slants.proofs.Regular.{above_polygons}
use Rattle.slants.proofs.polygons.is_above_polygons.Goals as goal

pub returns-clause-copper : goal.returns-clause-copper
returns-clause-copper c = λ yes p. above_polygons c.args.gs.now c.args.points.now p record { regular = search rules; placed = search rules; round = c.goes_round.ensures.0 yes }
