use Rattle.std.proofs.Common.{rules}
use Rattle.slants.proofs.Regular.{below_polygon}
use Rattle.slants.proofs.polygons.is_below_polygon.Goals as goal

pub returns-then-is_closed-clause-copper : goal.returns-then-is_closed-clause-copper
returns-then-is_closed-clause-copper c = λ yes p. below_polygon c.args.g.now c.args.points.now p record { regular = search rules; placed = search rules; closed = search rules; edges = c.edges_hold.ensures.0 yes }

pub returns-then-is_closed-clause-taken : goal.returns-then-is_closed-clause-taken
returns-then-is_closed-clause-taken c = (λ yes. record { regular = search rules; placed = search rules; closed = search rules; edges = c.edges_hold.ensures.0 yes }, λ h. c.edges_hold.ensures.1 h.edges)
