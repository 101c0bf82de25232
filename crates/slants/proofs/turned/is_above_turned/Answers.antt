use Rattle.std.proofs.Common.{rules}
use Rattle.slants.proofs.Around.{above_turned}
use Rattle.slants.proofs.turned.is_above_turned.Goals as goal

pub returns-then-is_closed-clause-copper : goal.returns-then-is_closed-clause-copper
returns-then-is_closed-clause-copper c = λ yes t p. above_turned c.args.figure.now c.args.m.now c.args.points.now t p record { ready = search rules; figure_placed = search rules; placed = search rules; closed = search rules; round = c.goes_round.ensures.0 yes }
