use Rattle.std.proofs.Common.{subst}
use Rattle.slants.specs.Turned.{TurnedAbove}
use Rattle.slants.specs.declared.turns.Motions.{Motions}
use Rattle.slants.proofs.Around.{below_turned, no_more}
use Rattle.slants.proofs.Sums.{ready_back}
use Rattle.slants.proofs.turned.is_below_turned.Goals as goal

pub returns-then-are_ready-clause-copper : goal.returns-then-are_ready-clause-copper
returns-then-are_ready-clause-copper c = λ yes t p. below_turned c.args.figure.now c.args.m.now c.args.points.now t p (subst (λ (m : Motions). TurnedAbove c.args.points.now m c.args.figure.now) c.back.ensures (c.is_above_turned.ensures.taken.0 yes))

pub returns-else-are_ready-clause-taken : goal.returns-else-are_ready-clause-taken
returns-else-are_ready-clause-taken c = (λ yes. absurd (no_more yes c.if-are_ready.false), λ h. c.are_ready.ensures.1 (ready_back c.args.m.now h.ready))
