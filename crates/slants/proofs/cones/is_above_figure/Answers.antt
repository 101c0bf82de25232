use Rattle.std.proofs.Common.{List, subst}
use Rattle.planar.specs.declared.Spot.{Spot}
use Rattle.slants.specs.Cones.{turns_by}
use Rattle.slants.specs.Turned.{TurnedAbove}
use Rattle.slants.specs.declared.turns.Motions.{Motions}
use Rattle.slants.proofs.Around.{above_turned}
use Rattle.slants.proofs.cones.is_above_figure.Goals as goal

pub returns-then-figure-lt-RIGHT_ANGLE-clause-copper : goal.returns-then-figure-lt-RIGHT_ANGLE-clause-copper
returns-then-figure-lt-RIGHT_ANGLE-clause-copper c = λ yes p (t, k, inside).
    let taken = subst (λ (contour : List Spot). TurnedAbove contour c.turns.result c.args.points.now) c.deref.ensures.value (c.is_above_turned.ensures.taken.0 yes) in
    let moved = subst (λ (m : Motions). TurnedAbove c.args.figure.now.contour.items m c.args.points.now) c.turns.ensures.value taken in
    above_turned c.args.figure.now.contour.items (turns_by c.args.figure.now.about c.args.figure.now.angle) c.args.points.now t p moved k inside
