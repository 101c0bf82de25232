use Rattle.std.proofs.Common.{List, subst}
use Rattle.planar.specs.declared.Spot.{Spot}
use Rattle.slants.specs.Cones.{turns_by}
use Rattle.slants.specs.Turned.{TurnedBelow}
use Rattle.slants.specs.declared.turns.Motions.{Motions}
use Rattle.slants.proofs.Around.{below_turned}
use Rattle.slants.proofs.cones.is_below_figure.Goals as goal

pub returns-then-figure-lt-RIGHT_ANGLE-clause-copper : goal.returns-then-figure-lt-RIGHT_ANGLE-clause-copper
returns-then-figure-lt-RIGHT_ANGLE-clause-copper c = λ yes p inside t k.
    let taken = subst (λ (contour : List Spot). TurnedBelow contour c.turns.result c.args.points.now) c.deref.ensures.value (c.is_below_turned.ensures.taken.0 yes) in
    let moved = subst (λ (m : Motions). TurnedBelow c.args.figure.now.contour.items m c.args.points.now) c.turns.ensures.value taken in
    below_turned c.args.figure.now.contour.items (turns_by c.args.figure.now.about c.args.figure.now.angle) c.args.points.now t p moved k inside
