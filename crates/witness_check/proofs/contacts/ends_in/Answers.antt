use Rattle.planar.proofs.Meet.{holds_end}
use Rattle.planar.specs.Plane.{at}
use Rattle.witness_check.proofs.contacts.ends_in.Goals as goal

pub returns : goal.returns
returns c = λ inside.
    let one = c.args.capsule.now in
    record { point = at one.b; in_first = holds_end one.a one.b one.r; in_second = c.has.ensures.0 inside }
