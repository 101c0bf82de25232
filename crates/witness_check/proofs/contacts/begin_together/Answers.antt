use Rattle.std.proofs.Common.{subst, sym}
use Rattle.planar.proofs.Meet.{holds_start}
use Rattle.planar.specs.Plane.{InCapsule, at}
use Rattle.planar.specs.declared.Spot.{Spot}
use Rattle.witness_check.proofs.contacts.begin_together.Goals as goal

pub returns : goal.returns
returns c = λ same.
    let one = c.args.first.now in
    let two = c.args.second.now in
    record {
      point = at one.a;
      in_first = holds_start one.a one.b one.r;
      in_second = subst (λ (s : Spot). InCapsule two.a two.b two.r (at s)) (sym (c.is_same.ensures.same.0 same)) (holds_start two.a two.b two.r);
    }
