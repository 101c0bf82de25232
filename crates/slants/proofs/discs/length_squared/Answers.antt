use Rattle.std.proofs.Common.{pos, ℤ, ◌≤ℤ◌, subst}
use Rattle.planar.specs.Plane.{dot_of}
use Rattle.planar.proofs.SpotWithin.{whole_from_zero}
use Rattle.slants.proofs.Sums.{area_to, dot_within}
use Rattle.slants.proofs.discs.length_squared.Goals as goal

pub returns-clause-from_zero : goal.returns-clause-from_zero
returns-clause-from_zero c =
    let is = area_to c.dot.result (dot_of c.args.o c.args.a c.args.a) c.dot.ensures (dot_within c.args.o c.args.a c.args.a c.requires.o_placed c.requires.a_placed c.requires.a_placed) in
    subst (λ (z : ℤ). pos 0 ≤ℤ z) is (whole_from_zero c.args.o c.args.a)

pub returns-clause-small : goal.returns-clause-small
returns-clause-small c =
    let within = dot_within c.args.o c.args.a c.args.a c.requires.o_placed c.requires.a_placed c.requires.a_placed in
    let is = area_to c.dot.result (dot_of c.args.o c.args.a c.args.a) c.dot.ensures within in
    subst (λ (z : ℤ). z ≤ℤ pos 800000000000000000000) is within.1
