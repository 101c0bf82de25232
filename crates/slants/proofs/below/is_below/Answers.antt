use Rattle.std.proofs.Common.{arith, rules}
use Rattle.std.proofs.lemmas.Int.{ints}
use Rattle.slants.proofs.Corners.{below_lies}
use Rattle.slants.proofs.below.is_below.Goals as goal

pub returns-in-Some-clause-copper : goal.returns-in-Some-clause-copper
returns-in-Some-clause-copper c = λ yes p. below_lies c.args.slant.now c.args.points.now p record {
  placed = search rules;
  apart = omega (arith, ints, c.length_squared.ensures.value);
  closed = search rules;
  fits = omega (arith, ints, c.in-Some.ensures);
  corners = c.has_corners.ensures.0 yes;
}
