use Rattle.std.proofs.Common.{◌≡◌, ◌-◌}
use Rattle.aperture_macros.specs.BodyWord as spec
use Rattle.aperture_macros.proofs.body_word.are_expressions.Given as goal

abbrev pub invariant-loop : goal.invariant-loop
invariant-loop l = spec.are_expressions (l.n - l.counter) l.rest ≡ spec.are_expressions l.n l.text
