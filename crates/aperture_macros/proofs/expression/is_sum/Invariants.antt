use Rattle.std.proofs.Common.{◌≡◌, ◌-◌}
use Rattle.aperture_macros.specs.Expression as spec
use Rattle.aperture_macros.proofs.expression.is_sum.Given as goal

abbrev pub invariant-loop : goal.invariant-loop
invariant-loop l = spec.is_sum (l.most - l.counter) l.rest ≡ spec.is_sum l.most l.text
