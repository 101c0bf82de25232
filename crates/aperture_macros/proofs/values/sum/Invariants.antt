use Rattle.std.proofs.Common.{◌≡◌, ◌-◌, ◌*◌, ◌≤ℤ◌, ◌+ℤ◌, pos}
use Rattle.planar.specs.declared.TheConstants.{METRE}
use Rattle.aperture_macros.specs.Values.{sum_from}
use Rattle.aperture_macros.specs.declared.expression.TheConstants.{MOST_TERMS}
use Rattle.aperture_macros.proofs.values.sum.Given as goal

abbrev pub invariant-loop : goal.invariant-loop
invariant-loop l = record {
  same : sum_from (MOST_TERMS - l.counter) l.sum l.rest l.parameters l.unit ≡ sum_from MOST_TERMS (pos 0) l.text l.parameters l.unit;
  low : pos 0 ≤ℤ (l.sum +ℤ pos (l.counter * METRE));
  high : l.sum ≤ℤ pos (l.counter * METRE);
}
