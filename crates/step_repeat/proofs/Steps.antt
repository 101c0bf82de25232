-- Steps, by the relation of positions.
use Rattle.std.proofs.Common.{◌≡◌, ℤ, Result, refl}
use Rattle.lengths.specs.Decimal.{Fraction, Positions}
use Rattle.lengths.specs.Grid.{position_of}
use Rattle.lengths.proofs.GridLemmas.{Positions-is}
use Rattle.lengths.specs.declared.decimal.Unit.{Unit as Measure}
use Rattle.lengths.specs.declared.decimal.GridFault.{GridFault}
use Rattle.step_repeat.specs.Repeats.{as_fault, step_at}

pub step_is : (d : Fraction) (unit : Measure) (r : Result ℤ GridFault) → Positions d unit r → as_fault r ≡ step_at d unit
unfolding step_at
step_is d unit r h = let value : r ≡ position_of d unit = Positions-is d unit r h in rw value refl
