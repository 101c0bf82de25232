-- Coordinates, by their relation.
use Rattle.std.proofs.Common.{◌≡◌, ℕ, List, ℤ, Result, Err, refl, ap}
use Rattle.lengths.specs.Decimal.{Positions, chosen, over_power}
use Rattle.lengths.specs.Grid.{position_of}
use Rattle.lengths.proofs.GridLemmas.{Positions-is}
use Rattle.lengths.specs.declared.decimal.Unit.{Unit as Measure}
use Rattle.lengths.specs.declared.decimal.GridFault.{GridFault}
use Rattle.lengths.specs.declared.decimal.GridFault.TheVariants.{OffGrid, OutOfRange}
use Rattle.gerber_reading.specs.declared.kind.GerberKind.TheVariants as kind
use Rattle.gerber_reading.specs.CommandEffects.{gridded}

pub placed : (digits : List ℕ) (places : ℕ) (unit : Measure) (r : Result ℤ GridFault) → Positions (over_power digits places) unit r → gridded r ≡ gridded (position_of (over_power digits places) unit)
placed digits places unit r h = ap gridded (Positions-is (over_power digits places) unit r h)

pub fault_named : (fault : GridFault) → gridded (Err fault) ≡ Err (chosen fault kind.OffGrid kind.OutOfRange)
fault_named OffGrid = refl
fault_named OutOfRange = refl
