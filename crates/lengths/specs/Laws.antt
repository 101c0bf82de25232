-- The laws of lengths.
use Rattle.std.specs.Prelude.{◌≡◌, ℤ, Result}
use Rattle.lengths.specs.Decimal.{Fraction, Positions, Sizes}
use Rattle.lengths.specs.Grid.{position_of, size_of}
use Rattle.lengths.specs.declared.decimal.Unit.{Unit as Measure}
use Rattle.lengths.specs.declared.decimal.GridFault.{GridFault}

-- every answer that is right of a position is the one that the function gives
abbrev pub PositionsAreOne : Type 0
PositionsAreOne = (d : Fraction) (unit : Measure) (answer : Result ℤ GridFault) → Positions d unit answer → answer ≡ position_of d unit

-- every answer that is right of a size is the one that the function gives
abbrev pub SizesAreOne : Type 0
SizesAreOne = (d : Fraction) (unit : Measure) (answer : Result ℤ GridFault) → Sizes d unit answer → answer ≡ size_of d unit
