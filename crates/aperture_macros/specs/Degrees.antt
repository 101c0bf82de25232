-- How far a primitive is turned in real copper (Gerber Layer Format Specification, 4.5.1), in parts of 10^-7 degrees, counterclockwise.
use Rattle.std.specs.Prelude.{ℕ, ◌/◌, ◌%◌, ◌==◌, if◌then◌else◌, List, pos, ◌+ℤ◌, unsigned_abs, Result, Ok}
use Rattle.lengths.specs.Decimal.{Fraction}
use Rattle.lengths.specs.declared.decimal.Unit.TheVariants.{Mm}
use Rattle.aperture_macros.specs.declared.degrees.Turn.{Turn}
use Rattle.aperture_macros.specs.declared.primitive.Rotation.{Rotation}
use Rattle.aperture_macros.specs.declared.primitive.Rotation.TheVariants.{Unturned, Quarter, Half, ThreeQuarters}
use Rattle.aperture_macros.specs.declared.fault.MacroFault.{MacroFault}
use Rattle.aperture_macros.specs.BodyWord.{◌>>=◌}
use Rattle.aperture_macros.specs.Values.{coordinate_at}

-- so many quarter turns, from 0 to 3
abbrev pub quarter_turns : ℕ → Rotation
quarter_turns n = if n == 0 then Unturned else (if n == 1 then Quarter else (if n == 2 then Half else ThreeQuarters))

-- the quarter turns in an angle, without whole turns, and what is left, below 90 degrees
abbrev pub turn_of : ℕ → Turn
turn_of angle = record { quarters = quarter_turns (angle / 900000000 % 4); rest = angle % 900000000 }

-- A rotation is read as a coordinate in mm is, with degrees for mm: so it is at most 1,000 degrees from 0, and three whole turns more are none below 0.
unfoldable pub turn_at : List ℕ → List Fraction → Result Turn MacroFault
turn_at text parameters = coordinate_at text parameters Mm >>= λ angle. Ok (turn_of (unsigned_abs (angle +ℤ pos 10800000000)))
