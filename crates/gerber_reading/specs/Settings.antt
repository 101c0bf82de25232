-- What earlier commands have set, found by looking back. A history is a list of commands, the last first.
use Rattle.std.specs.Prelude.{ℕ, Bool, true, false, ◌==◌, if◌then◌else◌, List, [], ◌∷◌, ◌++◌, ℤ, pos, Option, Some, None, Result, Ok, Err}
use Rattle.std.specs.List.{list_any}
use Rattle.std.specs.Option.{option_or}
use Rattle.file_reading.specs.LookingBack.{latest, last_or, last_said, first_said, how_many}
use Rattle.lengths.specs.declared.decimal.Unit.{Unit as Measure}
use Rattle.planar.specs.declared.Spot.{Spot}
use Rattle.aperture_macros.specs.BodyWord.{PlainPrimitive}
use Rattle.aperture_macros.specs.declared.fault.MacroFault.{MacroFault}
use Rattle.step_repeat.specs.declared.repeat.Repeat.{Repeat}
use Rattle.gerber_reading.specs.declared.settings.Curve.{Curve}
use Rattle.gerber_reading.specs.declared.settings.Curve.TheVariants.{Line}
use Rattle.gerber_reading.specs.declared.settings.Quadrants.{Quadrants}
use Rattle.gerber_reading.specs.Command.{Command, curves, quarters, formats, counts_in, defines, selects, repeats, opens_region, closes_region, operates, ends, names_macro, body_word}
use Rattle.gerber_reading.specs.declared.kind.GerberKind.{GerberKind}
use Rattle.gerber_reading.specs.declared.command.Code.{Code}
use Rattle.gerber_reading.specs.declared.command.Code.TheVariants.{Draw, Move}
use Rattle.gerber_reading.specs.declared.command.Format.{Format}
use Rattle.gerber_reading.specs.declared.settings.Settings.{Settings}
use Rattle.regions.specs.Contours.{points_of}
use Rattle.gerber_reading.specs.Tools.{Macros, Tool, begun, filled_up, tool_in}
use Rattle.gerber_reading.specs.CommandEffects.{Outline, code_of, coordinate, next_block}
use Rattle.apertures.specs.declared.fault.ApertureFault.{ApertureFault}

-- what a command says of a setting
abbrev pub format_in : Command → Option Format
format_in (formats format) = Some format
format_in other = None

abbrev pub unit_in : Command → Option Measure
unit_in (counts_in unit) = Some unit
unit_in other = None

abbrev pub selection_in : Command → Option ℕ
selection_in (selects n) = Some n
selection_in other = None

abbrev pub code_in : Command → Option Code
code_in (operates x y code b) = Some (code_of code)
code_in other = None

abbrev pub x_in : Command → Option (List ℕ)
x_in (operates x y code b) = x
x_in other = None

abbrev pub y_in : Command → Option (List ℕ)
y_in (operates x y code b) = y
y_in other = None

-- the curve that a command sets, alone or with an operation, and the quadrants
abbrev pub curve_in : Command → Option Curve
curve_in (curves curve) = Some curve
curve_in (operates x y code b) = b.curve
curve_in other = None

abbrev pub quadrants_in : Command → Option Quadrants
quadrants_in (quarters quadrants) = Some quadrants
quadrants_in other = None

-- an end word, and a definition of an aperture
abbrev pub is_end : Command → Bool
is_end ends = true
is_end other = false

abbrev pub is_definition : Command → Bool
is_definition (defines text) = true
is_definition other = false

-- how many definitions stand before
abbrev pub definitions_before : List Command → ℕ
definitions_before earlier = how_many is_definition earlier

-- the first format and unit, and the last selection
abbrev pub format_before : List Command → Option Format
format_before earlier = first_said format_in earlier

abbrev pub unit_before : List Command → Option Measure
unit_before earlier = first_said unit_in earlier

abbrev pub aperture_before : List Command → Option ℕ
aperture_before earlier = last_said selection_in earlier

-- what a command says of whether a region is open
abbrev pub region_in : Command → Option Bool
region_in opens_region = Some true
region_in closes_region = Some false
region_in other = None

-- a region is open where the last `G36` stands after the last `G37`
abbrev pub region_open : List Command → Bool
region_open earlier = last_or false region_in earlier

-- what there is, and none where it is refused
abbrev pub ok_or_none : {A W : Type 0} → Result (Option A) W → Option A
ok_or_none (Ok next) = next
ok_or_none (Err fault) = None

-- the block that a step and repeat word opens, if it has parameters
abbrev pub block_in : Command → Option Measure → Option (Option Repeat)
block_in (repeats text) unit = Some (ok_or_none (next_block unit text))
block_in other unit = None

-- a block is open where the last `SR` word has parameters
abbrev pub block_open : List Command → Option Repeat
block_open [] = None
block_open (c ∷ earlier) = latest (block_in c (unit_before earlier)) (block_open earlier)

-- an end word stands before
abbrev pub has_ended : List Command → Bool
has_ended earlier = list_any is_end earlier

-- the value, and here where it is refused
abbrev pub value_or : ℤ → Result ℤ GerberKind → ℤ
value_or here (Ok z) = z
value_or here (Err fault) = here

-- the value of a coordinate in the format and the unit in force; here, where none stands or it has no value
abbrev pub value_in : Option (List ℕ) → Option Format → Option Measure → ℤ → ℤ
value_in (Some digits) (Some format) (Some unit) here = value_or here (coordinate format unit here (Some digits))
value_in digits format unit here = here

-- the value of the last X, and of the last Y, or 0
abbrev pub x_before : List Command → ℤ
x_before [] = pos 0
x_before (c ∷ earlier) = value_in (x_in c) (format_before earlier) (unit_before earlier) (x_before earlier)

abbrev pub y_before : List Command → ℤ
y_before [] = pos 0
y_before (c ∷ earlier) = value_in (y_in c) (format_before earlier) (unit_before earlier) (y_before earlier)

-- the current point
abbrev pub point_before : List Command → Spot
point_before earlier = record { x = x_before earlier; y = y_before earlier }

-- all settings that the next command finds
abbrev pub settings_before : List Command → Settings
settings_before earlier = record {
  format = format_before earlier;
  unit = unit_before earlier;
  selected = aperture_before earlier;
  at = point_before earlier;
  last = last_said code_in earlier;
  region = region_open earlier;
  block = block_open earlier;
  ended = has_ended earlier;
  curve = last_or Line curve_in earlier;
  quadrants = last_said quadrants_in earlier;
}

-- a contour with one more edge, which begins at the current point before its first one
abbrev pub lengthened : {E : Type 0} → Option (Outline E) → Spot → Spot → E → Option (Outline E)
lengthened None from to e = Some (record { first = from; legs = record { to = to; bend = e } ∷ [] })
lengthened (Some o) from to e = Some (record { first = o.first; legs = o.legs ++ record { to = to; bend = e } ∷ [] })

-- where a contour begins and where each of its edges ends, or none
abbrev pub spots_of : {E : Type 0} → Option (Outline E) → List Spot
spots_of None = []
spots_of (Some o) = points_of o

-- behind an operation: in a region a `D01` adds an edge, and a `D02` ends the contour
abbrev pub drawn : {E : Type 0} → Code → Bool → Option (Outline E) → Spot → Spot → E → Option (Outline E)
drawn Draw true contour from to e = lengthened contour from to e
drawn Move true contour from to e = None
drawn code inside contour from to e = contour

-- the contour behind a command
abbrev pub contour_by : {E : Type 0} → Command → Bool → Option (Outline E) → Spot → Spot → E → Option (Outline E)
contour_by (operates x y code b) inside contour from to e = drawn (code_of code) inside contour from to e
contour_by opens_region inside contour from to e = None
contour_by closes_region inside contour from to e = None
contour_by other inside contour from to e = contour

-- The contour so far: the point before the first `D01` since the last `G36` or `D02` of the region, and where each `D01` leads, with what
-- is kept of it.
abbrev pub contour_before : {E : Type 0} → (Settings → Command → E) → List Command → Option (Outline E)
contour_before edge [] = None
contour_before edge (c ∷ earlier) = contour_by c (region_open earlier) (contour_before edge earlier) (point_before earlier) (point_before (c ∷ earlier)) (edge (settings_before earlier) c)

-- the aperture, where n is its number
abbrev pub as_number : {A : Type 0} → ℕ → Option (ℕ × Tool A) → Option (Tool A)
as_number n (Some made) = if made.0 == n then Some made.1 else None
as_number n None = None

-- what a command defines n as, in the unit in force, by the standard aperture that a word means
abbrev pub definition_in : {A : Type 0} → (List ℕ → Measure → Result (ℕ × A) ApertureFault) → Command → Option Measure → ℕ → Option (Tool A)
definition_in aperture (defines text) (Some unit) n = as_number n (tool_in aperture text unit)
definition_in aperture other unit n = None

-- the aperture that n is defined as
abbrev pub defined_before : {A : Type 0} → (List ℕ → Measure → Result (ℕ × A) ApertureFault) → List Command → ℕ → Option (Tool A)
defined_before aperture [] n = None
defined_before aperture (c ∷ earlier) n = option_or (definition_in aperture c (unit_before earlier) n) (defined_before aperture earlier n)

-- a word of a body gives the last macro its primitive, if it is one
abbrev pub with_body : Macros → Result (Option PlainPrimitive) MacroFault → Macros
with_body m (Ok (Some p)) = filled_up m p
with_body m other = m

-- the macros behind a command, by the primitive that a word means
abbrev pub macros_by : (List ℕ → Result (Option PlainPrimitive) MacroFault) → Command → Macros → Macros
macros_by primitive (names_macro name) m = begun m name
macros_by primitive (body_word text) m = with_body m (primitive text)
macros_by primitive other m = m

-- the macros: `AM` begins one, and the words of its body give it primitives
abbrev pub macros_before : (List ℕ → Result (Option PlainPrimitive) MacroFault) → List Command → Macros
macros_before primitive [] = record { latest = None; others = λ name. None }
macros_before primitive (c ∷ earlier) = macros_by primitive c (macros_before primitive earlier)
