-- What earlier lines have set, found by looking back. A history is a list of the forms of lines, the last first.
use Rattle.std.specs.Prelude.{ℕ, ◌+◌, Bool, true, false, ◌==◌, if◌then◌else◌, List, [], ◌∷◌, ◌++◌, length, ℤ, pos, Option, Some, None, Result, Ok, Err}
use Rattle.std.specs.Option.{option_or}
use Rattle.file_reading.specs.LookingBack.{how_many, last_or, last_said}
use Rattle.lengths.specs.Decimal.{Fraction}
use Rattle.lengths.specs.declared.decimal.Unit.{Unit as Measure}
use Rattle.board_shapes.specs.Plain.{PlainPiece}
use Rattle.xnc.specs.declared.kind.DrillKind.{DrillKind}
use Rattle.xnc.specs.declared.line.Coordinates.{Coordinates}
use Rattle.xnc.specs.declared.line.DrillLine.{DrillLine}
use Rattle.xnc.specs.declared.line.DrillLine.TheVariants as form
use Rattle.xnc.specs.declared.settings.Stage.{Stage}
use Rattle.xnc.specs.declared.settings.Stage.TheVariants.{Opening, Header, Body, Ended}
use Rattle.xnc.specs.declared.settings.Mode.{Mode}
use Rattle.xnc.specs.declared.settings.Mode.TheVariants.{Drill, Rout}
use Rattle.xnc.specs.declared.settings.Settings.{Settings}
use Rattle.xnc.specs.Places.{Place}
use Rattle.xnc.specs.DrillEffects.{Known, Effect, drills, value_of, diameter_of, effect}

-- the stage that a line begins
abbrev pub stage_in : DrillLine → Option Stage
stage_in form.Start = Some Header
stage_in form.HeaderEnd = Some Body
stage_in form.End = Some Ended
stage_in other = None

-- before `M48`, in the header, in the body, or behind the end
abbrev pub stage_at : List DrillLine → Stage
stage_at earlier = last_or Opening stage_in earlier

-- the unit that a line says
abbrev pub unit_in : DrillLine → Option Measure
unit_in (form.Unit unit) = Some unit
unit_in other = None

-- the unit of the last unit line
abbrev pub unit_at : List DrillLine → Option Measure
unit_at earlier = last_said unit_in earlier

-- the tool that a line selects, which for `T0` is none
abbrev pub tool_in : DrillLine → Option (Option ℕ)
tool_in (form.Select n) = Some (Some n)
tool_in form.NoTool = Some None
tool_in other = None

-- the tool that was selected last, and none behind `T0`
abbrev pub tool_at : List DrillLine → Option ℕ
tool_at earlier = last_or None tool_in earlier

-- the mode that a line asks for: drill mode `G05`, rout mode `G00`
abbrev pub mode_in : DrillLine → Option Mode
mode_in form.Drill = Some Drill
mode_in (form.Rout to) = Some Rout
mode_in other = None

-- whether the tool is down behind a line that lowers or raises it
abbrev pub down_in : DrillLine → Option Bool
down_in form.Lower = Some true
down_in form.Raise = Some false
down_in (form.Rout to) = Some false
down_in other = None

-- down behind `M15`; up at the start, behind `M16` and behind `G00`
abbrev pub down_at : List DrillLine → Bool
down_at earlier = last_or false down_in earlier

-- the last X or Y that a line names, of the two the one that `part` takes
abbrev pub named_in : (Coordinates → Option Fraction) → DrillLine → Option Fraction
named_in part (form.Rout to) = part to
named_in part (form.Straight to) = part to
named_in part (form.Hit at) = part at
named_in part (form.Slot from to) = option_or (part to) (part from)
named_in part other = None

-- the value; here, where there is a fault
abbrev pub value_or : ℤ → Result ℤ DrillKind → ℤ
value_or here (Ok z) = z
value_or here (Err kind) = here

-- the value of a coordinate in the unit in force; here, where none is named, no unit is in force or there is a fault
abbrev pub value_in : Option Measure → ℤ → Option Fraction → ℤ
value_in unit here None = here
value_in None here (Some d) = here
value_in (Some unit) here (Some d) = value_or here (value_of unit d)

-- the value of the last X or Y that a line named, or 0
abbrev pub named_at : (Coordinates → Option Fraction) → List DrillLine → ℤ
named_at part [] = pos 0
named_at part (f ∷ earlier) = value_in (unit_at earlier) (named_at part earlier) (named_in part f)

-- the current place
abbrev pub x_at : List DrillLine → ℤ
x_at earlier = named_at (λ c. c.x) earlier

abbrev pub y_at : List DrillLine → ℤ
y_at earlier = named_at (λ c. c.y) earlier

-- The settings that the next line finds. The mode at the start is drill mode.
abbrev pub settings_at : List DrillLine → Settings
settings_at earlier = record {
  stage = stage_at earlier;
  unit = unit_at earlier;
  tool = tool_at earlier;
  mode = last_or Drill mode_in earlier;
  down = down_at earlier;
  at = record { x = x_at earlier; y = y_at earlier };
}

-- the diameter that a definition of m gives n
abbrev pub diameter_in : ℕ → ℕ → Result ℕ DrillKind → Option ℕ
diameter_in n m (Ok d) = if m == n then Some d else None
diameter_in n m (Err kind) = None

-- the diameter that n is defined with
abbrev pub defined_at : List DrillLine → ℕ → Option ℕ
defined_at [] n = None
defined_at (form.Tool m d ∷ earlier) n = option_or (diameter_in n m (diameter_of (unit_at earlier) d)) (defined_at earlier n)
defined_at (other ∷ earlier) n = defined_at earlier n

-- whether a line defines a tool
abbrev pub is_tool : DrillLine → Bool
is_tool (form.Tool n d) = true
is_tool other = false

-- the piece that a line of this number makes
abbrev pub piece_of : Place → ℕ → Result Effect DrillKind → List PlainPiece
piece_of p number (Ok (drills to figure)) =
    record { figure = figure; top = p.from; bottom = p.to; origin = record { file = p.file; command = number; copy = 0 } } ∷ []
piece_of p number other = []

-- what is known before the next line, and the pieces so far
abbrev pub known_with : Place → List DrillLine → ℕ → Known
known_with p earlier pieces = record {
  settings = settings_at earlier;
  defined = defined_at earlier;
  tools = how_many is_tool earlier;
  pieces = pieces;
  room = p.room;
}

-- the barrels that the lines make, in order
unfoldable pub barrels_at : Place → List DrillLine → List PlainPiece
barrels_at p [] = []
barrels_at p (f ∷ earlier) = barrels_at p earlier ++ piece_of p (length earlier + 1) (effect (known_with p earlier (length (barrels_at p earlier))) f)

-- what is known before the next line
abbrev pub known_at : Place → List DrillLine → Known
known_at p earlier = known_with p earlier (length (barrels_at p earlier))

-- what a line does, or its fault, behind these lines
abbrev pub effect_at : Place → List DrillLine → DrillLine → Result Effect DrillKind
effect_at p earlier f = effect (known_at p earlier) f
