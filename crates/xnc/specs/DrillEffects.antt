-- What a line does, or its fault, by what is known before it.
use Rattle.std.specs.Prelude.{ℕ, ◌/◌, Bool, true, false, ◌||◌, not, ◌==◌, nat_le, nat_lt, ℤ, pos, unsigned_abs, Option, Some, None, is_some, is_none, option_and_then, Result, Ok, Err}
use Rattle.contact.specs.declared.TheConstants.{MOST_DIAMETER}
use Rattle.planar.specs.declared.Spot.{Spot}
use Rattle.lengths.specs.Decimal.{Fraction, chosen, other_unit}
use Rattle.lengths.specs.Grid.{position_of, size_of}
use Rattle.lengths.specs.declared.decimal.Unit.{Unit as Measure}
use Rattle.lengths.specs.declared.decimal.GridFault.{GridFault}
use Rattle.board_shapes.specs.Plain.{Figure, round}
use Rattle.xnc.specs.declared.TheConstants.{MOST_TOOLS}
use Rattle.xnc.specs.declared.kind.DrillKind.{DrillKind}
use Rattle.xnc.specs.declared.kind.DrillKind.TheVariants as kind
use Rattle.xnc.specs.declared.line.Coordinates.{Coordinates}
use Rattle.xnc.specs.declared.line.DrillLine.{DrillLine}
use Rattle.xnc.specs.declared.line.DrillLine.TheVariants as form
use Rattle.xnc.specs.declared.settings.Stage.{Stage}
use Rattle.xnc.specs.declared.settings.Stage.TheVariants.{Opening, Header, Body, Ended}
use Rattle.xnc.specs.declared.settings.Mode.{Mode}
use Rattle.xnc.specs.declared.settings.Mode.TheVariants.{Drill, Rout}
use Rattle.xnc.specs.declared.settings.Settings.{Settings}
pub use Rattle.file_reading.specs.Conditions.{◌>>=◌, unless, needed}

-- What is known before a line: the settings, the diameter of each tool that is defined, how many tools are, how many pieces
-- there are, and how many there may be.
pub record Known : Type 0 where
  pub settings : Settings
  pub defined : ℕ → Option ℕ
  pub tools : ℕ
  pub pieces : ℕ
  pub room : ℕ

-- what a line does besides its settings
pub data Effect : Type 0 where
  stays : Effect
  makes : ℕ → ℕ → Effect
  moves : Spot → Effect
  drills : Spot → Figure → Effect

-- drill mode
abbrev pub is_drilling : Mode → Bool
is_drilling Drill = true
is_drilling Rout = false

-- `M48`
abbrev pub is_start : DrillLine → Bool
is_start form.Start = true
is_start other = false

-- how a length that is none is refused, and a length or its refusal
abbrev pub kind_of_grid : GridFault → DrillKind
kind_of_grid fault = chosen fault kind.OffGrid kind.OutOfRange

abbrev pub gridded : Result ℤ GridFault → Result ℤ DrillKind
gridded (Ok u) = Ok u
gridded (Err fault) = Err (kind_of_grid fault)

-- a diameter of 0 or over MOST_DIAMETER is out of range
abbrev pub in_range : ℤ → Result ℕ DrillKind
in_range u = unless (unsigned_abs u == 0 || nat_lt MOST_DIAMETER (unsigned_abs u)) kind.OutOfRange (Ok (unsigned_abs u))

-- the diameter of a tool
unfoldable pub diameter_of : Option Measure → Fraction → Result ℕ DrillKind
diameter_of unit d = do
  unit ← needed kind.MissingUnit unit
  size ← unless (not d.pointed) kind.ImpliedDecimals (gridded (size_of d unit))
  in_range size

-- `T<n>C<d>`
unfoldable pub define : Known → ℕ → Fraction → Result Effect DrillKind
define k n d = do
  size ← diameter_of k.settings.unit d
  unless (is_some (k.defined n)) kind.ToolTwice (unless (nat_le MOST_TOOLS k.tools) kind.TooManyTools (Ok (makes n size)))

-- the value of a coordinate
unfoldable pub value_of : Measure → Fraction → Result ℤ DrillKind
value_of unit d = unless (not d.pointed) kind.ImpliedDecimals (gridded (position_of d unit))

-- where a coordinate leads from `here`
abbrev pub coordinate : Measure → ℤ → Option Fraction → Result ℤ DrillKind
coordinate unit here None = Ok here
coordinate unit here (Some d) = value_of unit d

-- where a place leads from `here`
unfoldable pub target : Option Measure → Spot → Coordinates → Result Spot DrillKind
target unit here to = do
  unit ← needed kind.MissingUnit unit
  x ← coordinate unit here.x to.x
  y ← coordinate unit here.y to.y
  Ok (record { x = x; y = y })

-- the diameter of the selected tool, if there is one and it is defined
abbrev pub diameter : Known → Option ℕ
diameter k = option_and_then k.defined k.settings.tool

-- Half of it. Where no tool is selected there is no barrel: a hit and a slot ask for a tool, and so does `M15` before a rout.
abbrev pub half : Option ℕ → ℤ
half None = pos 0
half (Some d) = pos (d / 2)

-- a barrel, if there is room for it
unfoldable pub barrel : Known → Spot → Spot → Result Effect DrillKind
barrel k from to = unless (nat_le k.room k.pieces) kind.TooManyPieces (Ok (drills to (round (record { a = from; b = to; r = half (diameter k) }))))

-- `G00` and a place
unfoldable pub rout : Known → Coordinates → Result Effect DrillKind
rout k to = do
  to ← target k.settings.unit k.settings.at to
  Ok (moves to)

-- `G01` and a place
unfoldable pub straight : Known → Coordinates → Result Effect DrillKind
straight k to = do
  to ← target k.settings.unit k.settings.at to
  barrel k k.settings.at to

-- a place
unfoldable pub hit : Known → Coordinates → Result Effect DrillKind
hit k at = do
  at ← target k.settings.unit k.settings.at at
  barrel k at at

-- a place, `G85`, a place
unfoldable pub slot : Known → Coordinates → Coordinates → Result Effect DrillKind
slot k from to = do
  from ← target k.settings.unit k.settings.at from
  to ← target k.settings.unit from to
  barrel k from to

-- the rows of the header
unfoldable pub header : Known → DrillLine → Result Effect DrillKind
header k (form.Unit unit) = unless (other_unit k.settings.unit unit) kind.BadLine (Ok stays)
header k form.Format = Ok stays
header k form.Absolute = Ok stays
header k (form.Tool n d) = define k n d
header k form.HeaderEnd = Ok stays
header k other = Err kind.BadLine

-- the rows of the body
unfoldable pub body : Known → DrillLine → Result Effect DrillKind
body k form.Arc = Err kind.ArcRout
body k form.NoTool = unless k.settings.down kind.WrongMode (Ok stays)
body k (form.Select n) = unless k.settings.down kind.WrongMode (unless (is_none (k.defined n)) kind.NoTool (Ok stays))
body k form.Absolute = Ok stays
body k form.Drill = unless k.settings.down kind.WrongMode (Ok stays)
body k (form.Rout to) = unless k.settings.down kind.WrongMode (rout k to)
body k form.Lower = unless (is_drilling k.settings.mode || k.settings.down) kind.WrongMode (unless (is_none (diameter k)) kind.NoTool (Ok stays))
body k form.Raise = unless (not k.settings.down) kind.WrongMode (Ok stays)
body k (form.Straight to) = unless (not k.settings.down) kind.WrongMode (straight k to)
body k (form.Hit at) = unless (not (is_drilling k.settings.mode)) kind.WrongMode (unless (is_none (diameter k)) kind.NoTool (hit k at))
body k (form.Slot from to) = unless (not (is_drilling k.settings.mode)) kind.WrongMode (unless (is_none (diameter k)) kind.NoTool (slot k from to))
body k form.End = unless k.settings.down kind.WrongMode (Ok stays)
body k other = Err kind.BadLine

-- by where the line stands
unfoldable pub staged : Stage → Known → DrillLine → Result Effect DrillKind
staged Opening k f = unless (not (is_start f)) kind.NoHeader (Ok stays)
staged Header k f = header k f
staged Body k f = body k f
staged Ended k f = Err kind.AfterEnd

-- behind the end
abbrev pub is_ended : Stage → Bool
is_ended Ended = true
is_ended other = false

-- a comment and the file's end are judged wherever they stand
unfoldable pub effect : Known → DrillLine → Result Effect DrillKind
effect k form.Blank = Ok stays
effect k (form.Misfit kind) = Err kind
effect k form.Finish = unless (not (is_ended k.settings.stage)) kind.NotEnded (Ok stays)
effect k other = staged k.settings.stage k other

-- where an effect leads
abbrev pub gone : Spot → Effect → Spot
gone here (moves to) = to
gone here (drills to figure) = to
gone here other = here

-- what a line sets, where it has no fault
abbrev pub after : Settings → DrillLine → Effect → Settings
after s form.Start e = record s { stage = Header }
after s (form.Unit unit) e = record s { unit = Some unit }
after s form.HeaderEnd e = record s { stage = Body }
after s form.NoTool e = record s { tool = None }
after s (form.Select n) e = record s { tool = Some n }
after s form.Drill e = record s { mode = Drill }
after s (form.Rout to) e = record s { mode = Rout; down = false; at = gone s.at e }
after s form.Lower e = record s { down = true }
after s form.Raise e = record s { down = false }
after s (form.Straight to) e = record s { at = gone s.at e }
after s (form.Hit at) e = record s { at = gone s.at e }
after s (form.Slot from to) e = record s { at = gone s.at e }
after s form.End e = record s { stage = Ended }
after s other e = s
