-- What a line does, or its fault, by what is known before it.
use Rattle.std.specs.Prelude.{ℕ, ◌+◌, ◌*◌, Bool, ◌==◌, nat_lt, nat_le, if◌then◌else◌, List, [], ◌∷◌, map, ℤ, Option, Some, None, Result, Ok, Err}
use Rattle.planar.specs.declared.Spot.{Spot}
use Rattle.planar.specs.declared.TheConstants.{METRE}
use Rattle.lengths.specs.Decimal.{signed}
use Rattle.lengths.specs.declared.decimal.Unit.{Unit as Measure}
use Rattle.lengths.specs.declared.decimal.Unit.TheVariants.{Mm, Inch}
use Rattle.board_shapes.specs.declared.probe.Probe.{Probe}
use Rattle.ipc356_records.specs.declared.line.Coordinate.{Coordinate}
use Rattle.ipc356_records.specs.declared.kind.RecordKind.{RecordKind}
use Rattle.ipc356_records.specs.declared.kind.RecordKind.TheVariants as kind
use Rattle.ipc356_records.specs.Line.{RecordLine, TestFields, blank, unread, units, ends, continues, tests, unknown, finishes}
use Rattle.ipc356_records.specs.Names.{index_of}
use Rattle.ipc356_records.specs.declared.TheConstants.{MOST_RECORDS}
pub use Rattle.file_reading.specs.Conditions.{◌>>=◌, unless, needed}

-- What is known before a line: the unit, how many test records stand before it, their distinct names in first-seen order,
-- whether the end code stands before it, and how many layers the board has.
pub record Known : Type 0 where
  pub unit : Option Measure
  pub records : ℕ
  pub names : List (List ℕ)
  pub ended : Bool
  pub layers : ℕ

-- What a line does: nothing, it sets the unit, it ends the records, or it tests a net at a place by an access code.
pub data Effect : Type 0 where
  stays : Effect
  sets : Measure → Effect
  closes : Effect
  adds : List ℕ → ℕ → Spot → Effect

-- an access code from 0 to the number of layers
abbrev pub within : ℕ → Option ℕ → Option ℕ
within layers None = None
within layers (Some access) = if nat_le access layers then Some access else None

-- the units of length in 0.0001 inch and in 0.001 mm
abbrev pub step_of : Measure → ℕ
step_of Mm = 10000
step_of Inch = 25400

-- the place of a coordinate, at most 1 m from 0
unfoldable pub placed : Measure → Coordinate → Result ℤ RecordKind
placed unit c = unless (nat_lt METRE (c.steps * step_of unit)) kind.OutOfRange (Ok (signed c.negative (c.steps * step_of unit)))

-- a test record by its coordinates, with the unit, the name and the access before them
abbrev pub located : Known → TestFields → Measure → List ℕ → ℕ → Result Effect RecordKind
located k f unit name access = do
  x ← needed kind.BadNumber f.x
  y ← needed kind.BadNumber f.y
  to_x ← placed unit x
  to_y ← placed unit y
  unless (nat_le MOST_RECORDS k.records) kind.TooManyRecords (Ok (adds name access (record { x = to_x; y = to_y })))

-- a test record, by its conditions in order
unfoldable pub test_record : Known → TestFields → Result Effect RecordKind
test_record k f = do
  unit ← needed kind.MissingUnits k.unit
  name ← needed kind.BadName f.name
  access ← needed kind.BadAccess (within k.layers f.access)
  located k f unit name access

-- a parameter record with the word `UNITS`
unfoldable pub set_unit : Option Measure → Option Measure → Result Effect RecordKind
set_unit before None = Err kind.BadUnits
set_unit None (Some unit) = Ok (sets unit)
set_unit (Some first) (Some unit) = Err kind.UnitsTwice

-- the rows of the table
unfoldable pub row : Known → RecordLine → Result Effect RecordKind
row k blank = Ok stays
row k unread = Ok stays
row k (units unit) = set_unit k.unit unit
row k ends = Ok closes
row k continues = Err kind.Continuation
row k (tests fields) = test_record k fields
row k unknown = Err kind.UnknownCode
row k finishes = Err kind.NotEnded

-- behind the end code only blank lines and the file's end may stand
abbrev pub behind : RecordLine → Result Effect RecordKind
behind blank = Ok stays
behind finishes = Ok stays
behind other = Err kind.AfterEnd

-- what a line does, or its fault: by the table, and behind the end code by the rule for what stands there
unfoldable pub effect : Known → RecordLine → Result Effect RecordKind
effect k form = if k.ended then behind form else row k form

-- the layers that an access code reaches: 0 is the first and the last, which may be one
abbrev pub layers_of : ℕ → ℕ → List ℕ
layers_of layers access =
    if access == 0 then (if layers == 1 then 1 ∷ [] else 1 ∷ layers ∷ []) else access ∷ []

-- the probe of a test record on a layer
abbrev pub probe_at : ℕ → ℕ → Spot → ℕ → Probe
probe_at number name at layer = record { number = number; at = at; layer = layer; name = name }

-- the probes that an effect makes: their record is the number of the test record among all
unfoldable pub probes_of_effect : Known → Effect → List Probe
probes_of_effect k (adds name access at) = map (probe_at (k.records + 1) (index_of name k.names) at) (layers_of k.layers access)
probes_of_effect k other = []
