-- What is known before a line, found by looking back. A history is a list of lines by their forms, the last first.
use Rattle.std.specs.Prelude.{ℕ, Bool, true, false, List, [], ◌∷◌, Option, Some, None}
use Rattle.std.specs.List.{list_any}
use Rattle.file_reading.specs.LookingBack.{last_said, how_many}
use Rattle.lengths.specs.declared.decimal.Unit.{Unit as Measure}
use Rattle.ipc356_records.specs.Line.{RecordLine, units, ends, tests}
use Rattle.ipc356_records.specs.Names.{with_name}
use Rattle.ipc356_records.specs.RecordEffects.{Known}

-- the unit that a line sets
abbrev pub unit_in : RecordLine → Option Measure
unit_in (units unit) = unit
unit_in other = None

-- the end code
abbrev pub is_end : RecordLine → Bool
is_end ends = true
is_end other = false

-- a test record
abbrev pub is_record : RecordLine → Bool
is_record (tests fields) = true
is_record other = false

-- the net name of a test record
abbrev pub name_in : RecordLine → Option (List ℕ)
name_in (tests fields) = fields.name
name_in other = None

-- the names with that of a line, if it has one
abbrev pub with_name_if : Option (List ℕ) → List (List ℕ) → List (List ℕ)
with_name_if None names = names
with_name_if (Some name) names = with_name name names

-- the unit, how many test records, their distinct names in first-seen order, and whether the end code stands there
abbrev pub unit_before : List RecordLine → Option Measure
unit_before earlier = last_said unit_in earlier

abbrev pub records_before : List RecordLine → ℕ
records_before earlier = how_many is_record earlier

abbrev pub names_of : List RecordLine → List (List ℕ)
names_of [] = []
names_of (form ∷ earlier) = with_name_if (name_in form) (names_of earlier)

abbrev pub has_ended : List RecordLine → Bool
has_ended earlier = list_any is_end earlier

-- what is known before the next line, on a board of so many layers
abbrev pub known_at : ℕ → List RecordLine → Known
known_at layers earlier = record {
  unit = unit_before earlier;
  records = records_before earlier;
  names = names_of earlier;
  ended = has_ended earlier;
  layers = layers;
}
