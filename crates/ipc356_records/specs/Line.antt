-- What a line says by itself, without where it lies in memory.
use Rattle.std.specs.Prelude.{ℕ, List, Option}
use Rattle.std.specs.Option.{option_copied}
use Rattle.lengths.specs.declared.decimal.Unit.{Unit as Measure}
use Rattle.ipc356_records.specs.declared.line.Coordinate.{Coordinate}
use Rattle.ipc356_records.specs.declared.line.TestFields.{TestFields as SeenFields}
use Rattle.ipc356_records.specs.declared.line.RecordLine.{RecordLine as Seen}
use Rattle.ipc356_records.specs.declared.line.RecordLine.TheVariants as seen

-- the fields of a test record, each of them missing where it is amiss
pub record TestFields : Type 0 where
  pub name : Option (List ℕ)
  pub access : Option ℕ
  pub x : Option Coordinate
  pub y : Option Coordinate

-- The end of a file is the last of its forms.
pub data RecordLine : Type 0 where
  blank : RecordLine
  unread : RecordLine
  units : Option Measure → RecordLine
  ends : RecordLine
  continues : RecordLine
  tests : TestFields → RecordLine
  unknown : RecordLine
  finishes : RecordLine

-- what was seen in a test record and in a line, the name as its bytes
abbrev pub view_fields : SeenFields → TestFields
view_fields f = record { name = option_copied f.name; access = f.access; x = f.x; y = f.y }

abbrev pub view : Seen → RecordLine
view seen.Blank = blank
view seen.Unread = unread
view (seen.Units unit) = units unit
view seen.End = ends
view seen.Continuation = continues
view (seen.Test fields) = tests (view_fields fields)
view seen.Unknown = unknown
view seen.Finish = finishes
