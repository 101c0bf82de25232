-- What the readers of lines keep.
use Rattle.std.specs.Prelude.{ℕ, List, Option, Some, None}
use Rattle.lengths.specs.Text.{IsText}
use Rattle.ipc356_records.specs.Line.{RecordLine, tests}

-- a net name that is read can be kept as a text
abbrev pub IsName : Option (List ℕ) → Type 0
IsName None = Unit {0}
IsName (Some name) = IsText name

-- a test record whose name, where it has one, can be kept; nothing is asked of other lines
abbrev pub IsLawfulForm : RecordLine → Type 0
IsLawfulForm (tests fields) = IsName fields.name
IsLawfulForm other = Unit {0}
