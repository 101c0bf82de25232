-- How a report numbers and names the kinds of refusal of netlists.
use Rattle.file_reading.specs.Kinds.{Row, row}
use Rattle.ipc356_records.specs.declared.kind.RecordKind.{RecordKind}
use Rattle.ipc356_records.specs.declared.kind.RecordKind.TheVariants.{UnknownCode, Continuation, MissingUnits, UnitsTwice, BadUnits, BadAccess, BadNumber, BadName, OutOfRange, NotEnded, AfterEnd, TooManyRecords}

-- the row of a kind
abbrev pub row_of : RecordKind → Row
row_of = elim [
  | UnknownCode ↦ row 1 "UnknownCode"
  | Continuation ↦ row 2 "Continuation"
  | MissingUnits ↦ row 3 "MissingUnits"
  | UnitsTwice ↦ row 4 "UnitsTwice"
  | BadUnits ↦ row 5 "BadUnits"
  | BadAccess ↦ row 6 "BadAccess"
  | BadNumber ↦ row 7 "BadNumber"
  | BadName ↦ row 8 "BadName"
  | OutOfRange ↦ row 9 "OutOfRange"
  | NotEnded ↦ row 10 "NotEnded"
  | AfterEnd ↦ row 11 "AfterEnd"
  | TooManyRecords ↦ row 12 "TooManyRecords"
]
