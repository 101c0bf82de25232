-- Why a drill file is refused, as a report says it.
use Rattle.file_reading.specs.Kinds.{Row, row}
use Rattle.xnc.specs.declared.kind.DrillKind.{DrillKind}
use Rattle.xnc.specs.declared.kind.DrillKind.TheVariants.{NoHeader, BadLine, MissingUnit, NoTool, ToolTwice, ImpliedDecimals, OffGrid, OutOfRange, ArcRout, WrongMode, WrongSpan, NotPlated, MixedPlating, NotEnded, AfterEnd, TooManyPieces, TooManyTools}

-- the row of a kind
abbrev pub row_of : DrillKind → Row
row_of = elim [
  | NoHeader ↦ row 1 "NoHeader"
  | BadLine ↦ row 2 "BadLine"
  | MissingUnit ↦ row 3 "MissingUnit"
  | NoTool ↦ row 4 "NoTool"
  | ToolTwice ↦ row 5 "ToolTwice"
  | ImpliedDecimals ↦ row 6 "ImpliedDecimals"
  | OffGrid ↦ row 7 "OffGrid"
  | OutOfRange ↦ row 8 "OutOfRange"
  | ArcRout ↦ row 9 "ArcRout"
  | WrongMode ↦ row 10 "WrongMode"
  | WrongSpan ↦ row 11 "WrongSpan"
  | NotPlated ↦ row 12 "NotPlated"
  | MixedPlating ↦ row 13 "MixedPlating"
  | NotEnded ↦ row 14 "NotEnded"
  | AfterEnd ↦ row 15 "AfterEnd"
  | TooManyPieces ↦ row 16 "TooManyPieces"
  | TooManyTools ↦ row 17 "TooManyTools"
]
