-- The table of the kinds of refusal of copper files without macros.
use Rattle.file_reading.specs.Kinds.{Row, row}
use Rattle.gerber_reading.specs.declared.kind.GerberKind.{GerberKind}
use Rattle.gerber_reading.specs.declared.kind.GerberKind.TheVariants.{BadWord, LineBreakInWord, NotEnded, AfterEnd, MissingFormat, MissingUnit, BadFormat, UnitConflict, Incremental, ClearPolarity, Arc, Macro, Block, Polygon, Hole, Transform, NoAperture, ApertureTwice, PenNotCircle, NotInRegion, OpenContour, ShortContour, OffGrid, OutOfRange, WrongLayer, NegativeFile, TooManyPieces, TooManyVertices, NoOperation, TooManyApertures}

-- the row of a kind, which is also that of `FlattenKind` and `RealKind`
abbrev pub row_of : GerberKind → Row
row_of = elim [
  | BadWord ↦ row 1 "BadWord"
  | LineBreakInWord ↦ row 2 "LineBreakInWord"
  | NotEnded ↦ row 3 "NotEnded"
  | AfterEnd ↦ row 4 "AfterEnd"
  | MissingFormat ↦ row 5 "MissingFormat"
  | MissingUnit ↦ row 6 "MissingUnit"
  | BadFormat ↦ row 7 "BadFormat"
  | UnitConflict ↦ row 8 "UnitConflict"
  | Incremental ↦ row 9 "Incremental"
  | ClearPolarity ↦ row 10 "ClearPolarity"
  | Arc ↦ row 11 "Arc"
  | Macro ↦ row 12 "Macro"
  | Block ↦ row 13 "Block"
  | Polygon ↦ row 14 "Polygon"
  | Hole ↦ row 15 "Hole"
  | Transform ↦ row 16 "Transform"
  | NoAperture ↦ row 17 "NoAperture"
  | ApertureTwice ↦ row 18 "ApertureTwice"
  | PenNotCircle ↦ row 19 "PenNotCircle"
  | NotInRegion ↦ row 20 "NotInRegion"
  | OpenContour ↦ row 21 "OpenContour"
  | ShortContour ↦ row 22 "ShortContour"
  | OffGrid ↦ row 23 "OffGrid"
  | OutOfRange ↦ row 24 "OutOfRange"
  | WrongLayer ↦ row 25 "WrongLayer"
  | NegativeFile ↦ row 26 "NegativeFile"
  | TooManyPieces ↦ row 27 "TooManyPieces"
  | TooManyVertices ↦ row 28 "TooManyVertices"
  | NoOperation ↦ row 29 "NoOperation"
  | TooManyApertures ↦ row 30 "TooManyApertures"
]
