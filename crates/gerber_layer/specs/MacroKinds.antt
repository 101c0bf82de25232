-- The table of the kinds of refusal where a file may have macros.
use Rattle.file_reading.specs.Kinds.{Row, row}
use Rattle.gerber_layer.specs.declared.macro_kind.FlattenKind.{FlattenKind}
use Rattle.gerber_layer.specs.declared.macro_kind.FlattenKind.TheVariants.{Gerber, BadMacro, MacroTwice, NoMacro, ExposureOff, Turn, Slanted, TooManyRadii}
use Rattle.gerber_reading.specs.Kinds.{row_of}

-- the row of a kind: those of macros come behind those of files without
abbrev pub flatten_row : FlattenKind → Row
flatten_row = elim [
  | Gerber kind ↦ row_of kind
  | BadMacro ↦ row 31 "BadMacro"
  | MacroTwice ↦ row 32 "MacroTwice"
  | NoMacro ↦ row 33 "NoMacro"
  | ExposureOff ↦ row 34 "ExposureOff"
  | Turn ↦ row 35 "Turn"
  | Slanted ↦ row 36 "Slanted"
  | TooManyRadii ↦ row 37 "TooManyRadii"
]
