-- What a copper file is read as where it may have macros.
use Rattle.std.specs.Prelude.{ℕ, List}
use Rattle.board_shapes.specs.Pieces.{PlainPiece}
use Rattle.board_shapes.specs.declared.TheConstants.{MOST_PIECES}
use Rattle.file_reading.specs.declared.fault.FileFault.{FileFault}
use Rattle.gerber_layer.specs.declared.TheConstants.{MOST_FLAT_EDGES}
use Rattle.gerber_reading.specs.Dialect.{Dialect, HasOneAnswerBy, IsFaultBy, IsReadBy, IsRefusedBy}
use Rattle.gerber_layer.specs.declared.macro_kind.FlattenKind.{FlattenKind}
use Rattle.gerber_layer.specs.MacroCommands.{command_with_macros}
use Rattle.gerber_layer.specs.MacroTable.{macro_table}
use Rattle.apertures.specs.declared.aperture.Aperture.{Aperture}
use Rattle.board_shapes.specs.Figures.{Figure}
use Rattle.gerber_layer.specs.CommandEffects.{Place}

-- the dialect with macros
abbrev pub with_macros : Dialect Figure (Unit {0}) Aperture FlattenKind
with_macros = record { command = command_with_macros; table = macro_table }

-- the pieces stand on layer 1 of file 0, and there is room for MOST_PIECES pieces and MOST_FLAT_EDGES edges
abbrev pub flat_place : Place
flat_place = record { layer = 1; file = 0; room = record { pieces = MOST_PIECES; edges = MOST_FLAT_EDGES } }

-- no command has a fault, and these are the pieces that they make
abbrev pub IsReadWithMacros : List ℕ → List PlainPiece → Type 0
IsReadWithMacros file pieces = IsReadBy with_macros file flat_place pieces

-- the first command with a fault, its number and its place
abbrev pub IsRefusedWithMacros : List ℕ → FlattenKind → ℕ → ℕ → Type 0
IsRefusedWithMacros file kind number place = IsRefusedBy with_macros file flat_place kind number place

-- why there are no pieces: the file is refused, or memory is wanted
abbrev pub IsMacroFault : List ℕ → FileFault FlattenKind → Type 0
IsMacroFault file why = IsFaultBy with_macros file flat_place why

-- Each file has one answer: the pieces, or the first fault.
abbrev pub HasOneMacroAnswer : List ℕ → Type 0
HasOneMacroAnswer file = HasOneAnswerBy with_macros file flat_place
