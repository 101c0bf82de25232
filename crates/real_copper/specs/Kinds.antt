-- The table of the kinds of refusal of real copper.
use Rattle.std.specs.Prelude.{◌≡◌}
use Rattle.file_reading.specs.Kinds.{HaveOwnNumbers, Row, row}
use Rattle.gerber_layer.specs.MacroKinds.{flatten_row}
use Rattle.gerber_reading.specs.declared.kind.GerberKind.{GerberKind}
use Rattle.gerber_layer.specs.declared.macro_kind.FlattenKind.{FlattenKind}
use Rattle.gerber_layer.specs.declared.macro_kind.FlattenKind.TheVariants as flatten
use Rattle.real_copper.specs.declared.kind.RealKind.{RealKind}
use Rattle.real_copper.specs.declared.kind.RealKind.TheVariants.{Copper, NoOffsets, OffsetsAmiss, NoQuadrants, NoCentre}

-- as where there are neither arcs nor macros
abbrev pub gerber : GerberKind → RealKind
gerber kind = Copper (flatten.Gerber kind)

-- the row of a kind: those of arcs come behind those of files with macros
abbrev pub real_row : RealKind → Row
real_row = elim [
  | Copper kind ↦ flatten_row kind
  | NoOffsets ↦ row 38 "NoOffsets"
  | OffsetsAmiss ↦ row 39 "OffsetsAmiss"
  | NoQuadrants ↦ row 40 "NoQuadrants"
  | NoCentre ↦ row 41 "NoCentre"
]

-- Each kind has a number of its own, which no other kind of a copper file with macros has.
abbrev pub RealKindsHaveOwnNumbers : Type 0
RealKindsHaveOwnNumbers = HaveOwnNumbers real_row × ((a : RealKind) (b : FlattenKind) → (real_row a).number ≡ (flatten_row b).number → a ≡ Copper b)
