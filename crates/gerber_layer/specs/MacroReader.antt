-- What the reader shows and keeps where a file may have macros.
use Rattle.std.specs.Prelude.{ℕ, Bool, true, false, List, Result, Ok, Err}
use Rattle.file_reading.specs.declared.halt.Halt.{Halt}
use Rattle.file_reading.specs.declared.halt.Halt.TheVariants as halt
use Rattle.gerber_reading.specs.declared.kind.GerberKind.{GerberKind}
use Rattle.gerber_layer.specs.declared.macro_kind.FlattenKind.{FlattenKind}
use Rattle.gerber_layer.specs.declared.macro_kind.FlattenKind.TheVariants.{Gerber}
use Rattle.gerber_layer.specs.declared.effect.Effect.{Effect as Seen}
use Rattle.gerber_layer.specs.declared.effect.Effect.TheVariants as seen
use Rattle.gerber_layer.specs.declared.radii.Radii.{Radii}
use Rattle.gerber_layer.specs.CommandEffects.{Known, Effect}
use Rattle.gerber_layer.specs.MacroTable.{gerber}
use Rattle.gerber_layer.specs.Reader.{shown}

-- what an effect comes to, or the fault of a command
abbrev pub showing_any : Known → Result Seen FlattenKind → Result Effect FlattenKind
showing_any k (Ok e) = gerber (shown k e)
showing_any k (Err fault) = Err fault

-- the radii that were met, in order of first use
abbrev pub radii_in : Radii → List ℕ
radii_in r = r.radii.keys

-- the effect ends the file
abbrev pub is_end : Seen → Bool
is_end seen.Ends = true
is_end other = false

-- what stops the reader at a row that is the same without macros
abbrev pub any_halt : Halt GerberKind → Halt FlattenKind
any_halt (halt.Fault kind) = halt.Fault (Gerber kind)
any_halt halt.NoMemory = halt.NoMemory
