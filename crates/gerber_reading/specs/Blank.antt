-- A dialect without copper.
use Rattle.std.specs.Prelude.{None, Result, Ok, Err}
use Rattle.board_shapes.specs.Figures.{Figure}
use Rattle.apertures.specs.declared.fault.ApertureFault.TheVariants as aperture
use Rattle.gerber_reading.specs.Command.{Command, nothing}
use Rattle.gerber_reading.specs.CommandEffects.{Effect, Known, stays}
use Rattle.gerber_reading.specs.Dialect.{Dialect}
use Rattle.gerber_reading.specs.Tools.{Macros}
use Rattle.gerber_reading.specs.declared.kind.GerberKind.{GerberKind}
use Rattle.gerber_reading.specs.declared.kind.GerberKind.TheVariants.{NotEnded}
use Rattle.gerber_reading.specs.declared.tool.Tool.{Tool}

abbrev pub blank_row : Known Figure (Unit {0}) (Unit {0}) → Command → Result (Effect Figure (Unit {0}) (Unit {0})) GerberKind
blank_row k nothing = Ok stays
blank_row k other = Err NotEnded

-- it defines no apertures
abbrev pub FitsBlank : Macros → Tool (Unit {0}) → Type 0
FitsBlank m tool = Unit {0}

-- and nothing of edges
abbrev pub KeepsBlank : Unit {0} → Type 0
KeepsBlank e = Unit {0}

abbrev pub blank : Dialect Figure (Unit {0}) (Unit {0}) GerberKind
blank = record {
  command = λ w. nothing;
  table = record { does = blank_row; means = record { edge = λ s c. tt; aperture = λ word unit. Err aperture.BadText; primitive = λ word. Ok None } };
}
