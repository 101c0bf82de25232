-- The number and the name of a refusal: those of its kind.
use Rattle.file_reading.specs.Kinds.{Row}
use Rattle.gerber_reading.specs.Kinds.{row_of as layer_row}
use Rattle.ipc356_records.specs.Kind.{row_of as record_row}
use Rattle.xnc.specs.Kind.{row_of as drill_row}
use Rattle.board_package.specs.declared.contents.Refusal.{Refusal}
use Rattle.board_package.specs.declared.contents.Refusal.TheVariants.{Layer, Drill, Netlist}

-- as the reader of that form of file numbers and names it
abbrev pub refusal_row : Refusal → Row
refusal_row (Layer kind command at) = layer_row kind
refusal_row (Drill kind line at) = drill_row kind
refusal_row (Netlist kind line) = record_row kind
