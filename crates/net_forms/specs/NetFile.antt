-- What a netlist file is read as, as tools write it.
use Rattle.std.specs.Prelude.{ℕ, ◌+◌, List, [], ◌∷◌, ◌++◌, length, map}
use Rattle.board_shapes.specs.declared.probe.Probe.{Probe}
use Rattle.file_reading.specs.Reading as reading
use Rattle.file_reading.specs.Reading.{Item}
use Rattle.texts.specs.Lines.{PlainLine, lines_of}
use Rattle.ipc356_records.specs.declared.kind.RecordKind.{RecordKind}
use Rattle.ipc356_records.specs.declared.kind.RecordFault.{RecordFault}
use Rattle.ipc356_records.specs.declared.kind.RecordFault.TheVariants as fault
use Rattle.ipc356_records.specs.Line.{RecordLine, finishes}
use Rattle.ipc356_records.specs.NetlistFile.{Netlist, effect_at, netlist_of}
use Rattle.net_forms.specs.NetLines.{form_of}

-- a line's form with its number as its place
abbrev pub item_of : PlainLine → Item RecordLine
item_of l = record { says = form_of l.text; at = l.number }

-- the lines of a file, and its end, which has the next number
abbrev pub items : List ℕ → List (Item RecordLine)
items file = map item_of (lines_of file) ++ record { says = finishes; at = length (lines_of file) + 1 } ∷ []

-- no line has a fault, and these are the probes of the test records and their distinct names
abbrev pub IsRead : List ℕ → ℕ → List Probe → List (List ℕ) → Type 0
IsRead file layers probes names = reading.IsRead (effect_at layers) (netlist_of layers) (items file) (record { probes = probes; names = names })

-- the first line with a fault, by its number
abbrev pub IsRefused : List ℕ → ℕ → RecordKind → ℕ → Type 0
IsRefused file layers why line = (count : ℕ) × reading.IsRefused (effect_at layers) (items file) why count line

-- why there is no netlist: the file is refused, or memory is wanted
abbrev pub IsFault : List ℕ → ℕ → RecordFault → Type 0
IsFault file layers (fault.Refused why line) = IsRefused file layers why line
IsFault file layers fault.NoMemory = Unit {0}

-- Each file has one answer: the probes and the names, or the first fault.
abbrev pub HasOneAnswer : List ℕ → ℕ → Type 0
HasOneAnswer file layers = reading.HasOneAnswer (λ (n : Netlist). IsRead file layers n.probes n.names) (λ why count line. reading.IsRefused (effect_at layers) (items file) why count line)
