-- What a netlist file is read as.
use Rattle.std.specs.Prelude.{ℕ, ◌+◌, ◌*◌, ◌≤◌, List, [], ◌∷◌, ◌++◌, length, map, All, Result, Ok, Err}
use Rattle.board_shapes.specs.Lawful.{IsProbe}
use Rattle.board_shapes.specs.declared.probe.Probe.{Probe}
use Rattle.file_reading.specs.Reading as reading
use Rattle.file_reading.specs.Reading.{Item}
use Rattle.texts.specs.Lines.{PlainLine, lines_of}
use Rattle.ipc356_records.specs.declared.kind.RecordKind.{RecordKind}
use Rattle.ipc356_records.specs.declared.kind.RecordFault.{RecordFault}
use Rattle.ipc356_records.specs.declared.kind.RecordFault.TheVariants as fault
use Rattle.ipc356_records.specs.Line.{RecordLine, finishes}
use Rattle.ipc356_records.specs.RecordLines.{form_of}
use Rattle.ipc356_records.specs.Settings.{known_at, names_of}
use Rattle.ipc356_records.specs.RecordEffects.{Known, Effect, effect, probes_of_effect}
use Rattle.ipc356_records.specs.declared.TheConstants.{MOST_RECORDS}

-- the probes of a line, none where it has a fault
abbrev pub probes_in : Known → Result Effect RecordKind → List Probe
probes_in k (Ok e) = probes_of_effect k e
probes_in k (Err why) = []

-- the probes of each test record in order
abbrev pub probes_of : ℕ → List RecordLine → List Probe
probes_of layers [] = []
probes_of layers (form ∷ earlier) = probes_of layers earlier ++ probes_in (known_at layers earlier) (effect (known_at layers earlier) form)

-- what a line does, or its fault, behind these lines
abbrev pub effect_at : ℕ → List RecordLine → RecordLine → Result Effect RecordKind
effect_at layers earlier form = effect (known_at layers earlier) form

-- the probes of test records, and their distinct names
pub record Netlist : Type 0 where
  pub probes : List Probe
  pub names : List (List ℕ)

-- the netlist of lines on a board of so many layers
abbrev pub netlist_of : ℕ → List RecordLine → Netlist
netlist_of layers earlier = record { probes = probes_of layers earlier; names = names_of earlier }

-- a line's form with its number as its place
abbrev pub item_of : PlainLine → Item RecordLine
item_of l = record { says = form_of l.text; at = l.number }

-- the lines of a file, and its end, which has the next number
abbrev pub items : List ℕ → List (Item RecordLine)
items file = map item_of (lines_of file) ++ record { says = finishes; at = length (lines_of file) + 1 } ∷ []

-- no line has a fault, and these are the probes of the test records and their distinct names
abbrev pub IsRead : List ℕ → ℕ → List Probe → List (List ℕ) → Type 0
IsRead file layers probes names = reading.IsRead (effect_at layers) (netlist_of layers) (items file) (record { probes = probes; names = names })

-- the first line with a fault, by its number
abbrev pub IsRefused : List ℕ → ℕ → RecordKind → ℕ → Type 0
IsRefused file layers why line = (count : ℕ) × reading.IsRefused (effect_at layers) (items file) why count line

-- why there is no netlist: the file is refused, or memory is wanted
abbrev pub IsFault : List ℕ → ℕ → RecordFault → Type 0
IsFault file layers (fault.Refused why line) = IsRefused file layers why line
IsFault file layers fault.NoMemory = Unit {0}

-- Each file has one answer: the probes and the names, or the first fault.
abbrev pub HasOneAnswer : List ℕ → ℕ → Type 0
HasOneAnswer file layers = reading.HasOneAnswer (λ (n : Netlist). IsRead file layers n.probes n.names) (λ why count line. reading.IsRefused (effect_at layers) (items file) why count line)

-- what a board asks of probes and names
pub record FitsBoard (layers : ℕ) (probes : List Probe) (names : List (List ℕ)) : Type 0 where
  pub lawful : All (IsProbe (length names) layers) probes
  pub few_probes : length probes ≤ 2 * MOST_RECORDS
  pub few_names : length names ≤ MOST_RECORDS
