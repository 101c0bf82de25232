-- What the reader of a netlist keeps.
use Rattle.std.specs.Prelude.{◌≡◌, ℕ, ◌+◌, ◌<◌, ◌≤◌, true, false, List, [], ◌++◌, length, All, Some, None, Result, Ok, Err}
use Rattle.lengths.specs.Text.{IsText}
use Rattle.board_shapes.specs.declared.probe.Probe.{Probe}
use Rattle.ipc356_records.specs.declared.kind.RecordKind.{RecordKind}
use Rattle.ipc356_records.specs.declared.kind.RecordFault.{RecordFault}
use Rattle.ipc356_records.specs.declared.kind.RecordFault.TheVariants as fault
use Rattle.file_reading.specs.declared.halt.Halt.{Halt}
use Rattle.file_reading.specs.declared.halt.Halt.TheVariants as halt
use Rattle.ipc356_records.specs.declared.effect.Effect.{Effect as Seen}
use Rattle.ipc356_records.specs.declared.effect.Effect.TheVariants as seen
use Rattle.ipc356_records.specs.declared.reader.Reader.{Reader}
use Rattle.ipc356_records.specs.Line.{RecordLine}
use Rattle.ipc356_records.specs.Names.{with_name}
use Rattle.ipc356_records.specs.NameTable.{names_in}
use Rattle.ipc356_records.specs.RecordEffects.{Known, Effect, stays, sets, closes, adds, effect, probes_of_effect}
use Rattle.ipc356_records.specs.declared.TheConstants.{MOST_RECORDS}

-- the effect that was seen, the name as its bytes, or the fault of a line
abbrev pub shown : Seen → Effect
shown seen.Stays = stays
shown (seen.Sets unit) = sets unit
shown seen.Closes = closes
shown (seen.Adds name access at) = adds name.now access at

abbrev pub showing : Result Seen RecordKind → Result Effect RecordKind
showing (Ok e) = Ok (shown e)
showing (Err why) = Err why

-- what a reader knows before the next line
abbrev pub known_of : Reader → Known
known_of r = record {
  unit = r.unit;
  records = r.records;
  names = names_in r.names;
  ended = r.ended;
  layers = r.layers;
}

-- what is known behind a line
abbrev pub after : Known → Effect → Known
after k stays = k
after k (sets unit) = record k { unit = Some unit }
after k closes = record k { ended = true }
after k (adds name access at) = record k { records = k.records + 1; names = with_name name k.names }

-- the reader has taken an effect on
pub record Applies (old : Reader) (e : Effect) (new : Reader) : Type 0 where
  pub known : known_of new ≡ after (known_of old) e
  pub probes : new.probes ≡ old.probes ++ probes_of_effect (known_of old) e

-- the reader has obeyed a line that has no fault
pub record Obeys (old : Reader) (form : RecordLine) (new : Reader) : Type 0 where
  pub effect_is : Effect
  pub clean : effect (known_of old) form ≡ Ok effect_is
  pub applied : Applies old effect_is new

-- the reader with more probes
pub record Pushes (old : Reader) (more : List Probe) (new : Reader) : Type 0 where
  pub is : new ≡ record old { probes = new.probes }
  pub probes : new.probes ≡ old.probes ++ more

-- what a reader keeps between two lines: at most MOST_RECORDS test records, and no more names than records
pub record IsLawfulReader (r : Reader) : Type 0 where
  pub records : r.records ≤ MOST_RECORDS
  pub few : length (names_in r.names) ≤ r.records
  pub names : All IsText (names_in r.names)
  pub some_layer : 1 ≤ r.layers

-- an effect that the reader can take on
abbrev pub IsFit : Reader → Effect → Type 0
IsFit r (adds name access at) = IsText name × (access ≤ r.layers) × (r.records < MOST_RECORDS)
IsFit r other = Unit {0}

-- what stops the reader at a line
abbrev pub Halts : Known → RecordLine → Halt RecordKind → Type 0
Halts k form (halt.Fault why) = effect k form ≡ Err why
Halts k form halt.NoMemory = Unit {0}

-- no line has been read
pub record IsNew (layers : ℕ) (r : Reader) : Type 0 where
  pub known : known_of r ≡ record { unit = None; records = 0; names = []; ended = false; layers = layers }
  pub probes : r.probes ≡ []

-- what stops the reader, as the fault of the file at the line of this number
abbrev pub fault_at : Halt RecordKind → ℕ → RecordFault
fault_at (halt.Fault why) line = fault.Refused why line
fault_at halt.NoMemory line = fault.NoMemory

-- The reader obeys a last line, and these probes and names are left.
pub record Leaves (r : Reader) (form : RecordLine) (probes : List Probe) (names : List (List ℕ)) : Type 0 where
  pub last : Reader
  pub obeys : Obeys r form last
  pub probes_are : probes ≡ last.probes
  pub names_are : names ≡ names_in last.names

-- the fault of a line
pub record Faults (r : Reader) (form : RecordLine) (line : ℕ) (why : RecordFault) : Type 0 where
  pub halt : Halt RecordKind
  pub halts : Halts (known_of r) form halt
  pub is : why ≡ fault_at halt line
