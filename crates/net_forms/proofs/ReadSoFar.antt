-- How far a file is read.
use Rattle.std.proofs.Common.{◌≡◌, ℕ, ◌≤◌, ◌+◌, List, [], ◌∷◌, ◌++◌, length, map, reverse, Result, Ok, Err, IsOk, refl, sym, ap, ◌∙◌, subst, arith}
use Rattle.std.specs.Prelude.{IfOk, IfErr}
use Rattle.std.proofs.lemmas.List.{length-map, length-append, length-reverse}
use Rattle.board_shapes.specs.declared.probe.Probe.{Probe}
use Rattle.file_reading.specs.Reading.{Item, IsReadTo, said}
use Rattle.file_reading.proofs.Turning.{read-more}
use Rattle.texts.specs.Lines.{Ahead, PlainLine, lines_from, lines_of}
use Rattle.ipc356_records.specs.declared.kind.RecordKind.{RecordKind}
use Rattle.file_reading.specs.declared.halt.Halt.{Halt}
use Rattle.file_reading.specs.declared.halt.Halt.TheVariants as halt
use Rattle.ipc356_records.specs.declared.kind.RecordFault.{RecordFault}
use Rattle.ipc356_records.specs.declared.reader.Reader.{Reader}
use Rattle.ipc356_records.specs.Line.{RecordLine, finishes}
use Rattle.net_forms.specs.NetLines.{form_of}
use Rattle.ipc356_records.specs.RecordEffects.{Known, Effect, effect}
use Rattle.ipc356_records.specs.NetlistFile.{FitsBoard, Netlist, effect_at, probes_of}
use Rattle.ipc356_records.proofs.Fits.{fit}
use Rattle.ipc356_records.specs.Settings.{names_of}
use Rattle.net_forms.specs.NetFile.{item_of, items, IsRead, IsRefused, IsFault}
use Rattle.ipc356_records.specs.Reader.{known_of, Obeys, Halts, fault_at, Leaves, Faults}
use Rattle.ipc356_records.proofs.Bridge.{State, state-push}

-- the file's end
abbrev pub end_of : List ℕ → Item RecordLine
end_of file = record { says = finishes; at = length (lines_of file) + 1 }

-- these lines, and the end
abbrev items_with : List ℕ → List PlainLine → List (Item RecordLine)
items_with file lines = map item_of lines ++ end_of file ∷ []

-- the file is read to the lines ahead, and the reader knows what looking back finds
pub record ReadSoFar (file : List ℕ) (layers : ℕ) (a : Ahead) (r : Reader) : Type 0 where
  pub earlier : List (Item RecordLine)
  pub read : IsReadTo (effect_at layers) (items file) earlier (items_with file (lines_from a))
  pub number : a.number ≡ length earlier + 1
  pub state : State layers (said earlier) r

is_ok : (k k' : Known) (form : RecordLine) (e : Effect) → k ≡ k' → effect k form ≡ Ok e → IsOk (effect k' form)
is_ok k k' form e same h = let f : effect k' form ≡ Ok e = subst (λ (t : Known). effect t form ≡ Ok e) same h in rw f refl

-- what lies ahead are these lines
ahead_is : (file : List ℕ) (layers : ℕ) (a : Ahead) (r : Reader) (lines : List PlainLine) → (s : ReadSoFar file layers a r) → lines_from a ≡ lines → IsReadTo (effect_at layers) (items file) s.earlier (items_with file lines)
ahead_is file layers a r lines s is = subst (λ (ls : List PlainLine). IsReadTo (effect_at layers) (items file) s.earlier (items_with file ls)) is s.read

-- an item that was obeyed
item-read : (file : List ℕ) (layers : ℕ) (earlier rest : List (Item RecordLine)) (item : Item RecordLine) (r r' : Reader) → IsReadTo (effect_at layers) (items file) earlier (item ∷ rest) → State layers (said earlier) r → Obeys r item.says r' → IsReadTo (effect_at layers) (items file) (item ∷ earlier) rest
item-read file layers earlier rest item r r' read state o = read-more (effect_at layers) (items file) earlier rest item read (is_ok (known_of r) _ item.says o.effect_is state.known o.clean)

-- a line that was obeyed
pub line-read : (file : List ℕ) (layers : ℕ) (old new : Ahead) (line : PlainLine) (r r' : Reader) → ReadSoFar file layers old r → lines_from old ≡ line ∷ lines_from new → new.number ≡ old.number + 1 → Obeys r (form_of line.text) r' → ReadSoFar file layers new r'
line-read file layers old new line r r' s next counts o = record {
  earlier = item_of line ∷ s.earlier;
  read = item-read file layers s.earlier (items_with file (lines_from new)) (item_of line) r r' (ahead_is file layers old r (line ∷ lines_from new) s next) s.state o;
  number = (let a = s.number in omega arith);
  state = state-push layers (said s.earlier) r (form_of line.text) r' s.state o;
}

-- an item that has a fault
refused : (file : List ℕ) (layers : ℕ) (earlier later : List (Item RecordLine)) (item : Item RecordLine) (r : Reader) (why : RecordKind) (number : ℕ) → IsReadTo (effect_at layers) (items file) earlier (item ∷ later) → State layers (said earlier) r → effect (known_of r) item.says ≡ Err why → number ≡ item.at → IsRefused file layers why number
refused file layers earlier later item r why number read state h at = (
  length earlier + 1,
  record {
    earlier = earlier;
    item = item;
    later = later;
    first = read;
    is = subst (λ (k : Known). effect k item.says ≡ Err why) state.known h;
    counts = refl;
    at = at;
  },
)

-- the file's end, where it is obeyed
end-obeyed : (file : List ℕ) (layers : ℕ) (a : Ahead) (r r' : Reader) → ReadSoFar file layers a r → lines_from a ≡ [] → Obeys r finishes r' → IsRead file layers r'.probes (known_of r').names
end-obeyed file layers a r r' s none o =
    let last : State layers (finishes ∷ said s.earlier) r' = state-push layers (said s.earlier) r finishes r' s.state o in
    let names = ap (λ (k : Known). k.names) last.known in
    record {
      earlier = end_of file ∷ s.earlier;
      whole = item-read file layers s.earlier [] (end_of file) r r' (ahead_is file layers a r [] s none) s.state o;
      is = rw (last.probes, names) refl;
    }

-- the end's number
end_number : (file : List ℕ) (layers : ℕ) (a : Ahead) (r : Reader) → ReadSoFar file layers a r → lines_from a ≡ [] → a.number ≡ length (lines_of file) + 1
end_number file layers a r s none =
    let all : length (items file) ≡ length (reverse s.earlier ++ end_of file ∷ []) = ap length (ahead_is file layers a r [] s none).split in
    let lines = length-append (map item_of (lines_of file)) (end_of file ∷ []) in
    let forms = length-map (lines_of file) item_of in
    let earlier = length-append (reverse s.earlier) (end_of file ∷ []) in
    let back = length-reverse s.earlier in
    let number = s.number in
    omega arith

-- the fault of an item at which the reader stops is the file's
item-fault : (file : List ℕ) (layers : ℕ) (earlier later : List (Item RecordLine)) (item : Item RecordLine) (r : Reader) (why : RecordFault) (number : ℕ) → IsReadTo (effect_at layers) (items file) earlier (item ∷ later) → State layers (said earlier) r → number ≡ item.at → Faults r item.says number why → IsFault file layers why
item-fault file layers earlier later item r why number read state at f = subst (IsFault file layers) (sym f.is) (halted f.halt f.halts)
  where
    halted : (h : Halt RecordKind) → Halts (known_of r) item.says h → IsFault file layers (fault_at h number)
    halted (halt.Fault kind) is = refused file layers earlier later item r kind number read state is at
    halted halt.NoMemory is = tt

pub line-fault : (file : List ℕ) (layers : ℕ) (old : Ahead) (line : PlainLine) (lines : List PlainLine) (r : Reader) (why : RecordFault) (number : ℕ) → ReadSoFar file layers old r → lines_from old ≡ line ∷ lines → number ≡ line.number → Faults r (form_of line.text) number why → IsFault file layers why
line-fault file layers old line lines r why number s next at f = item-fault file layers s.earlier (items_with file lines) (item_of line) r why number (ahead_is file layers old r (line ∷ lines) s next) s.state at f

-- the answer at the file's end
pub end-read : (probes : List Probe) (names : List (List ℕ)) (file : List ℕ) (layers : ℕ) (a : Ahead) (r : Reader) → ReadSoFar file layers a r → lines_from a ≡ [] → Leaves r finishes probes names → IsRead file layers probes names
end-read probes names file layers a r s none h =
    let read = end-obeyed file layers a r h.last s none h.obeys in
    subst (λ (ps : List Probe). IsRead file layers ps names) (sym h.probes_are) (subst (λ (ns : List (List ℕ)). IsRead file layers h.last.probes ns) (sym h.names_are) read)

pub end-fault : (why : RecordFault) (number : ℕ) (file : List ℕ) (layers : ℕ) (a : Ahead) (r : Reader) → ReadSoFar file layers a r → lines_from a ≡ [] → number ≡ a.number → Faults r finishes number why → IsFault file layers why
end-fault why number file layers a r s none at f = item-fault file layers s.earlier [] (end_of file) r why number (ahead_is file layers a r [] s none) s.state (at ∙ end_number file layers a r s none) f

pub if-read : {V : Type 0} (probes : V → List Probe) (names : V → List (List ℕ)) (result : Result V RecordFault) (file : List ℕ) (layers : ℕ) (a : Ahead) (r : Reader) → ReadSoFar file layers a r → lines_from a ≡ [] → IfOk result (λ v. Leaves r finishes (probes v) (names v)) → IfOk result (λ v. IsRead file layers (probes v) (names v))
if-read probes names (Ok v) file layers a r s none h = end-read (probes v) (names v) file layers a r s none h
if-read probes names (Err why) file layers a r s none h = tt

pub if-fault : {V : Type 0} (result : Result V RecordFault) (number : ℕ) (file : List ℕ) (layers : ℕ) (a : Ahead) (r : Reader) → ReadSoFar file layers a r → lines_from a ≡ [] → number ≡ a.number → IfErr result (Faults r finishes number) → IfErr result (IsFault file layers)
if-fault (Ok v) number file layers a r s none at h = tt
if-fault (Err why) number file layers a r s none at h = end-fault why number file layers a r s none at h

-- what is read fits a board
fits_board : (file : List ℕ) (layers : ℕ) (probes : List Probe) (names : List (List ℕ)) → 1 ≤ layers → IsRead file layers probes names → FitsBoard layers probes names
fits_board file layers probes names some read =
    let f = fit layers some (said read.earlier) read.whole.clean in
    let probes_are : probes ≡ probes_of layers (said read.earlier) = ap (λ (n : Netlist). n.probes) read.is in
    let names_are : names ≡ names_of (said read.earlier) = ap (λ (n : Netlist). n.names) read.is in
    record {
      lawful = rw (probes_are, names_are) f.lawful;
      few_probes = rw probes_are (let a = f.probes in let b = f.records in omega arith);
      few_names = rw names_are (let a = f.names in let b = f.records in omega arith);
    }

pub if_fits_board : {V : Type 0} (probes : V → List Probe) (names : V → List (List ℕ)) (result : Result V RecordFault) (file : List ℕ) (layers : ℕ) → 1 ≤ layers → IfOk result (λ v. IsRead file layers (probes v) (names v)) → IfOk result (λ v. FitsBoard layers (probes v) (names v))
if_fits_board probes names (Ok v) file layers some h = fits_board file layers (probes v) (names v) some h
if_fits_board probes names (Err why) file layers some h = tt
