-- How far a file is read.
use Rattle.std.proofs.Common.{◌≡◌, ℕ, ◌+◌, ◌<◌, ◌^◌, List, [], ◌∷◌, length, Option, None, Result, Ok, Err, IsOk, refl, sym, ap, ◌∙◌, subst, arith}
use mathlib.Core.Path.{fun_ext}
use Rattle.std.proofs.lemmas.List.{length-map}
use Rattle.step_repeat.specs.Copies.{pieces_by}
use Rattle.step_repeat.specs.Figures.{Handling}
use Rattle.file_reading.specs.Reading.{Item, IsReadTo, said}
use Rattle.file_reading.proofs.Turning.{read-start, read-more}
use Rattle.gerber_words.specs.Words.{Ahead, Entry, Stop, HasWords, start}
use Rattle.gerber_words.specs.Items.{AreItems, word_item, stop_item, items_with}
use Rattle.gerber_words.specs.Laws.{HasOneReadingAhead}
use Rattle.gerber_reading.specs.Command.{Command}
use Rattle.std.specs.Prelude.{All, IfErr, IfOk, IfSome, Some}
use Rattle.board_shapes.specs.declared.placed.Placed.{Placed}
use Rattle.file_reading.specs.declared.halt.Halt.{Halt}
use Rattle.file_reading.specs.declared.halt.Halt.TheVariants as halt
use Rattle.file_reading.specs.Faults.{stopped_at}
use Rattle.file_reading.specs.declared.fault.FileFault.{FileFault}
use Rattle.file_reading.specs.declared.fault.FileFault.TheVariants as fault
use Rattle.gerber_reading.specs.declared.reader.Reader.{Reader}
use Rattle.gerber_reading.specs.CommandEffects.{Outline, Place, Known, Effect, Profile}
use Rattle.gerber_reading.specs.Settings.{settings_before, defined_before, macros_before}
use Rattle.gerber_reading.specs.Image.{effect_by, image_by}
use Rattle.gerber_reading.specs.Dialect.{Dialect, IsFaultBy, IsReadBy, IsRefusedBy, stop_command}
use Rattle.gerber_reading.specs.Outcomes.{HasOutcomes}
use Rattle.gerber_reading.specs.Reader.{known_of, contour_of, defined_in, macros_in, place_of, size_of, Obeys, IsNew, Stops, StopsAt, Leaves, IsLawfulReader, IsSound, kept_in}
use Rattle.gerber_reading.specs.Tools.{Macros}
use Rattle.gerber_reading.specs.declared.tool.Tool.{Tool}
use Rattle.gerber_reading.proofs.Bridge.{State, reader_image, state-push, same_known, same_macros}

-- the file is read to these words
pub record ReadToWords {G E A W : Type 0} (f : Dialect G E A W) (file : List ℕ) (p : Place) (earlier : List (Item Command)) (words : List Entry) (stop : Stop) : Type 0 where
  pub all : List (Item Command)
  pub are : AreItems f.command stop_command file all
  pub read : IsReadTo (effect_by f.table p) all earlier (items_with f.command stop_command (length file) words stop)

-- whatever words lie ahead, the file is read to them, and the reader knows what looking back finds
pub record ReadSoFar {F G E A W : Type 0} (plain : F → G) (f : Dialect G E A W) (file : List ℕ) (p : Place) (a : Ahead) (r : (Reader F E A)) : Type 0 where
  pub earlier : List (Item Command)
  pub extends : (words : List Entry) (stop : Stop) → HasWords a words stop → ReadToWords f file p earlier words stop
  pub state : State plain f.table p (said earlier) r

pub nothing-read : {F G E A W : Type 0} (plain : F → G) → (f : Dialect G E A W) (file : List ℕ) (p : Place) (r : (Reader F E A)) → IsNew p r → ReadSoFar plain f file p (start file) r
unfolding image_by
nothing-read plain f file p r n = record {
  earlier = [];
  extends = λ words stop h. record { all = items_with f.command stop_command (length file) words stop; are = record { words = words; stop = stop; cut = h; are = refl }; read = read-start (effect_by f.table p) _ };
  state = record {
    known = same_known r.settings (settings_before []) (defined_in r.dictionary) (defined_before f.table.means.aperture []) (size_of r.dictionary) 0 (macros_in r.dictionary) (macros_before f.table.means.primitive []) (contour_of r.contour) None (reader_image plain r) (image_by f.table p []) (place_of r) p n.settings (fun_ext n.defined) n.size (same_macros (macros_in r.dictionary) (macros_before f.table.means.primitive []) n.latest n.others) n.contour (let a = ap (pieces_by plain) n.pieces in let b = n.start in cc) n.place;
    counts = n.counts;
  };
}

is_ok : {G E A W : Type 0} (f : Profile G E A W) (k k' : (Known G E A)) (c : Command) (e : (Effect G E A)) → k ≡ k' → f.does k c ≡ Ok e → IsOk (f.does k' c)
is_ok f k k' c e same h = let g : f.does k' c ≡ Ok e = subst (λ (t : (Known _ _ _)). f.does t c ≡ Ok e) same h in rw g refl

-- an item that was obeyed
item-read : {F G E A W : Type 0} (plain : F → G) → (f : Profile G E A W) (items : List (Item Command)) (p : Place) (earlier rest : List (Item Command)) (item : Item Command) (r r' : (Reader F E A)) → IsReadTo (effect_by f p) items earlier (item ∷ rest) → State plain f p (said earlier) r → Obeys plain r item.says (f.does (known_of plain r) item.says) r' → IsReadTo (effect_by f p) items (item ∷ earlier) rest
item-read plain f items p earlier rest item r r' read state o = read-more (effect_by f p) items earlier rest item read (is_ok f (known_of plain r) _ item.says o.effect_is state.known o.clean)

-- a word that was obeyed
pub word-read : {F G E A W : Type 0} (plain : F → G) → (f : Dialect G E A W) → HasOutcomes f.table → (file : List ℕ) (p : Place) (old new : Ahead) (w : Entry) (r r' : (Reader F E A)) → ReadSoFar plain f file p old r → ((words : List Entry) (stop : Stop) → HasWords new words stop → HasWords old (w ∷ words) stop) → Obeys plain r (f.command w) (f.table.does (known_of plain r) (f.command w)) r' → ReadSoFar plain f file p new r'
word-read plain f outcomes file p old new w r r' s next o = record {
  earlier = word_item f.command w ∷ s.earlier;
  extends = λ words stop h.
      let x = s.extends (w ∷ words) stop (next words stop h) in
      record { all = x.all; are = x.are; read = item-read plain f.table x.all p s.earlier (items_with f.command stop_command (length file) words stop) (word_item f.command w) r r' x.read s.state o };
  state = state-push plain f.table outcomes p (said s.earlier) r (f.command w) r' s.state o;
}

count_of : {F G E A W : Type 0} (plain : F → G) → (f : Profile G E A W) (earlier : List (Item Command)) (r : (Reader F E A)) (p : Place) (number : ℕ) → State plain f p (said earlier) r → number ≡ r.commands + 1 → number ≡ length earlier + 1
count_of plain f earlier r p number s h = h ∙ ap (λ (k : ℕ). k + 1) (s.counts ∙ length-map earlier (λ i. i.says))

-- an item that has a fault
refused : {F G E A W : Type 0} (plain : F → G) → (f : Dialect G E A W) (file : List ℕ) (p : Place) (items earlier later : List (Item Command)) (item : Item Command) (r : (Reader F E A)) (why : W) (number : ℕ) → AreItems f.command stop_command file items → IsReadTo (effect_by f.table p) items earlier (item ∷ later) → State plain f.table p (said earlier) r → f.table.does (known_of plain r) item.says ≡ Err why → number ≡ r.commands + 1 → IsRefusedBy f file p why number item.at
refused plain f file p items earlier later item r why number are read state h n = (
  items,
  are,
  record {
    earlier = earlier;
    item = item;
    later = later;
    first = read;
    is = subst (λ (k : (Known _ _ _)). f.table.does k item.says ≡ Err why) state.known h;
    counts = count_of plain f.table earlier r p number state n;
    at = refl;
  },
)

-- what stops the reader at an item is that item's fault
pub stopped : {F G E A W : Type 0} (plain : F → G) → (f : Profile G E A W) (r : (Reader F E A)) (c : Command) (at : ℕ) (why : Halt W) → Stops (f.does (known_of plain r) c) why → StopsAt plain f r c at (stopped_at (r.commands + 1) at why)
stopped plain f r c at (halt.Fault why) h = (h, refl, refl)
stopped plain f r c at halt.NoMemory h = tt

faulty : {F G E A W : Type 0} (plain : F → G) → (f : Dialect G E A W) (file : List ℕ) (p : Place) (items earlier later : List (Item Command)) (item : Item Command) (r : (Reader F E A)) (why : FileFault W) → AreItems f.command stop_command file items → IsReadTo (effect_by f.table p) items earlier (item ∷ later) → State plain f.table p (said earlier) r → StopsAt plain f.table r item.says item.at why → IsFaultBy f file p why
faulty plain f file p items earlier later item r (fault.Refused why number place) are read state (h, n, here) = rw here (refused plain f file p items earlier later item r why number are read state h n)
faulty plain f file p items earlier later item r fault.NoMemory are read state h = tt

-- at a word
pub stopped-at-word : {F G E A W : Type 0} (plain : F → G) → (f : Dialect G E A W) → ((a : Ahead) → HasOneReadingAhead a) → (file : List ℕ) (p : Place) (old new : Ahead) (w : Entry) (r : (Reader F E A)) (why : FileFault W) → ReadSoFar plain f file p old r → ((words : List Entry) (stop : Stop) → HasWords new words stop → HasWords old (w ∷ words) stop) → StopsAt plain f.table r (f.command w) w.at why → IsFaultBy f file p why
stopped-at-word plain f one file p old new w r why s next h =
    let more = one new in
    let x = s.extends (w ∷ more.words) more.stop (next more.words more.stop more.is) in
    faulty plain f file p x.all s.earlier (items_with f.command stop_command (length file) more.words more.stop) (word_item f.command w) r why x.are x.read s.state h

-- at the stop, as the reader's result
pub stopped-at-stop : {F G E A V W : Type 0} (plain : F → G) → (f : Dialect G E A W) (result : Result V (FileFault W)) (file : List ℕ) (p : Place) (old : Ahead) (stop : Stop) (r : (Reader F E A)) → ReadSoFar plain f file p old r → HasWords old [] stop → IfErr result (StopsAt plain f.table r (stop_item stop_command (length file) stop).says (stop_item stop_command (length file) stop).at) → IfErr result (IsFaultBy f file p)
stopped-at-stop plain f (Ok v) file p old stop r s had h = tt
stopped-at-stop plain f (Err why) file p old stop r s had h =
    let x = s.extends [] stop had in
    faulty plain f file p x.all s.earlier [] (stop_item stop_command (length file) stop) r why x.are x.read s.state h

-- the stop, where it is obeyed
stop-obeyed : {F G E A W : Type 0} (plain : F → G) → (f : Dialect G E A W) → HasOutcomes f.table → (file : List ℕ) (p : Place) (old : Ahead) (stop : Stop) (r r' : (Reader F E A)) → ReadSoFar plain f file p old r → HasWords old [] stop → Obeys plain r (stop_item stop_command (length file) stop).says (f.table.does (known_of plain r) (stop_item stop_command (length file) stop).says) r' → IsReadBy f file p (pieces_by plain r'.pieces.items)
stop-obeyed plain f outcomes file p old stop r r' s h o =
    let x = s.extends [] stop h in
    let last = state-push plain f.table outcomes p (said s.earlier) r (stop_item stop_command (length file) stop).says r' s.state o in (
      x.all,
      x.are,
      record {
        earlier = stop_item stop_command (length file) stop ∷ s.earlier;
        whole = item-read plain f.table x.all p s.earlier [] (stop_item stop_command (length file) stop) r r' x.read s.state o;
        is = ap (λ (k : (Known _ _ _)). k.pieces) last.known;
      },
    )

-- the answer at the stop
pub stop-read : {F G E A V W X : Type 0} (plain : F → G) → (f : Dialect G E A W) → HasOutcomes f.table → (items : V → List (Placed F)) (result : Result V X) (file : List ℕ) (p : Place) (old : Ahead) (stop : Stop) (r : (Reader F E A)) → ReadSoFar plain f file p old r → HasWords old [] stop → IfOk result (λ v. Leaves plain f.table r (stop_item stop_command (length file) stop).says (items v)) → IfOk result (λ v. IsReadBy f file p (pieces_by plain (items v)))
stop-read plain f outcomes items (Ok v) file p old stop r s had h = let a = stop-obeyed plain f outcomes file p old stop r h.last s had h.obeys in subst (λ (t : List (Placed _)). IsReadBy f file p (pieces_by plain t)) (sym h.are) a
stop-read plain f outcomes items (Err e) file p old stop r s had h = tt

none-fits : {T : Type 0} (P : T → Type 0) (o : Option T) → o ≡ None → IfSome o P
none-fits P None none = tt
none-fits P (Some x) none = absurd (cc)

-- a new reader is lawful, whatever its dialect
pub new-lawful : {F G E A : Type 0} (plain : F → G) (h : Handling G) (fits : Macros → Tool A → Type 0) (keeps : E → Type 0) (p : Place) (r : Reader F E A) → IsSound r → r.room.pieces < 2 ^ 32 → ((n : ℕ) → kept_in r.dictionary n ≡ None) → r.edges ≡ 0 → IsNew p r → IsLawfulReader plain h fits keeps r
new-lawful plain h fits keeps p r sound room kept edges n = record {
  sound = sound;
  bends = none-fits (λ (o : Outline _). All (λ l. keeps l.bend) o.legs) (contour_of r.contour) n.contour;
  fit = λ m. none-fits (fits (macros_in r.dictionary)) (kept_in r.dictionary m) (kept m);
  counted = record { edges = rw (edges, n.pieces) refl; few_pieces = rw n.pieces (omega arith); room = room; start = rw (n.start, n.pieces) (omega arith) };
}
