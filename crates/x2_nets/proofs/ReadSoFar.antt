-- How far the words of a file are read.
use Rattle.std.proofs.Common.{◌≡◌, ℕ, ◌+◌, ◌-◌, ◌≤◌, Some, None, List, [], ◌∷◌, ◌++◌, length, All, Ok, refl, sym, ap, ◌∙◌, subst, arith}
use Rattle.std.proofs.lemmas.List.{append-nil, length-map}
use Rattle.std.proofs.lemmas.List.Elements.{All-push, All-weaker}
use Rattle.std.proofs.lemmas.List.Sorted.{IsNonDecreasingBy-push}
use Rattle.file_reading.specs.Reading.{Item, IsReadTo, said}
use Rattle.file_reading.proofs.Turning.{read-start, read-more}
use Rattle.gerber_words.specs.Words.{Ahead, Entry, Stop, HasWords, start}
use Rattle.gerber_words.specs.Items.{word_item, stop_item, items_with}
use Rattle.gerber_words.specs.Laws.{HasOneReadingAhead}
use Rattle.x2_nets.specs.Labels.{AreSaid, IsFault, IsRead, Rise, Said, nothing, named, unnamed, judged, judged_after, label_of, labels_of, said_of, stop_says}
use Rattle.x2_nets.specs.Seen.{IsAmiss}
use Rattle.x2_nets.specs.declared.listing.LabelFault.{LabelFault}
use Rattle.x2_nets.specs.declared.listing.LabelFault.TheVariants as fault
use Rattle.x2_nets.specs.declared.label_table.Label.{Label}

-- the file is read to these words
pub record ReadToWords (file : List ℕ) (earlier : List (Item Said)) (words : List Entry) (stop : Stop) : Type 0 where
  pub all : List (Item Said)
  pub are : AreSaid file all
  pub read : IsReadTo judged_after all earlier (items_with said_of stop_says (length file) words stop)

-- whatever words lie ahead, the file is read to them, and these are the labels of so many words
pub record ReadSoFar (file : List ℕ) (a : Ahead) (labels : List Label) (count : ℕ) : Type 0 where
  pub earlier : List (Item Said)
  pub extends : (words : List Entry) (stop : Stop) → HasWords a words stop → ReadToWords file earlier words stop
  pub are : labels ≡ labels_of (said earlier)
  pub counts : count ≡ length earlier

pub nothing_read : (file : List ℕ) → ReadSoFar file (start file) [] 0
nothing_read file = record {
  earlier = [];
  extends = λ words stop h. record { all = items_with said_of stop_says (length file) words stop; are = record { words = words; stop = stop; cut = h; are = refl }; read = read-start judged_after _ };
  are = refl;
  counts = refl;
}

-- a word whose name is not amiss
pub word_read : (file : List ℕ) (old new : Ahead) (w : Entry) (labels more : List Label) (count : ℕ) → ReadSoFar file old labels count → ((words : List Entry) (stop : Stop) → HasWords new words stop → HasWords old (w ∷ words) stop) → judged (said_of w) ≡ Ok (said_of w) → more ≡ labels ++ label_of (count + 1) (said_of w) → ReadSoFar file new more (count + 1)
word_read file old new w labels more count s next good listed = record {
  earlier = word_item said_of w ∷ s.earlier;
  extends = λ words stop h.
      let x = s.extends (w ∷ words) stop (next words stop h) in
      record { all = x.all; are = x.are; read = read-more judged_after x.all s.earlier (items_with said_of stop_says (length file) words stop) (word_item said_of w) x.read (rw good refl) };
  are =
      let size : count ≡ length (said s.earlier) = s.counts ∙ sym (length-map s.earlier (λ i. i.says)) in
      listed ∙ ap (λ (ls : List Label). ls ++ label_of (count + 1) (said_of w)) s.are ∙ ap (λ (k : ℕ). labels_of (said s.earlier) ++ label_of (k + 1) (said_of w)) size;
  counts = (let e = s.counts in omega arith);
}

-- a word whose name is amiss, or want of memory
pub word_amiss : ((a : Ahead) → HasOneReadingAhead a) → (file : List ℕ) (old new : Ahead) (w : Entry) (labels : List Label) (count : ℕ) (why : LabelFault) → ReadSoFar file old labels count → ((words : List Entry) (stop : Stop) → HasWords new words stop → HasWords old (w ∷ words) stop) → IsAmiss (said_of w) (count + 1) w.at why → IsFault file why
word_amiss one file old new w labels count fault.NoMemory s next h = tt
word_amiss one file old new w labels count (fault.Bad command at) s next h =
    let more = one new in
    let x = s.extends (w ∷ more.words) more.stop (next more.words more.stop more.is) in
    let number : command ≡ length s.earlier + 1 = h.1 ∙ ap (λ (k : ℕ). k + 1) s.counts in (
      x.all,
      x.are,
      record {
        earlier = s.earlier;
        item = word_item said_of w;
        later = items_with said_of stop_says (length file) more.words more.stop;
        first = x.read;
        is = h.0;
        counts = number;
        at = h.2;
      },
    )

-- the stop, which says nothing
pub stop_read : (file : List ℕ) (old : Ahead) (stop : Stop) (labels : List Label) (count : ℕ) → ReadSoFar file old labels count → HasWords old [] stop → IsRead file labels
stop_read file old stop labels count s h =
    let x = s.extends [] stop h in
    let last = stop_item stop_says (length file) stop in (
      x.all,
      x.are,
      record {
        earlier = last ∷ s.earlier;
        whole = read-more judged_after x.all s.earlier [] last x.read refl;
        is = s.are ∙ sym (append-nil (labels_of (said s.earlier)));
      },
    )

-- ---- The commands rise

pub record RisesTo (labels : List Label) (count : ℕ) : Type 0 where
  pub rise : Rise labels
  pub below : All (λ l. l.command ≤ count) labels

pub none_rise : RisesTo [] 0
none_rise = record { rise = λ i j d m less. omega arith; below = λ i d less. omega arith }

with_label : (labels : List Label) (count : ℕ) (l : Label) → RisesTo labels count → l.command ≡ count + 1 → RisesTo (labels ++ l ∷ []) (count + 1)
with_label labels count l r e = record {
  rise = IsNonDecreasingBy-push (λ x. x.command) labels l r.rise (λ d some. (let b = r.below (length labels - 1) d (omega arith) in omega (arith, b, e)));
  below = All-push (λ x. x.command ≤ count + 1) labels l (All-weaker (λ x. x.command ≤ count) (λ x. x.command ≤ count + 1) (λ x b. omega (arith, b)) labels r.below) (omega (arith, e));
}

rises_on : (labels : List Label) (count : ℕ) (s : Said) → RisesTo labels count → RisesTo (labels ++ label_of (count + 1) s) (count + 1)
rises_on labels count nothing r = rw (append-nil labels) (record { rise = r.rise; below = All-weaker (λ x. x.command ≤ count) (λ x. x.command ≤ count + 1) (λ x b. omega (arith, b)) labels r.below })
rises_on labels count (named t) r = with_label labels count (record { command = count + 1; name = Some t }) r refl
rises_on labels count unnamed r = with_label labels count (record { command = count + 1; name = None }) r refl

pub rises_more : (labels more : List Label) (count : ℕ) (s : Said) → RisesTo labels count → more ≡ labels ++ label_of (count + 1) s → RisesTo more (count + 1)
rises_more labels more count s r e = subst (λ (ls : List Label). RisesTo ls (count + 1)) (sym e) (rises_on labels count s r)
