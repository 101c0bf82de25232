-- A file that is cut off is refused, whatever the dialect that it is read by.
use Rattle.std.proofs.Common.{◌≡◌, ℕ, ◌+◌, ◌<◌, ◌≤◌, Bool, true, false, ◌||◌, cond, List, [], ◌∷◌, ◌++◌, length, map, take, reverse, Ok, Err, IsOk, refl, sym, ap, ◌∙◌, subst, arith, Result}
use Rattle.std.specs.List.{AllByRecursion}
use Rattle.std.proofs.lemmas.List.{append-nil, map-append, reverse-append, reverse-reverse}
use Rattle.board_shapes.specs.Pieces.{PieceOf}
use Rattle.file_reading.specs.Reading.{Clean, Item, said}
use Rattle.gerber_words.specs.Words.{Ahead, Entry, Stop, ended, broken, HasWords, start}
use Rattle.gerber_words.specs.Items.{items_with, stop_item, word_item}
use Rattle.gerber_words.specs.Laws.{HasFirstWords, HasOneReadingAhead, IsCutShort, star_of}
use Rattle.gerber_words.specs.declared.fault.WordFault.TheVariants.{LineBreakInWord, NotEnded, PercentAmiss}
use Rattle.gerber_words.proofs.OneCut.{heads}
use Rattle.gerber_reading.specs.Command.{Command, breaks, ends}
use Rattle.gerber_reading.specs.CommandEffects.{Place, Known, Effect, Profile, stays, is_finish}
use Rattle.gerber_reading.specs.Settings.{has_ended, is_end}
use Rattle.gerber_reading.specs.Image.{effect_by, image_by, known_by, pieces_by, with_effect}
use Rattle.gerber_reading.specs.Dialect.{Dialect, IsReadBy, IsRefusedBy, stop_command}
use Rattle.gerber_reading.specs.Laws.{JudgesStops, PrefixesAreRefusedBy}

pub not_ok : {W : Type 0} (A : Type 0) (why : W) → IsOk {T = A} (Err why) → ⊥
not_ok A why ok = cc

-- ---- The words of a history

-- the commands of words, the last first
abbrev history : (Entry → Command) → List Entry → List (Item Command)
history read words = reverse (map (word_item read) words)

-- what is read of a file is its words and its stop
whole_is : (read : Entry → Command) (earlier : List (Item Command)) (words : List Entry) (stop : Item Command) → map (word_item read) words ++ stop ∷ [] ≡ reverse earlier ++ [] → earlier ≡ stop ∷ history read words
whole_is read earlier words stop h =
    sym (reverse-reverse earlier) ∙ ap reverse (sym (append-nil (reverse earlier)) ∙ sym h) ∙ reverse-append (map (word_item read) words) (stop ∷ [])

-- the words of a prefix, and those behind it
two_parts : (read : Entry → Command) (words front back : List Entry) → words ≡ front ++ back → said (history read words) ≡ said (history read back) ++ said (history read front)
two_parts read words front back split =
    ap (λ (ws : List Entry). said (history read ws)) split
    ∙ ap said (ap reverse (map-append (word_item read) front back) ∙ reverse-append (map (word_item read) front) (map (word_item read) back))
    ∙ map-append (λ (i : Item Command). i.says) (history read back) (history read front)

-- ---- The end of a history

ended_append : (later earlier : List Command) → has_ended (later ++ earlier) ≡ (has_ended later || has_ended earlier)
ended_append [] earlier = refl
ended_append (c ∷ later) earlier = by (is_end c) (ended_append later earlier)
  where
    by : (b : Bool) → has_ended (later ++ earlier) ≡ (has_ended later || has_ended earlier) → (b || has_ended (later ++ earlier)) ≡ ((b || has_ended later) || has_ended earlier)
    by true e = refl
    by false e = e

still_ended : (later earlier : List Command) → has_ended earlier ≡ true → has_ended (later ++ earlier) ≡ true
still_ended [] earlier h = h
still_ended (c ∷ later) earlier h = by (is_end c) (still_ended later earlier h)
  where
    by : (b : Bool) → has_ended (later ++ earlier) ≡ true → (b || has_ended (later ++ earlier)) ≡ true
    by true e = refl
    by false e = e

ended_cons : (read : Entry → Command) (w : Entry) (words : List Entry) → has_ended (said (history read (w ∷ words))) ≡ (has_ended (said (history read words)) || (is_end (read w) || false))
ended_cons read w words = ap has_ended (two_parts read (w ∷ words) (w ∷ []) words refl) ∙ ended_append (said (history read words)) (read w ∷ [])

end_is : (c : Command) → is_end c ≡ true → c ≡ ends
end_is ends h = refl
end_is other h = absurd (cc)

-- no end among the words
none_ends : (read : Entry → Command) (words : List Entry) → AllByRecursion (λ w. is_end (read w) ≡ false) words → has_ended (said (history read words)) ≡ false
none_ends read [] none = refl
none_ends read (w ∷ words) none = ended_cons read w words ∙ rw (none_ends read words none.1, none.0) refl

-- the first end among them
record FirstEnd (read : Entry → Command) (words : List Entry) : Type 0 where
  front : List Entry
  last : Entry
  back : List Entry
  split : words ≡ front ++ last ∷ back
  ends_file : read last ≡ ends
  first : AllByRecursion (λ w. is_end (read w) ≡ false) front

either : (a b : Bool) → (a || (b || false)) ≡ true → b ≡ false → a ≡ true
either true b h lacks = refl
either false b h lacks = absurd (let e : (b || false) ≡ false = rw lacks refl in cc)

first_end : (read : Entry → Command) (words : List Entry) → has_ended (said (history read words)) ≡ true → FirstEnd read words
first_end read [] h = absurd (cc)
first_end read (w ∷ words) h = by (is_end (read w)) refl (first_end read words)
  where
    by : (b : Bool) → is_end (read w) ≡ b → (has_ended (said (history read words)) ≡ true → FirstEnd read words) → FirstEnd read (w ∷ words)
    by true e more = record { front = []; last = w; back = words; split = refl; ends_file = end_is (read w) e; first = tt }
    by false e more =
        let r = more (either _ _ (sym (ended_cons read w words) ∙ h) e) in
        record { front = w ∷ r.front; last = r.last; back = r.back; split = ap (λ (ws : List Entry). w ∷ ws) r.split; ends_file = r.ends_file; first = (e, r.first) }

-- ---- The words that a prefix has

-- words whose stars stand before that of the end word come before it
none_in_front : (read : Entry → Command) (n : ℕ) (front back before after : List Entry) (last : Entry) → front ++ back ≡ before ++ last ∷ after → AllByRecursion (λ w. star_of w < n) front → n ≤ star_of last → AllByRecursion (λ w. is_end (read w) ≡ false) before → AllByRecursion (λ w. is_end (read w) ≡ false) front
none_in_front read n [] back before after last split held late none = tt
none_in_front read n (w ∷ front) back [] after last split held late none =
    let same : w ≡ last = (heads split).0 in
    absurd (let within : star_of last < n = subst (λ (e : Entry). star_of e < n) same held.0 in omega (arith, within, late))
none_in_front read n (w ∷ front) back (v ∷ before) after last split held late none =
    let h = heads split in
    let same : w ≡ v = h.0 in
    (subst (λ (e : Entry). is_end (read e) ≡ false) (sym same) none.0, none_in_front read n front back before after last h.1 held.1 late none.1)

-- ---- The stop

-- behind an end word only the proper end stands, and it makes nothing
stays_behind : {G E A W : Type 0} (f : Profile G E A W) (not_ended : W) (j : JudgesStops f not_ended) (k : (Known G E A)) (c : Command) → k.settings.ended ≡ true → IsOk (f.does k c) → f.does k c ≡ Ok stays
stays_behind {G = G} {E = E} {A = A} {W = W} f not_ended j k c h ok = j.behind k c h ∙ by (is_finish c) (subst IsOk (j.behind k c h) ok)
  where
    by : (b : Bool) → IsOk {T = Effect G E A} (cond b (Ok stays) (Err j.after_end)) → ◌≡◌ {A = Result (Effect G E A) W} (cond b (Ok stays) (Err j.after_end)) (Ok stays)
    by true fine = refl
    by false fine = absurd (not_ok (Effect G E A) j.after_end fine)

-- a stop without a fault is the proper end behind an end word
record EndsWell {G E A : Type 0} (k : (Known G E A)) (stop : Stop) : Type 0 where
  is : stop ≡ ended
  behind : k.settings.ended ≡ true

ends_well : {G E A W : Type 0} (f : Profile G E A W) (not_ended : W) (j : JudgesStops f not_ended) (k : (Known G E A)) (stop : Stop) → IsOk (f.does k (stop_command stop)) → EndsWell k stop
ends_well {G = G} {E = E} {A = A} {W = W} f not_ended j k ended ok = by k.settings.ended refl
  where
    by : (b : Bool) → k.settings.ended ≡ b → EndsWell k ended
    by true e = record { is = refl; behind = e }
    by false e = absurd (not_ok (Effect G E A) not_ended (subst IsOk (j.unended k e) ok))
ends_well {G = G} {E = E} {A = A} {W = W} f not_ended j k (broken fault at) ok = absurd (by k.settings.ended refl)
  where
    by : (b : Bool) → k.settings.ended ≡ b → ⊥
    by true e = not_ok (Effect G E A) j.after_end (subst IsOk (j.behind k (breaks fault) e) ok)
    by false e = not_ok (Effect G E A) (j.of_word fault) (subst IsOk (j.faulty k fault e) ok)

-- the stop of a file that is cut short, where no end word stands before it
stop_refused : {G E A W : Type 0} (f : Profile G E A W) (not_ended : W) (j : JudgesStops f not_ended) (k : (Known G E A)) (stop : Stop) → k.settings.ended ≡ false → IsCutShort stop → f.does k (stop_command stop) ≡ Err not_ended
stop_refused f not_ended j k ended going short = j.unended k going
stop_refused f not_ended j k (broken NotEnded at) going short = j.faulty k NotEnded going ∙ ap Err j.early
stop_refused f not_ended j k (broken LineBreakInWord at) going short = absurd short
stop_refused f not_ended j k (broken PercentAmiss at) going short = absurd short

-- ---- By a dialect

-- a file that is read: its words end well, and no command of them has a fault
record Read {G E A W : Type 0} (d : Dialect G E A W) (file : List ℕ) (p : Place) (pieces : List (PieceOf G)) : Type 0 where
  words : List Entry
  cut : HasWords (start file) words ended
  clean : Clean (effect_by d.table p) (said (history d.command words))
  behind : has_ended (said (history d.command words)) ≡ true
  are : pieces ≡ pieces_by d.table p (said (history d.command words))

module _ {G E A W : Type 0} (d : Dialect G E A W) (not_ended : W) (j : JudgesStops d.table not_ended) (p : Place) where
  abbrev IsClean : List Command → Type 0
  IsClean earlier = Clean (effect_by d.table p) earlier

  clean_behind : (later earlier : List Command) → IsClean (later ++ earlier) → IsClean earlier
  clean_behind [] earlier clean = clean
  clean_behind (c ∷ later) earlier clean = clean_behind later earlier clean.1

  -- what follows the end makes no pieces
  one_after_end : (c : Command) (earlier : List Command) → has_ended earlier ≡ true → IsOk (effect_by d.table p earlier c) → pieces_by d.table p (c ∷ earlier) ≡ pieces_by d.table p earlier
  unfolding image_by
  one_after_end c earlier h ok = ap (λ (r : Result (Effect G E A) W). (with_effect p (length earlier + 1) (image_by d.table p earlier) r).pieces) (stays_behind d.table not_ended j (known_by d.table p earlier) c h ok)

  after_end : (later earlier : List Command) → has_ended earlier ≡ true → IsClean (later ++ earlier) → pieces_by d.table p (later ++ earlier) ≡ pieces_by d.table p earlier
  after_end [] earlier h clean = refl
  after_end (c ∷ later) earlier h clean = one_after_end c (later ++ earlier) (still_ended later earlier h) clean.0 ∙ after_end later earlier h clean.1

  as_read : (file : List ℕ) (pieces : List (PieceOf G)) → IsReadBy d file p pieces → Read d file p pieces
  as_read file pieces r =
      let are = r.1 in
      let item = stop_item stop_command (length file) are.stop in
      let e : r.2.earlier ≡ item ∷ history d.command are.words = whole_is d.command r.2.earlier are.words item (sym are.are ∙ r.2.whole.split) in
      let clean : IsClean (said (item ∷ history d.command are.words)) = subst (λ (is : List (Item Command)). IsClean (said is)) e r.2.whole.clean in
      let well = ends_well d.table not_ended j (known_by d.table p (said (history d.command are.words))) are.stop clean.0 in
      let made : pieces ≡ pieces_by d.table p (stop_command are.stop ∷ said (history d.command are.words)) = r.2.is ∙ ap (λ (is : List (Item Command)). pieces_by d.table p (said is)) e in
      record {
        words = are.words;
        cut = subst (λ (stop : Stop). HasWords (start file) are.words stop) well.is are.cut;
        clean = clean.1;
        behind = well.behind;
        are = made ∙ one_after_end (stop_command are.stop) (said (history d.command are.words)) well.behind clean.0;
      }

  refused_prefix : (file : List ℕ) (front : List Entry) (stop : Stop) → HasWords (start file) front stop → IsCutShort stop → IsClean (said (history d.command front)) → has_ended (said (history d.command front)) ≡ false → (number : ℕ) × (place : ℕ) × IsRefusedBy d file p not_ended number place
  refused_prefix file front stop cut short clean going =
      let item = stop_item stop_command (length file) stop in (
        length (history d.command front) + 1,
        item.at,
        (
          items_with d.command stop_command (length file) front stop,
          record { words = front; stop = stop; cut = cut; are = refl },
          record {
            earlier = history d.command front;
            item = item;
            later = [];
            first = record { split = ap (λ (is : List (Item Command)). is ++ item ∷ []) (sym (reverse-reverse (map (word_item d.command) front))); clean = clean };
            is = stop_refused d.table not_ended j (known_by d.table p (said (history d.command front))) stop going short;
            counts = refl;
            at = refl;
          },
        ),
      )

  module _ (one : (a : Ahead) → HasOneReadingAhead a) (firsts : (file : List ℕ) (words : List Entry) (n : ℕ) → HasWords (start file) words ended → HasFirstWords file words n) where
    pub prefix_refused : (file : List ℕ) (pieces : List (PieceOf G)) → IsReadBy d file p pieces → PrefixesAreRefusedBy d not_ended file p
    prefix_refused file pieces read =
        let r = as_read file pieces read in
        let f = first_end d.command r.words r.behind in
        record {
          has_end = (
            star_of f.last,
            record {
              front = f.front;
              last = f.last;
              back = f.back;
              stop = ended;
              cut = subst (λ (ws : List Entry). HasWords (start file) ws ended) f.split r.cut;
              ends_file = f.ends_file;
              first = f.first;
              star_is = refl;
            },
          );
          refused = λ star n e below.
              let h = firsts file r.words n r.cut in
              let a = (one (start file)).only r.words ended r.cut in
              let b = (one (start file)).only (e.front ++ e.last ∷ e.back) e.stop e.cut in
              let same : h.front ++ h.back ≡ e.front ++ e.last ∷ e.back = sym h.split ∙ a.0 ∙ sym b.0 in
              let late : n ≤ star_of e.last = subst (λ (k : ℕ). n ≤ k) e.star_is below in
              let none = none_in_front d.command n h.front h.back e.front e.back e.last same h.held late e.first in
              let parts = two_parts d.command r.words h.front h.back h.split in
              let clean = clean_behind (said (history d.command h.back)) (said (history d.command h.front)) (subst IsClean parts r.clean) in
              refused_prefix (take n file) h.front h.stop h.is h.stops clean (none_ends d.command h.front none);
        }

    -- a prefix that is read
    pub prefix_same : (file : List ℕ) (pieces others : List (PieceOf G)) (n : ℕ) → IsReadBy d file p pieces → IsReadBy d (take n file) p others → others ≡ pieces
    prefix_same file pieces others n read part =
        let r = as_read file pieces read in
        let q = as_read (take n file) others part in
        let h = firsts file r.words n r.cut in
        let a = (one (start (take n file))).only q.words ended q.cut in
        let b = (one (start (take n file))).only h.front h.stop h.is in
        let same : q.words ≡ h.front = a.0 ∙ sym b.0 in
        let parts = two_parts d.command r.words h.front h.back h.split in
        let done : has_ended (said (history d.command h.front)) ≡ true = subst (λ (ws : List Entry). has_ended (said (history d.command ws)) ≡ true) same q.behind in
        let later = after_end (said (history d.command h.back)) (said (history d.command h.front)) done (subst IsClean parts r.clean) in
        q.are ∙ ap (λ (ws : List Entry). pieces_by d.table p (said (history d.command ws))) same ∙ sym later ∙ ap (pieces_by d.table p) (sym parts) ∙ sym r.are
