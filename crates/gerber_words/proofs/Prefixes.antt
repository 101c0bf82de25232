-- The words of a file's first bytes.
use Rattle.std.proofs.Common.{◌≡◌, ◌⊎◌, inl, inr, ℕ, ◌+◌, ◌-◌, ◌<◌, ◌≤◌, suc, zero, Bool, true, false, not, cond, eqb, ◌||◌, List, [], ◌∷◌, ◌++◌, length, take, Option, Some, None, refl, sym, ap, ◌∙◌, subst, arith, length-append}
use Rattle.std.proofs.Math.Seq.{take-append-add}
use Rattle.std.specs.Prelude.{option_map}
use Rattle.std.specs.List.{list_all, AllByRecursion}
use Rattle.std.proofs.lemmas.Grind.{common_steps}
use Rattle.gerber_words.specs.Words.{Part, blank, percent, word, is_blank, is_plain, begins, break_in, Stop, ended, broken, stop_at, end_stop, after, IsCut, Entry, HasWords, entries, in_body, is_open, is_opened, start, turned, with_word}
use Rattle.gerber_words.specs.Laws.{HasFirstWords, IsCutShort, star_of}
use Rattle.gerber_words.specs.declared.pair.Pair.{Pair}
use Rattle.gerber_words.specs.declared.pair.Pair.TheVariants.{Outside, Opened, Filled, Macro}
use Rattle.gerber_words.specs.declared.fault.WordFault.{WordFault}
use Rattle.gerber_words.specs.declared.fault.WordFault.TheVariants.{LineBreakInWord, NotEnded, PercentAmiss}
use Rattle.gerber_words.proofs.Cuts.{before, cut-first, words-blank, words-nil, words-percent, words-word, wordy}
use Rattle.gerber_words.proofs.OneCut.{both}
use Rattle.gerber_words.proofs.Slices.{led, turned_is, moved}

-- the words of the first n bytes of what lies ahead
record First (pair : Pair) (at n : ℕ) (bytes : List ℕ) (words : List Entry) : Type 0 where
  front : List Entry
  back : List Entry
  stop : Stop
  split : words ≡ front ++ back
  is : HasWords (before pair at (take n bytes)) front stop
  stops : IsCutShort stop
  held : AllByRecursion (λ w. star_of w < at + n) front
  cut_off : AllByRecursion (λ w. at + n ≤ star_of w) back

none_held : (pair : Pair) (at n : ℕ) (bytes : List ℕ) (words : List Entry) (stop : Stop) → stop_at pair at (take n bytes) ≡ Some stop → IsCutShort stop → AllByRecursion (λ w. at + n ≤ star_of w) words → First pair at n bytes words
none_held pair at n bytes words stop h s late = record {
  front = [];
  back = words;
  stop = stop;
  split = refl;
  is = words-nil pair at (take n bytes) stop h;
  stops = s;
  held = tt;
  cut_off = late;
}

short : (pair : Pair) (at : ℕ) → IsCutShort (end_stop pair at)
short Outside at = tt
short Opened at = tt
short Filled at = tt
short Macro at = tt

-- words behind a place have their stars behind it
all_late : (m : ℕ) (pair : Pair) (at : ℕ) (parts : List Part) → m ≤ at → AllByRecursion (λ w. m ≤ star_of w) (entries pair at parts)
all_late m pair at [] h = tt
all_late m pair at (blank b ∷ parts) h = all_late m pair (at + 1) parts (omega arith)
all_late m pair at (percent ∷ parts) h = all_late m (turned pair) (at + 1) parts (omega arith)
all_late m pair at (word text ∷ parts) h = (omega arith, all_late m (with_word pair text) (at + length text + 1) parts (omega arith))

-- what ends in a word is not ended
plain_on : (b : ℕ) (bytes : List ℕ) → is_plain b ≡ true → break_in bytes ≡ Some NotEnded → break_in (b ∷ bytes) ≡ Some NotEnded
plain_on b bytes p h = by (eqb b 42) (eqb b 37) (eqb b 10 || eqb b 13) p
  where
    by : (s q l : Bool) → not (s || (q || l)) ≡ true → cond s None (cond q (Some PercentAmiss) (cond l (Some LineBreakInWord) (break_in bytes))) ≡ Some NotEnded
    by true q l e = cc
    by false true l e = cc
    by false false true e = cc
    by false false false e = h

not_ended : (n : ℕ) (text : List ℕ) → list_all is_plain text ≡ true → break_in (take n text) ≡ Some NotEnded
not_ended zero text p = refl
not_ended (suc n) [] p = refl
not_ended (suc n) (b ∷ text) p =
    let q = both (is_plain b) (list_all is_plain text) p in
    plain_on b (take n text) q.0 (not_ended n text q.1)

stops_in : (pair : Pair) (at b : ℕ) (bytes : List ℕ) → is_plain b ≡ true → not (is_blank b) ≡ true → break_in (b ∷ bytes) ≡ Some NotEnded → stop_at pair at (b ∷ bytes) ≡ Some (broken NotEnded at)
stops_in pair at b bytes p q h = by (eqb b 37) (is_blank b) (break_in (b ∷ bytes)) p q h
  where
    by : (s l : Bool) (o : Option WordFault) → not (eqb b 42 || (s || (eqb b 10 || eqb b 13))) ≡ true → not l ≡ true → o ≡ Some NotEnded → cond s (cond (is_opened pair) (Some (broken PercentAmiss at)) None) (cond l None (option_map (λ fault. broken fault at) o)) ≡ Some (broken NotEnded at)
    by true l o e f g = absurd (cut_off (eqb b 42) e)
      where
        cut_off : (s : Bool) → not (s || (true || (eqb b 10 || eqb b 13))) ≡ true → ⊥
        cut_off true e = cc
        cut_off false e = cc
    by false true o e f g = cc
    by false false o e f g = rw g refl

cut_in_word : (pair : Pair) (at n : ℕ) (text : List ℕ) → begins text ≡ true → list_all is_plain text ≡ true → 1 ≤ n → 1 ≤ length text → stop_at pair at (take n text) ≡ Some (broken NotEnded at)
cut_in_word pair at zero text b p some any = absurd (omega arith)
cut_in_word pair at (suc n) [] b p some any = absurd (omega arith)
cut_in_word pair at (suc n) (c ∷ text) b p some any = stops_in pair at c (take n text) (both (is_plain c) (list_all is_plain text) p).0 b (not_ended (suc n) (c ∷ text) p)

-- the proper end has no bytes behind it
nothing_behind : (pair : Pair) (at : ℕ) (bytes : List ℕ) → stop_at pair at bytes ≡ Some ended → bytes ≡ []
nothing_behind pair at [] h = refl
nothing_behind pair at (b ∷ bytes) h = absurd (by (eqb b 37) (is_opened pair) (is_blank b) (break_in (b ∷ bytes)) h)
  where
    by : (s o l : Bool) (f : Option WordFault) → cond s (cond o (Some (broken PercentAmiss at)) None) (cond l None (option_map (λ fault. broken fault at) f)) ≡ Some ended → ⊥
    by true true l f e = cc
    by true false l f e = cc
    by false o true f e = cc
    by false o false None e = cc
    by false o false (Some fault) e = cc

-- one part more in front, which is no word
further : (pair next : Pair) (at to m n : ℕ) (bytes whole : List ℕ) (words : List Entry) → to + m ≡ at + n → ((ws : List Entry) (stop : Stop) → HasWords (before next to (take m bytes)) ws stop → HasWords (before pair at (take n whole)) ws stop) → First next to m bytes words → First pair at n whole words
further pair next at to m n bytes whole words sum has r = record {
  front = r.front;
  back = r.back;
  stop = r.stop;
  split = r.split;
  is = has r.front r.stop r.is;
  stops = r.stops;
  held = subst (λ (k : ℕ). AllByRecursion (λ w. star_of w < k) r.front) sum r.held;
  cut_off = subst (λ (k : ℕ). AllByRecursion (λ w. k ≤ star_of w) r.back) sum r.cut_off;
}

-- one word more in front
with_one : (pair next : Pair) (at to m n : ℕ) (bytes whole : List ℕ) (words : List Entry) (v : Entry) → to + m ≡ at + n → star_of v < at + n → ((ws : List Entry) (stop : Stop) → HasWords (before next to (take m bytes)) ws stop → HasWords (before pair at (take n whole)) (v ∷ ws) stop) → First next to m bytes words → First pair at n whole (v ∷ words)
with_one pair next at to m n bytes whole words v sum star has r = record {
  front = v ∷ r.front;
  back = r.back;
  stop = r.stop;
  split = ap (λ (ws : List Entry). v ∷ ws) r.split;
  is = has r.front r.stop r.is;
  stops = r.stops;
  held = (star, subst (λ (k : ℕ). AllByRecursion (λ w. star_of w < k) r.front) sum r.held);
  cut_off = subst (λ (k : ℕ). AllByRecursion (λ w. k ≤ star_of w) r.back) sum r.cut_off;
}

not_opened : (pair next : Pair) → after pair percent ≡ Some next → is_opened pair ≡ false
not_opened Outside next h = refl
not_opened Opened next h = cc
not_opened Filled next h = refl
not_opened Macro next h = refl

order : (m n : ℕ) → (m ≤ n) ⊎ (n < m)
order zero n = inl (omega arith)
order (suc m) zero = inr (omega arith)
order (suc m) (suc n) = elim (order m n) [
  | inl h ↦ inl (omega arith)
  | inr h ↦ inr (omega arith)
]

-- the place behind a word
past_text : (n : ℕ) (text behind : List ℕ) → length text + 1 ≤ n → take n ((text ++ 42 ∷ []) ++ behind) ≡ (text ++ 42 ∷ []) ++ take (n - (length text + 1)) behind
past_text n text behind h =
    let size : length (text ++ 42 ∷ []) + (n - (length text + 1)) ≡ n = omega (arith, length-append text (42 ∷ [])) in
    subst (λ (m : ℕ). take m ((text ++ 42 ∷ []) ++ behind) ≡ (text ++ 42 ∷ []) ++ take (n - (length text + 1)) behind) size (take-append-add (text ++ 42 ∷ []) behind (n - (length text + 1)))

in_text : (n : ℕ) (text behind : List ℕ) → n ≤ length text → take n ((text ++ 42 ∷ []) ++ behind) ≡ take n text
in_text n text behind h = grind (arith, common_steps, length-append)

first_words : (pair : Pair) (at n : ℕ) (bytes : List ℕ) (parts : List Part) → IsCut (before pair at bytes) parts ended → First pair at n bytes (entries pair at parts)
first_words pair at zero bytes parts c = none_held pair at zero bytes _ (end_stop pair at) refl (short pair at) (all_late (at + 0) pair at parts (omega arith))
first_words pair at (suc n) bytes [] c =
    let e : bytes ≡ [] = c.whole ∙ nothing_behind c.last _ c.rest c.stops in
    subst (λ xs. First pair at (suc n) xs []) (sym e) (none_held pair at (suc n) [] [] (end_stop pair at) refl (short pair at) tt)
first_words pair at (suc n) bytes (blank b ∷ parts) c =
    let f = cut-first pair at bytes (blank b) parts ended c in
    let cut = moved pair f.next (at + 1) (at + 1) f.behind parts ended (led pair (blank b) pair f.next refl f.leads) refl f.cut in
    let r = first_words pair (at + 1) n f.behind parts cut in
    subst (λ xs. First pair at (suc n) xs (entries pair (at + 1) parts)) (sym f.split) (further pair pair at (at + 1) n (suc n) f.behind (b ∷ f.behind) _ (omega arith) (λ ws stop h. words-blank pair at b (take n f.behind) ws stop f.is h) r)
first_words pair at (suc n) bytes (percent ∷ parts) c =
    let f = cut-first pair at bytes percent parts ended c in
    let cut = moved (turned pair) f.next (at + 1) (at + 1) f.behind parts ended (turned_is pair f.next f.leads) refl f.cut in
    let r = first_words (turned pair) (at + 1) n f.behind parts cut in
    subst (λ xs. First pair at (suc n) xs (entries (turned pair) (at + 1) parts)) (sym f.split) (further pair (turned pair) at (at + 1) n (suc n) f.behind (37 ∷ f.behind) _ (omega arith) (λ ws stop h. words-percent pair at 37 (take n f.behind) ws stop refl (not_opened pair f.next f.leads) h) r)
first_words pair at (suc n) bytes (word text ∷ parts) c = elim (order (length text + 1) (suc n)) [
  | inl past ↦ (
      let f = cut-first pair at bytes (word text) parts ended c in
      let size : at + length (text ++ 42 ∷ []) ≡ at + length text + 1 = omega (arith, length-append text (42 ∷ [])) in
      let cut = moved (with_word pair text) f.next (at + length (text ++ 42 ∷ [])) (at + length text + 1) f.behind parts ended (led pair (word text) (with_word pair text) f.next (wordy pair text) f.leads) size f.cut in
      let m : ℕ = suc n - (length text + 1) in
      let r = first_words (with_word pair text) (at + length text + 1) m f.behind parts cut in
      subst (λ xs. First pair at (suc n) xs (entries pair at (word text ∷ parts))) (sym f.split) (with_one pair (with_word pair text) at (at + length text + 1) m (suc n) f.behind ((text ++ 42 ∷ []) ++ f.behind) _ (record { at = at; text = text; extended = is_open pair; body = in_body pair }) (omega arith) (omega arith) (λ ws stop h. subst (λ xs. HasWords (before pair at xs) (record { at = at; text = text; extended = is_open pair; body = in_body pair } ∷ ws) stop) (sym (past_text (suc n) text f.behind past)) (words-word pair at text (take m f.behind) ws stop f.is.0 f.is.1 h)) r)
      )
  | inr within ↦ (
      let f = cut-first pair at bytes (word text) parts ended c in
      let stop = cut_in_word pair at (suc n) text f.is.0 f.is.1 (omega arith) (omega arith) in
      subst (λ xs. First pair at (suc n) xs (entries pair at (word text ∷ parts))) (sym f.split) (none_held pair at (suc n) ((text ++ 42 ∷ []) ++ f.behind) _ (broken NotEnded at) (rw (in_text (suc n) text f.behind (omega arith)) stop) tt (omega arith, all_late (at + suc n) (with_word pair text) (at + length text + 1) parts (omega arith)))
      )
]

pub prefix_has_first_words : (file : List ℕ) (words : List Entry) (n : ℕ) → HasWords (start file) words ended → HasFirstWords file words n
prefix_has_first_words file words n h =
    let r = first_words Outside 0 n file h.parts h.cut in
    let e : 0 + n ≡ n = omega arith in
    record {
      front = r.front;
      back = r.back;
      stop = r.stop;
      split = h.are ∙ r.split;
      is = r.is;
      stops = r.stops;
      held = subst (λ (k : ℕ). AllByRecursion (λ w. star_of w < k) r.front) e r.held;
      cut_off = subst (λ (k : ℕ). AllByRecursion (λ w. k ≤ star_of w) r.back) e r.cut_off;
    }
