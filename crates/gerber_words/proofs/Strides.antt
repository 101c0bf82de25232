-- Bytes over the star are plain.
use Rattle.std.proofs.Common.{◌≡◌, ◌⊎◌, inl, inr, ℕ, zero, suc, ◌+◌, ◌-◌, ◌<◌, ◌≤◌, Bool, true, false, not, cond, nat_le, nat_lt, eqb, List, [], ◌∷◌, length, get_or, take, drop, Some, slice_get, refl, sym, ap, ◌∙◌, subst, add-one, drop-cons, length-drop, arith, rules}
use lib.ListN.{length-take}
use lib.Seq.{get_or-drop, take_all}
use Rattle.std.specs.List.{list_all, prefix_len}
use Rattle.std.proofs.Math.Seq.{take-add}
use Rattle.std.proofs.lemmas.Bool.{eqb-true, lt-ltb, leb-false}
use Rattle.std.proofs.lemmas.Grind.{common_steps}
use Rattle.std.proofs.lemmas.List.{drop_all}
use Rattle.std.proofs.lemmas.List.Folds.{list_all-append}
use Rattle.std.proofs.lemmas.Option.{slice_get-get_or}
use Rattle.gerber_words.specs.Words.{break_in, is_plain}
use Rattle.gerber_words.specs.declared.fault.WordFault.TheVariants.{LineBreakInWord, NotEnded, PercentAmiss}
use Rattle.gerber_words.proofs.OneCut.{both}

apart : (b n : ℕ) → n < b → eqb b n ≡ false
apart b n over = by (eqb b n) refl
  where
    by : (t : Bool) → eqb b n ≡ t → eqb b n ≡ false
    by true e = let same = eqb-true b n e in absurd (omega (arith, same))
    by false e = e

over : (b : ℕ) → nat_lt 42 b ≡ true → 42 < b
over b h = search (rules, h)

-- such a byte is none of the four that end or break a word
over_is_plain : (b : ℕ) → nat_lt 42 b ≡ true → is_plain b ≡ true
over_is_plain b h =
    let k = over b h in
    rw (apart b 42 k, apart b 37 (omega arith), apart b 10 (omega arith), apart b 13 (omega arith)) refl

goes_on : (b : ℕ) (bytes : List ℕ) → nat_lt 42 b ≡ true → break_in (b ∷ bytes) ≡ break_in bytes
goes_on b bytes h =
    let k = over b h in
    rw (apart b 42 k, apart b 37 (omega arith), apart b 10 (omega arith), apart b 13 (omega arith)) refl

all_plain : (n : ℕ) (bytes : List ℕ) → list_all (nat_lt 42) (take n bytes) ≡ true → list_all is_plain (take n bytes) ≡ true
all_plain zero bytes h = refl
all_plain (suc n) [] h = refl
all_plain (suc n) (b ∷ bytes) h =
    let q = both (nat_lt 42 b) (list_all (nat_lt 42) (take n bytes)) h in
    rw (over_is_plain b q.0, all_plain n bytes q.1) refl

goes_past : (n : ℕ) (bytes : List ℕ) → list_all (nat_lt 42) (take n bytes) ≡ true → break_in (drop n bytes) ≡ break_in bytes
goes_past zero bytes h = refl
goes_past (suc n) [] h = refl
goes_past (suc n) (b ∷ bytes) h =
    let q = both (nat_lt 42 b) (list_all (nat_lt 42) (take n bytes)) h in
    goes_past n bytes q.1 ∙ sym (goes_on b bytes q.0)

-- so are the bytes before the first that is not over the star
is_over : (b : ℕ) → nat_le b 42 ≡ false → nat_lt 42 b ≡ true
is_over b e = lt-ltb 42 b (leb-false b 42 e)

one_and : (n : ℕ) → 1 + n ≡ suc n
one_and n = omega arith

over_front : (xs : List ℕ) → list_all (nat_lt 42) (take (prefix_len (λ b. not (nat_le b 42)) xs) xs) ≡ true
over_front [] = refl
over_front (b ∷ xs) = by (nat_le b 42) refl (over_front xs)
  where
    by : (t : Bool) → nat_le b 42 ≡ t → list_all (nat_lt 42) (take (prefix_len (λ b. not (nat_le b 42)) xs) xs) ≡ true → list_all (nat_lt 42) (take (cond (not t) (1 + prefix_len (λ b. not (nat_le b 42)) xs) 0) (b ∷ xs)) ≡ true
    by true e more = refl
    by false e more = rw (one_and (prefix_len (λ b. not (nat_le b 42)) xs), is_over b e) more

shorter : (n m : ℕ) (xs : List ℕ) → n ≤ m → take n (take m xs) ≡ take n xs
shorter zero m xs le = refl
shorter (suc n) zero xs le = absurd (omega arith)
shorter (suc n) (suc m) [] le = refl
shorter (suc n) (suc m) (x ∷ xs) le = ap (λ (ys : List ℕ). x ∷ ys) (shorter n m xs (omega arith))

pub over_from : (bytes front : List ℕ) (len n : ℕ) → front ≡ take 16 (drop len bytes) → n ≡ prefix_len (λ b. not (nat_le b 42)) front → n ≤ 16 → list_all (nat_lt 42) (take n (drop len bytes)) ≡ true
over_from bytes front len n is value few =
    let first : list_all (nat_lt 42) (take n front) ≡ true = rw value (over_front front) in
    sym (ap (list_all (nat_lt 42)) (shorter n 16 (drop len bytes) few)) ∙ subst (λ (xs : List ℕ). list_all (nat_lt 42) (take n xs) ≡ true) is first

pub drop-further : (xs : List ℕ) (m n : ℕ) → drop (m + n) xs ≡ drop n (drop m xs)
drop-further xs m n = grind (arith, common_steps)

-- n bytes more are plain
pub plain_further : (n len : ℕ) (bytes : List ℕ) → list_all (nat_lt 42) (take n (drop len bytes)) ≡ true → list_all is_plain (take len bytes) ≡ true → list_all is_plain (take (len + n) bytes) ≡ true
plain_further n len bytes h before =
    ap (list_all is_plain) (take-add len n bytes)
    ∙ list_all-append is_plain (take len bytes) (take n (drop len bytes))
    ∙ rw (before, all_plain n (drop len bytes) h) refl

-- and no break stands among them
pub same_further : (n len : ℕ) (bytes : List ℕ) → list_all (nat_lt 42) (take n (drop len bytes)) ≡ true → break_in (drop len bytes) ≡ break_in bytes → break_in (drop (len + n) bytes) ≡ break_in bytes
same_further n len bytes h before = ap break_in (drop-further bytes len n) ∙ goes_past n (drop len bytes) h ∙ before

-- the byte i of those behind a start
pub record Reads (bytes : List ℕ) (n b : ℕ) : Type 0 where
  pub within : n < length bytes
  pub here : get_or bytes n 0 ≡ b

pub reads : (bytes : List ℕ) (start i b : ℕ) → start ≤ length bytes → i < length (take (length bytes - start) (drop start bytes)) → get_or (take (length bytes - start) (drop start bytes)) i 0 ≡ b → Reads bytes (start + i) b
reads bytes start i b low below is =
    let whole : take (length bytes - start) (drop start bytes) ≡ drop start bytes = take_all (length bytes - start) (drop start bytes) (omega (arith, length-drop start bytes)) in
    record {
      within = omega (arith, ap length whole, length-drop start bytes);
      here = sym (get_or-drop start bytes i 0) ∙ ap (λ (xs : List ℕ). get_or xs i 0) (sym whole) ∙ is;
    }

pub read_at : (bytes : List ℕ) (n b : ℕ) → Reads bytes n b → slice_get bytes n ≡ Some b
read_at bytes n b r = slice_get-get_or bytes n 0 r.within ∙ ap Some r.here

break_at : (bytes : List ℕ) (n b : ℕ) → break_in (drop n bytes) ≡ break_in bytes → Reads bytes n b → break_in bytes ≡ break_in (b ∷ drop (n + 1) bytes)
break_at bytes n b same r =
    let within = r.within in
    let read = r.here in
    sym same ∙ rw (add-one, drop-cons bytes n 0, read) refl

-- which break it is
pub breaks_at_percent : (bytes : List ℕ) (n : ℕ) → break_in (drop n bytes) ≡ break_in bytes → Reads bytes n 37 → break_in bytes ≡ Some PercentAmiss
breaks_at_percent bytes n same r = break_at bytes n 37 same r

breaks_at_10 : (bytes : List ℕ) (n : ℕ) → break_in (drop n bytes) ≡ break_in bytes → Reads bytes n 10 → break_in bytes ≡ Some LineBreakInWord
breaks_at_10 bytes n same r = break_at bytes n 10 same r

breaks_at_13 : (bytes : List ℕ) (n : ℕ) → break_in (drop n bytes) ≡ break_in bytes → Reads bytes n 13 → break_in bytes ≡ Some LineBreakInWord
breaks_at_13 bytes n same r = break_at bytes n 13 same r

pub breaks_at_line : (bytes : List ℕ) (start i b : ℕ) → break_in (drop (start + i) bytes) ≡ break_in bytes → start ≤ length bytes → i < length (take (length bytes - start) (drop start bytes)) → b ≡ get_or (take (length bytes - start) (drop start bytes)) i 0 → (b ≡ 10) ⊎ (b ≡ 13) → break_in bytes ≡ Some LineBreakInWord
breaks_at_line bytes start i b same low below is (inl e) = breaks_at_10 bytes (start + i) same (reads bytes start i 10 low below (sym is ∙ e))
breaks_at_line bytes start i b same low below is (inr e) = breaks_at_13 bytes (start + i) same (reads bytes start i 13 low below (sym is ∙ e))

pub no_star : (bytes : List ℕ) (start i : ℕ) → break_in (drop (start + i) bytes) ≡ break_in bytes → start ≤ length bytes → length (take (length bytes - start) (drop start bytes)) ≤ i → break_in bytes ≡ Some NotEnded
no_star bytes start i same low past =
    sym same ∙ ap break_in (drop_all (start + i) bytes (omega (arith, length-take (length bytes - start) (drop start bytes), length-drop start bytes)))
