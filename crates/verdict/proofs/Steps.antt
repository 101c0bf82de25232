-- Steps of reading, and the fields of a report: what is read stood in front, and what stands in front is read.
use Rattle.std.proofs.Common.{◌≡◌, ℕ, zero, suc, ◌+◌, ◌-◌, ◌^◌, ◌<◌, ◌≤◌, Bool, true, false, not, ◌&&◌, ◌||◌, cond, eqb, ltb, List, [], ◌∷◌, ◌++◌, length, take, drop, get_or, Option, Some, None, Result, Ok, Err, refl, sym, ap, subst, ◌∙◌, append_assoc, arith, rules, inl, inr}
use Rattle.std.specs.Prelude.{decimal}
use Rattle.std.specs.Cmp.Lexicographic.{pointwise}
use Rattle.std.specs.List.{list_all, list_any, prefix_len, take_while, before_first, after_first, position_or_len, AllByRecursion}
use Rattle.std.specs.Result.{OkIff, result_ok}
use Rattle.std.specs.Str.Parse.{digits_value, ParsesUnsigned}
use Rattle.std.proofs.lemmas.Bool.{cases_lt, ltb-true, lt-ltb, le-ltb, eq-eqb, eqb-true}
use Rattle.std.proofs.lemmas.Fmt.{decimal_digit, decimal_nonempty, first_decimal, decimal-digits_value, digits_value-decimal, digits_decimal}
use Rattle.std.proofs.lemmas.List.{take_at, drop_at, take-append-drop, take-take, get_or-take, length-append, length-take, length-take-le}
use Rattle.std.proofs.lemmas.List.Elements.{recursion_from_All}
use Rattle.std.proofs.lemmas.List.Sums.{take_while-cons, split_at_first, passes_at_first}
use Rattle.std.proofs.lemmas.List.Folds.{list_any_at}
use Rattle.std.proofs.lemmas.Slice.Eq.{bytes_eq-Decides}
use Rattle.std.proofs.lemmas.Str.Parse.{IsNumeralModel, numerals_by_value, parse_digits}
use Rattle.std.specs.Char.{digit_value}
use Rattle.std.proofs.lemmas.Str.{digit_value_digit}
use Rattle.lengths.proofs.Digits.{digit_of}
use Rattle.texts.specs.Digits.{is_decimal_digit}
use Rattle.lengths.specs.Text.{IsPrintable, IsText, is_text}
use Rattle.lengths.proofs.Texts.{IsText-from_is_text, is_text-from_IsText}
use Rattle.verdict.specs.ReportReading.{◌>>=◌, behind, run_of, is_numeral, value_of, wide_at, number_at, word_at, layer_at, count_at, is_feed, text_at, starts, IsRun}
use Rattle.verdict.specs.ReportText.{word, end}

-- the value of a step that did not fail
pub bind_some : {A B : Type 0} (r : Option A) (f : A → Option B) (y : B) → (r >>= f) ≡ Some y → (x : A) × (r ≡ Some x) × (f x ≡ Some y)
bind_some (Some x) f y e = (x, refl, e)
bind_some None f y e = absurd cc

-- a step that does not fail
pub step : {A B : Type 0} (r : Option A) (f : A → Option B) (x : A) (y : Option B) → r ≡ Some x → f x ≡ y → (r >>= f) ≡ y
step r f x y e k = ap (λ (t : Option _). t >>= f) e ∙ k

-- a test that did not fail
pub guard_some : {A : Type 0} (b : Bool) (x : Option A) (y : A) → cond b x None ≡ Some y → (b ≡ true) × (x ≡ Some y)
guard_some true x y e = (refl, e)
guard_some false x y e = absurd cc

pub some_is : {A : Type 0} (x y : A) → Some x ≡ Some y → x ≡ y
some_is x y e = cc

pub and_both : (a b : Bool) → (a && b) ≡ true → (a ≡ true) × (b ≡ true)
and_both true b e = (refl, e)
and_both false b e = absurd cc

not_true : (b : Bool) → b ≡ true → not b ≡ true → ⊥
not_true true e h = absurd cc
not_true false e h = absurd cc

-- a text in front and what follows it
pub front_then : (bytes a m k : List ℕ) → bytes ≡ a ++ m → m ≡ k → bytes ≡ a ++ k
front_then bytes a m k p q = p ∙ ap (λ (t : List ℕ). a ++ t) q

-- ---- A fixed text

pub behind_takes : (front bytes rest : List ℕ) → behind front bytes ≡ Some rest → bytes ≡ front ++ rest
unfolding behind
behind_takes front bytes rest e =
    let g = guard_some (pointwise eqb (take (length front) bytes) front) (Some (drop (length front) bytes)) rest e in
    let same : take (length front) bytes ≡ front = (bytes_eq-Decides (take (length front) bytes) front).0 g.0 in
    let left : drop (length front) bytes ≡ rest = some_is _ _ g.1 in
    let whole : front ++ drop (length front) bytes ≡ bytes = subst (λ (t : List ℕ). t ++ drop (length front) bytes ≡ bytes) same (take-append-drop (length front) bytes) in
    sym (subst (λ (t : List ℕ). front ++ t ≡ bytes) left whole)

pub behind_again : (front rest : List ℕ) → behind front (front ++ rest) ≡ Some rest
unfolding behind
behind_again front rest =
    let same : pointwise eqb front front ≡ true = (bytes_eq-Decides front front).1 refl in
    rw (take_at front rest (length front) refl, drop_at front rest (length front) refl, same) refl

-- ---- Numbers

run_step : (p : ℕ → Bool) (x : ℕ) (xs : List ℕ) (b : Bool) → p x ≡ b → list_all p (take_while p xs) ≡ true → list_all p (cond b (x ∷ take_while p xs) []) ≡ true
run_step p x xs true e more = rw e more
run_step p x xs false e more = refl

run_passes : (p : ℕ → Bool) (xs : List ℕ) → list_all p (take_while p xs) ≡ true
run_passes p [] = refl
run_passes p (x ∷ xs) = rw (take_while-cons p x xs) (run_step p x xs (p x) refl (run_passes p xs))

run_len : (p : ℕ → Bool) (ds rest : List ℕ) → list_all p ds ≡ true → starts p rest ≡ false → prefix_len p (ds ++ rest) ≡ length ds
run_len p [] [] all none = refl
run_len p [] (b ∷ rest) all none = let e : p b ≡ false = none in rw e refl
run_len p (d ∷ ds) rest all none =
    let both = and_both (p d) (list_all p ds) all in
    let more : prefix_len p (ds ++ rest) ≡ length ds = run_len p ds rest both.1 none in
    rw (both.0, more) (omega arith)

pub own : IsNumeralModel (λ ds. list_all is_decimal_digit ds ≡ true) (digits_value 10)
own = numerals_by_value _ (search rules)

numeral_parts : (ds : List ℕ) → is_numeral ds ≡ true → (0 < length ds) × (get_or ds 0 0 ≡ 48 → length ds ≡ 1)
numeral_parts [] e = absurd cc
numeral_parts (c ∷ []) e = (omega arith, λ _. refl)
numeral_parts (c ∷ d ∷ rest) e = (omega arith, λ h. absurd (not_true (eqb c 48) (eq-eqb c 48 h) e))

pub numeral_from : (ds : List ℕ) → 0 < length ds → 48 < get_or ds 0 0 → is_numeral ds ≡ true
numeral_from [] some high = absurd (omega arith)
numeral_from (c ∷ []) some high = refl
numeral_from (c ∷ d ∷ rest) some high = by (eqb c 48) refl
  where
    by : (b : Bool) → eqb c 48 ≡ b → not b ≡ true
    by false e = refl
    by true e = let same : c ≡ 48 = eqb-true c 48 e in absurd (omega (arith, same, high))

numeral_decimal : (n : ℕ) → n < 2 ^ 64 → is_numeral (decimal n) ≡ true
numeral_decimal n small =
    elim (cases_lt 0 n) [
      | inl above ↦ numeral_from (decimal n) (decimal_nonempty n small) (first_decimal n above small)
      | inr none ↦ let e : n ≡ 0 = omega arith in rw e (ap is_numeral (decimal_digit 0 (omega arith)))
    ]

pub parsed : {E : Type 0} (ds : List ℕ) (r : Result ℕ E) → OkIff r ((0 < length ds) × (digits_value 10 ds < 2 ^ 64)) (digits_value 10 ds) → 0 < length ds → result_ok r ≡ value_of ds
unfolding value_of
parsed ds (Ok n) h some = let b : ltb (digits_value 10 ds) (2 ^ 64) ≡ true = lt-ltb _ _ h.0.1 in rw b (ap (λ (k : ℕ). Some k) h.1)
parsed ds (Err e) h some =
    elim (cases_lt (digits_value 10 ds) (2 ^ 64)) [
      | inl low ↦ absurd (h (some, low))
      | inr high ↦ let b : ltb (digits_value 10 ds) (2 ^ 64) ≡ false = le-ltb _ _ high in rw b refl
    ]

pub parsed_text : {E : Type 0} (ds bs : List ℕ) (r : Result ℕ E) → bs ≡ ds → list_all is_decimal_digit ds ≡ true → is_numeral ds ≡ true → ParsesUnsigned 64 10 bs r → result_ok r ≡ value_of ds
parsed_text ds bs r e digits some h = parsed ds r (parse_digits own 64 ds r (subst (λ (t : List ℕ). ParsesUnsigned 64 10 t r) e h) digits) (numeral_parts ds some).0

-- a run that ends within a front ends there in the whole
front_run : (p : ℕ → Bool) (k : ℕ) (xs : List ℕ) → prefix_len p (take k xs) < k → prefix_len p xs ≡ prefix_len p (take k xs)
front_run p zero xs low = absurd (omega (arith, low))
front_run p (suc k) [] low = refl
front_run p (suc k) (x ∷ xs) low = by (p x) refl (λ below. front_run p k xs below)
  where
    by : (b : Bool) → p x ≡ b → (prefix_len p (take k xs) < k → prefix_len p xs ≡ prefix_len p (take k xs)) → prefix_len p (x ∷ xs) ≡ prefix_len p (x ∷ take k xs)
    by false e more = rw e refl
    by true e more =
        let below : prefix_len p (take k xs) < k = let l = rw e at low in omega (arith, l) in
        let same : prefix_len p xs ≡ prefix_len p (take k xs) = more below in
        rw (e, same) refl

pub run_in_front : (bytes : List ℕ) (k len value : ℕ) → len < k → IsRun (take k bytes) len value → IsRun bytes len value
run_in_front bytes k len value low r =
    let e = r.long in
    let within = r.within in
    let same : take len (take k bytes) ≡ take len bytes = take-take len k bytes (omega (arith, low)) in
    record {
      long = e ∙ sym (front_run is_decimal_digit k bytes (omega (arith, e, low)));
      within = omega (arith, within, length-take k bytes);
      digits = ap (list_all is_decimal_digit) (sym same) ∙ r.digits;
      worth = λ few. r.worth few ∙ ap (digits_value 10) same;
      small = r.small;
    }

-- at most 18 digits in front are a number
pub wide_is : (bytes digits rest : List ℕ) (len value : ℕ) → len ≡ prefix_len is_decimal_digit bytes → digits ≡ take len bytes → rest ≡ drop len bytes → is_numeral digits ≡ true → value ≡ digits_value 10 (take len bytes) → value < 10 ^ 18 → wide_at bytes ≡ Some (value, rest)
unfolding wide_at value_of
wide_is bytes digits rest len value e front back some is small =
    let run : take len bytes ≡ run_of bytes = ap (λ (k : ℕ). take k bytes) e in
    let numeral : is_numeral (run_of bytes) ≡ true = ap is_numeral (sym (front ∙ run)) ∙ some in
    let worth : digits_value 10 (run_of bytes) ≡ value = sym (is ∙ ap (digits_value 10) run) in
    let left : drop (prefix_len is_decimal_digit bytes) bytes ≡ rest = sym (back ∙ ap (λ (k : ℕ). drop k bytes) e) in
    let below : ltb value (2 ^ 64) ≡ true = lt-ltb value (2 ^ 64) (omega (arith, small)) in
    rw (numeral, worth, below, left) refl

-- two digits or more in front, of which the first is no zero, are a number
pub wide_from_run : (bytes rest : List ℕ) (len value : ℕ) → IsRun bytes len value → 2 ≤ len → len ≤ 18 → 48 < get_or bytes 0 0 → rest ≡ drop len bytes → wide_at bytes ≡ Some (value, rest)
wide_from_run bytes rest len value run some few high back =
    let first : get_or (take len bytes) 0 0 ≡ get_or bytes 0 0 = get_or-take len bytes 0 0 (omega (arith, some)) in
    let long : length (take len bytes) ≡ len = length-take-le len bytes run.within in
    let numeral : is_numeral (take len bytes) ≡ true = numeral_from (take len bytes) (omega (arith, long, some)) (omega (arith, first, high)) in
    wide_is bytes (take len bytes) rest len value run.long refl back numeral (run.worth few) (run.small few)

pub wide_takes : (bytes : List ℕ) (n : ℕ) (rest : List ℕ) → wide_at bytes ≡ Some (n, rest) → (bytes ≡ decimal n ++ rest) × (n < 2 ^ 64)
unfolding wide_at value_of
wide_takes bytes n rest e =
    let run = run_of bytes in
    let g = guard_some (is_numeral run) _ (n, rest) e in
    let b = bind_some (value_of run) _ (n, rest) g.1 in
    let v = guard_some (ltb (digits_value 10 run) (2 ^ 64)) (Some (digits_value 10 run)) b.0 b.1 in
    let small : digits_value 10 run < 2 ^ 64 = ltb-true _ _ v.0 in
    let parts = numeral_parts run g.0 in
    let spelled : decimal (digits_value 10 run) ≡ run = decimal-digits_value own run (run_passes is_decimal_digit bytes) parts.0 parts.1 small in
    let value : digits_value 10 run ≡ b.0 = some_is _ _ v.1 in
    let pair : ◌≡◌ {A = ℕ × List ℕ} (b.0, drop (prefix_len is_decimal_digit bytes) bytes) (n, rest) = some_is _ _ b.2 in
    let number : digits_value 10 run ≡ n = value ∙ ap (λ (p : ℕ × List ℕ). p.0) pair in
    let left : drop (prefix_len is_decimal_digit bytes) bytes ≡ rest = ap (λ (p : ℕ × List ℕ). p.1) pair in
    let whole : run ++ drop (prefix_len is_decimal_digit bytes) bytes ≡ bytes = take-append-drop (prefix_len is_decimal_digit bytes) bytes in
    let spelled_n : run ≡ decimal n = sym spelled ∙ ap decimal number in
    (sym whole ∙ (ap (λ (t : List ℕ). t ++ drop (prefix_len is_decimal_digit bytes) bytes) spelled_n ∙ ap (λ (t : List ℕ). decimal n ++ t) left), omega (arith, small, number))

pub wide_again : (n : ℕ) (rest : List ℕ) → n < 2 ^ 64 → starts is_decimal_digit rest ≡ false → wide_at (decimal n ++ rest) ≡ Some (n, rest)
unfolding wide_at value_of
wide_again n rest small none =
    let len : prefix_len is_decimal_digit (decimal n ++ rest) ≡ length (decimal n) = run_len is_decimal_digit (decimal n) rest (digits_decimal own n small) none in
    let value : digits_value 10 (decimal n) ≡ n = digits_value-decimal own n small in
    let below : ltb n (2 ^ 64) ≡ true = lt-ltb n (2 ^ 64) small in
    rw (len, take_at (decimal n) rest (length (decimal n)) refl, drop_at (decimal n) rest (length (decimal n)) refl, numeral_decimal n small, value, below) refl

below_takes : (limit : ℕ) (x y : ℕ × List ℕ) → cond (ltb x.0 limit) (Some x) None ≡ Some y → (x ≡ y) × (y.0 < limit)
below_takes limit x y e =
    let g = guard_some (ltb x.0 limit) (Some x) y e in
    let same : x ≡ y = some_is x y g.1 in
    (same, subst (λ (p : ℕ × List ℕ). p.0 < limit) same (ltb-true _ _ g.0))

pub number_takes : (bytes : List ℕ) (n : ℕ) (rest : List ℕ) → number_at bytes ≡ Some (n, rest) → (bytes ≡ decimal n ++ rest) × (n < 2 ^ 32)
unfolding number_at
number_takes bytes n rest e =
    let b = bind_some (wide_at bytes) (λ x. cond (ltb x.0 (2 ^ 32)) (Some x) None) (n, rest) e in
    let s = below_takes (2 ^ 32) b.0 (n, rest) b.2 in
    ((wide_takes bytes n rest (b.1 ∙ ap (λ (p : ℕ × List ℕ). Some p) s.0)).0, s.1)

pub number_again : (n : ℕ) (rest : List ℕ) → n < 2 ^ 32 → starts is_decimal_digit rest ≡ false → number_at (decimal n ++ rest) ≡ Some (n, rest)
unfolding number_at
number_again n rest small none =
    let below : ltb n (2 ^ 32) ≡ true = lt-ltb n (2 ^ 32) small in
    let wide : n < 2 ^ 64 = omega arith in
    rw (wide_again n rest wide none, below) refl

pub word_takes : (bytes : List ℕ) (n : ℕ) (rest : List ℕ) → word_at bytes ≡ Some (n, rest) → (bytes ≡ word n ++ rest) × (n < 2 ^ 32)
unfolding word_at
word_takes bytes n rest e =
    let b = bind_some (behind (32 ∷ []) bytes) (λ r. number_at r) (n, rest) e in
    let t = number_takes b.0 n rest b.2 in
    (behind_takes (32 ∷ []) bytes b.0 b.1 ∙ ap (λ (r : List ℕ). 32 ∷ r) t.0, t.1)

pub word_again : (n : ℕ) (rest : List ℕ) → n < 2 ^ 32 → starts is_decimal_digit rest ≡ false → word_at (word n ++ rest) ≡ Some (n, rest)
unfolding word_at
word_again n rest small none = step (behind (32 ∷ []) (word n ++ rest)) (λ r. number_at r) (decimal n ++ rest) (Some (n, rest)) (behind_again (32 ∷ []) (decimal n ++ rest)) (number_again n rest small none)

-- one digit with no digit behind it
digit_reads : (bytes rest : List ℕ) (digit : ℕ) → bytes ≡ digit ∷ rest → is_decimal_digit digit ≡ true → starts is_decimal_digit rest ≡ false → (digit - 48 < 10) × (number_at bytes ≡ Some (digit - 48, rest))
digit_reads bytes rest digit e one none =
    let d = digit_of digit one in
    let n : ℕ = digit - 48 in
    let spelled : decimal n ≡ digit ∷ [] = decimal_digit n (omega (arith, d)) ∙ ap (λ (x : ℕ). x ∷ []) (omega (arith, d)) in
    let read : number_at (digit ∷ rest) ≡ Some (n, rest) = subst (λ (t : List ℕ). number_at (t ++ rest) ≡ Some (n, rest)) spelled (number_again n rest (omega (arith, d)) none) in
    (omega (arith, d), ap number_at e ∙ read)

-- a number behind a blank
pub word_reads : (bytes rest : List ℕ) (x : ℕ × List ℕ) → behind (32 ∷ []) bytes ≡ Some rest → number_at rest ≡ Some x → word_at bytes ≡ Some x
unfolding word_at
word_reads bytes rest x e read = step (behind (32 ∷ []) bytes) (λ r. number_at r) rest (Some x) e read

pub layer_short : (bytes rest : List ℕ) (n : ℕ) → n < 10 → word_at bytes ≡ Some (n, rest) → layer_at bytes ≡ Some (n, rest)
unfolding layer_at
layer_short bytes rest n small e =
    let below : ltb n (2 ^ 8) ≡ true = lt-ltb n (2 ^ 8) (omega (arith, small)) in
    step (word_at bytes) (λ x. cond (ltb x.0 (2 ^ 8)) (Some x) None) (n, rest) (Some (n, rest)) e (rw below refl)

pub layer_takes : (bytes : List ℕ) (n : ℕ) (rest : List ℕ) → layer_at bytes ≡ Some (n, rest) → (bytes ≡ word n ++ rest) × (n < 2 ^ 8)
unfolding layer_at
layer_takes bytes n rest e =
    let b = bind_some (word_at bytes) (λ x. cond (ltb x.0 (2 ^ 8)) (Some x) None) (n, rest) e in
    let s = below_takes (2 ^ 8) b.0 (n, rest) b.2 in
    ((word_takes bytes n rest (b.1 ∙ ap (λ (p : ℕ × List ℕ). Some p) s.0)).0, s.1)

pub layer_again : (n : ℕ) (rest : List ℕ) → n < 2 ^ 8 → starts is_decimal_digit rest ≡ false → layer_at (word n ++ rest) ≡ Some (n, rest)
unfolding layer_at
layer_again n rest small none =
    let below : ltb n (2 ^ 8) ≡ true = lt-ltb n (2 ^ 8) small in
    let fits : n < 2 ^ 32 = omega arith in
    step (word_at (word n ++ rest)) (λ x. cond (ltb x.0 (2 ^ 8)) (Some x) None) (n, rest) (Some (n, rest)) (word_again n rest fits none) (rw below refl)

pub count_takes : (bytes : List ℕ) (n : ℕ) (rest : List ℕ) → count_at bytes ≡ Some (n, rest) → bytes ≡ word n ++ (end ++ rest)
unfolding count_at
count_takes bytes n rest e =
    let a = bind_some (behind (32 ∷ []) bytes) _ (n, rest) e in
    let b = bind_some (wide_at a.0) _ (n, rest) a.2 in
    let c = bind_some (behind (10 ∷ []) b.0.1) _ (n, rest) b.2 in
    let pair : ◌≡◌ {A = ℕ × List ℕ} (b.0.0, c.0) (n, rest) = some_is _ _ c.2 in
    let t = wide_takes a.0 b.0.0 b.0.1 b.1 in
    let whole : bytes ≡ word b.0.0 ++ (end ++ c.0) = behind_takes (32 ∷ []) bytes a.0 a.1 ∙ ap (λ (r : List ℕ). 32 ∷ r) (front_then a.0 (decimal b.0.0) b.0.1 (end ++ c.0) t.0 (behind_takes (10 ∷ []) b.0.1 c.0 c.1)) in
    subst (λ (p : ℕ × List ℕ). bytes ≡ word p.0 ++ (end ++ p.1)) pair whole

pub count_again : (n : ℕ) (rest : List ℕ) → n < 2 ^ 64 → count_at (word n ++ (end ++ rest)) ≡ Some (n, rest)
unfolding count_at
count_again n rest small =
    step (behind (32 ∷ []) (word n ++ (end ++ rest))) _ (decimal n ++ (end ++ rest)) (Some (n, rest)) (behind_again (32 ∷ []) (decimal n ++ (end ++ rest)))
    (step (wide_at (decimal n ++ (end ++ rest))) _ (n, end ++ rest) (Some (n, rest)) (wide_again n (end ++ rest) small refl)
    (step (behind (10 ∷ []) (end ++ rest)) _ rest (Some (n, rest)) (behind_again (10 ∷ []) rest) refl))

-- ---- Names

-- where a feed stands, the bytes are cut there
placed_step : (p : ℕ → Bool) (x : ℕ) (xs : List ℕ) (b : Bool) → p x ≡ b → (b || list_any p xs) ≡ true → (list_any p xs ≡ true → position_or_len p xs < length xs) → position_or_len p (x ∷ xs) < length (x ∷ xs)
placed_step p x xs true e h more = rw e (omega arith)
placed_step p x xs false e h more =
    let below : position_or_len p xs < length xs = more h in
    rw e (omega (arith, below))

placed : (p : ℕ → Bool) (xs : List ℕ) → list_any p xs ≡ true → position_or_len p xs < length xs
placed p [] h = absurd cc
placed p (x ∷ xs) h = placed_step p x xs (p x) refl h (λ k. placed p xs k)

cut_at_feed : (bytes : List ℕ) → list_any is_feed bytes ≡ true → bytes ≡ before_first is_feed bytes ++ (end ++ after_first is_feed bytes)
cut_at_feed bytes h =
    let below = placed is_feed bytes h in
    let feed : get_or bytes (position_or_len is_feed bytes) 0 ≡ 10 = eqb-true _ _ (passes_at_first is_feed bytes 0 below) in
    subst (λ (b : ℕ). bytes ≡ before_first is_feed bytes ++ (b ∷ after_first is_feed bytes)) feed (split_at_first is_feed bytes 0 below)

pub text_takes : (bytes name rest : List ℕ) → text_at bytes ≡ Some (name, rest) → (bytes ≡ name ++ (end ++ rest)) × IsText name
unfolding text_at
text_takes bytes name rest e =
    let g = guard_some (list_any is_feed bytes && is_text (before_first is_feed bytes)) (Some (before_first is_feed bytes, after_first is_feed bytes)) (name, rest) e in
    let both = and_both (list_any is_feed bytes) (is_text (before_first is_feed bytes)) g.0 in
    subst (λ (p : List ℕ × List ℕ). (bytes ≡ p.0 ++ (end ++ p.1)) × IsText p.0) (some_is _ _ g.1) (cut_at_feed bytes both.0, IsText-from_is_text _ both.1)

no_feed : (bs : List ℕ) → AllByRecursion IsPrintable bs → list_all (λ b. not (is_feed b)) bs ≡ true
no_feed [] h = refl
no_feed (b ∷ bs) h =
    let none : eqb b 10 ≡ false = by (eqb b 10) refl in
    rw (none, no_feed bs h.1) refl
  where
    by : (t : Bool) → eqb b 10 ≡ t → t ≡ false
    by false e = refl
    by true e = let same : b ≡ 10 = eqb-true b 10 e in absurd (omega (arith, same, h.0.low))

any_feed : (bs rest : List ℕ) → list_any is_feed (bs ++ (10 ∷ rest)) ≡ true
any_feed [] rest = refl
any_feed (b ∷ bs) rest = by (eqb b 10) (any_feed bs rest)
  where
    by : (t : Bool) → list_any is_feed (bs ++ (10 ∷ rest)) ≡ true → (t || list_any is_feed (bs ++ (10 ∷ rest))) ≡ true
    by true k = refl
    by false k = k

-- what stands after the first feed, where there is none before it
pub after_feed : (bs rest : List ℕ) → list_all (λ b. not (is_feed b)) bs ≡ true → after_first is_feed (bs ++ (end ++ rest)) ≡ rest
after_feed bs rest all =
    let len : position_or_len is_feed (bs ++ (10 ∷ rest)) ≡ length bs = run_len (λ b. not (is_feed b)) bs (10 ∷ rest) all refl in
    let long : length (bs ++ end) ≡ length bs + 1 = length-append bs end in
    ap (λ (k : ℕ). drop (k + 1) (bs ++ (10 ∷ rest))) len ∙ (ap (λ (t : List ℕ). drop (length bs + 1) t) (sym (append_assoc bs end rest)) ∙ drop_at (bs ++ end) rest (length bs + 1) long)

pub text_again : (name rest : List ℕ) → IsText name → text_at (name ++ (end ++ rest)) ≡ Some (name, rest)
unfolding text_at
text_again name rest h =
    let all = recursion_from_All IsPrintable name h.printable in
    let len : position_or_len is_feed (name ++ (10 ∷ rest)) ≡ length name = run_len (λ b. not (is_feed b)) name (10 ∷ rest) (no_feed name all) refl in
    let before : before_first is_feed (name ++ (10 ∷ rest)) ≡ name = ap (λ (k : ℕ). take k (name ++ (10 ∷ rest))) len ∙ take_at name (10 ∷ rest) (length name) refl in
    let after : after_first is_feed (name ++ (10 ∷ rest)) ≡ rest = after_feed name rest (no_feed name all) in
    let any : list_any is_feed (name ++ (10 ∷ rest)) ≡ true = any_feed name rest in
    let lawful : is_text (before_first is_feed (name ++ (10 ∷ rest))) ≡ true = ap is_text before ∙ is_text-from_IsText name h in
    let test : (list_any is_feed (name ++ (10 ∷ rest)) && is_text (before_first is_feed (name ++ (10 ∷ rest)))) ≡ true = both_true _ _ any lawful in
    ap (λ (b : Bool). cond b (Some (before_first is_feed (name ++ (10 ∷ rest)), after_first is_feed (name ++ (10 ∷ rest)))) None) test ∙ ap (λ (p : List ℕ × List ℕ). Some p) (pair_is before after)
  where
    both_true : (a b : Bool) → a ≡ true → b ≡ true → (a && b) ≡ true
    both_true a b p q = rw (p, q) refl

    pair_is : {a b c d : List ℕ} → a ≡ c → b ≡ d → ◌≡◌ {A = List ℕ × List ℕ} (a, b) (c, d)
    pair_is p q = cc

pub text_read : (bytes name after : List ℕ) → list_any is_feed bytes ≡ true → name ≡ before_first is_feed bytes → IsText name → after ≡ after_first is_feed bytes → text_at bytes ≡ Some (name, after)
unfolding text_at
text_read bytes name after any e lawful f =
    let t : is_text (before_first is_feed bytes) ≡ true = ap is_text (sym e) ∙ is_text-from_IsText name lawful in
    rw (any, t, e, f) refl

pub text_refused : (bytes : List ℕ) → list_any is_feed bytes ≡ true → (IsText (before_first is_feed bytes) → ⊥) → text_at bytes ≡ None
unfolding text_at
text_refused bytes any h = by (is_text (before_first is_feed bytes)) refl
  where
    by : (t : Bool) → is_text (before_first is_feed bytes) ≡ t → text_at bytes ≡ None
    by true e = absurd (h (IsText-from_is_text _ e))
    by false e = rw (any, e) refl

-- ---- A digit by how far it stands above 0

false_where : (b : Bool) → (b ≡ true → ⊥) → b ≡ false
false_where true not = absurd (not refl)
false_where false not = refl

pub digit_above : (byte above : ℕ) → byte ≡ 48 + above → above < 10 → is_decimal_digit byte ≡ true
digit_above byte above is small = lt-ltb (digit_value byte) 10 (let e = digit_value_digit byte (omega (arith, is), omega (arith, is, small)) in omega (arith, e, is, small))

-- one digit by its value, with no digit behind it
pub value_reads : (bytes rest : List ℕ) (digit value : ℕ) → bytes ≡ digit ∷ rest → value < 10 → digit ≡ 48 + value → starts is_decimal_digit rest ≡ false → (value < 10) × (number_at bytes ≡ Some (value, rest))
value_reads bytes rest digit value e small is none =
    let read = digit_reads bytes rest digit e (digit_above digit value is small) none in
    (small, subst (λ (n : ℕ). number_at bytes ≡ Some (n, rest)) (omega (arith, is)) read.1)

pub no_digit_above : (byte above : ℕ) → (48 ≤ byte → byte ≡ 48 + above) → 10 ≤ above → is_decimal_digit byte ≡ false
no_digit_above byte above is large = false_where (is_decimal_digit byte) (λ one. let d = digit_of byte one in let e = is d.low in omega (arith, d.high, e, large))

-- ---- A name up to the first feed, by the place of the feed

any_at : (bytes : List ℕ) (at : ℕ) → at ≡ position_or_len is_feed bytes → at < length bytes → list_any is_feed bytes ≡ true
any_at bytes at is below = list_any_at is_feed bytes at 0 below (subst (λ (k : ℕ). is_feed (get_or bytes k 0) ≡ true) (sym is) (passes_at_first is_feed bytes 0 (omega (arith, is, below))))

pub text_cut : (bytes name : List ℕ) (at : ℕ) → at ≡ position_or_len is_feed bytes → at < length bytes → name ≡ take at bytes → IsText name → text_at bytes ≡ Some (name, drop (at + 1) bytes)
text_cut bytes name at is below e lawful = text_read bytes name (drop (at + 1) bytes) (any_at bytes at is below) (e ∙ ap (λ (k : ℕ). take k bytes) is) lawful (ap (λ (k : ℕ). drop (k + 1) bytes) is)

pub text_cut_refused : (bytes : List ℕ) (at : ℕ) → at ≡ position_or_len is_feed bytes → at < length bytes → (IsText (take at bytes) → ⊥) → text_at bytes ≡ None
text_cut_refused bytes at is below bad = text_refused bytes (any_at bytes at is below) (subst (λ (k : ℕ). IsText (take k bytes) → ⊥) is bad)

pub text_endless : (bytes : List ℕ) (at : ℕ) → at ≡ position_or_len is_feed bytes → length bytes ≤ at → text_at bytes ≡ None
unfolding text_at
text_endless bytes at is past =
    let none : list_any is_feed bytes ≡ false = false_where (list_any is_feed bytes) (λ one. let below = placed is_feed bytes one in omega (arith, below, is, past)) in
    rw none refl
