-- A number that is written with its point put in is read as it.
use Rattle.std.proofs.Common.{◌≡◌, ℕ, zero, suc, ◌+◌, ◌-◌, ◌*◌, ◌/◌, ◌%◌, ◌^◌, ◌<◌, ◌≤◌, Bool, true, false, not, ◌&&◌, ◌||◌, cond, List, [], ◌∷◌, ◌++◌, length, take, drop, set, append_assoc, Some, None, refl, sym, ap, ◌∙◌, arith, length-append, pow-add}
use Rattle.std.proofs.Math.Seq.{drop-append-add, take-append_seam}
use Rattle.std.proofs.Math.Nat.{div-div-eq-div-mul, div-eq_of_lt}
use Rattle.std.proofs.lemmas.List.{drop-set}
use Rattle.std.proofs.lemmas.List.Folds.{list_all-append}
use Rattle.std.specs.Char.{is_digit}
use Rattle.std.specs.List.{list_all, list_any, prefix_len}
use Rattle.std.specs.Str.Parse.{digits_value, digits_value_after}
use Rattle.lengths.specs.Decimal.{Fraction, decimal, fraction, front, back, has_minus, is_decimal, is_number, is_point, unsigned}
use Rattle.lengths.proofs.Digits.{decimal_from, digits_value_after-append, is_number-true, number_parts}
use Rattle.texts.specs.Digits.{is_decimal_digit}
use Rattle.texts.specs.LastDigits.{last_digits}
use Rattle.texts.proofs.LastDigits.{last_are_digits, last_value, length-last_digits}
use Rattle.texts.proofs.DigitBytes.{digit_is_not}
use Rattle.drill_forms.specs.Numbers.{pointed_text, sign, with_places}

-- ---- A number that is read

-- what a decimal is
pub record IsDecimalOf (text : List ℕ) (d : Fraction) : Type 0 where
  pub is : is_number (front (unsigned text) ++ back (unsigned text)) ≡ true
  pub value : fraction text ≡ d

pub decimal_is : (text : List ℕ) (d : Fraction) → decimal text ≡ Some d → IsDecimalOf text d
decimal_is text d h = by (is_decimal text) refl h
  where
    by : (b : Bool) → is_decimal text ≡ b → cond b (Some (fraction text)) None ≡ Some d → IsDecimalOf text d
    by true e k = record { is = e; value = cc }
    by false e k = cc

-- both parts of digits are digits
pub record AreDigits (xs ys : List ℕ) : Type 0 where
  pub front : list_all (λ c. is_digit c 10) xs ≡ true
  pub back : list_all (λ c. is_digit c 10) ys ≡ true
  pub few : length xs + length ys ≤ 18

both : (a b : Bool) → (a && b) ≡ true → (a ≡ true) × (b ≡ true)
both true b h = (refl, h)
both false b h = cc

pub are_digits : (xs ys : List ℕ) → is_number (xs ++ ys) ≡ true → AreDigits xs ys
are_digits xs ys h =
    let parts = number_parts (xs ++ ys) h in
    let few = parts.0 in
    let all = both (list_all (λ c. is_digit c 10) xs) (list_all (λ c. is_digit c 10) ys) (sym (list_all-append (λ c. is_digit c 10) xs ys) ∙ parts.1) in
    record { front = all.0; back = all.1; few = omega (arith, few, length-append xs ys) }

-- ---- A number that is written

run : (xs : List ℕ) (ys : List ℕ) → list_all is_decimal_digit xs ≡ true → prefix_len (λ b. not (is_point b)) (xs ++ 46 ∷ ys) ≡ length xs
run [] ys all = refl
run (x ∷ xs) ys all = by (is_decimal_digit x) refl all (run xs ys)
  where
    by : (b : Bool) → is_decimal_digit x ≡ b → (b && list_all is_decimal_digit xs) ≡ true → (list_all is_decimal_digit xs ≡ true → prefix_len (λ b. not (is_point b)) (xs ++ 46 ∷ ys) ≡ length xs) → cond (not (is_point x)) (1 + prefix_len (λ b. not (is_point b)) (xs ++ 46 ∷ ys)) 0 ≡ suc (length xs)
    by true e h more = rw (digit_is_not 46 x refl e, more h) (omega arith)
    by false e h more = cc

front_is : (xs ys : List ℕ) → list_all is_decimal_digit xs ≡ true → front (xs ++ 46 ∷ ys) ≡ xs
front_is xs ys all = ap (λ (n : ℕ). take n (xs ++ 46 ∷ ys)) (run xs ys all) ∙ take-append_seam xs (46 ∷ ys)

back_is : (xs ys : List ℕ) → list_all is_decimal_digit xs ≡ true → back (xs ++ 46 ∷ ys) ≡ ys
back_is xs ys all = ap (λ (n : ℕ). drop (n + 1) (xs ++ 46 ∷ ys)) (run xs ys all) ∙ drop-append-add xs (46 ∷ ys) 1

any_behind : (xs ys : List ℕ) → list_any is_point (xs ++ 46 ∷ ys) ≡ true
any_behind [] ys = refl
any_behind (x ∷ xs) ys = by (is_point x) (any_behind xs ys)
  where
    by : (b : Bool) → list_any is_point (xs ++ 46 ∷ ys) ≡ true → (b || list_any is_point (xs ++ 46 ∷ ys)) ≡ true
    by true h = refl
    by false h = h

-- the digits before and behind the point make the number
value_is : (w p : ℕ) → p ≤ 18 → w < 10 ^ 18 → digits_value 10 (last_digits (18 - p) (w / 10 ^ p) ++ last_digits p w) ≡ w
value_is w p few small =
    let n : ℕ = 18 - p in
    let all : p + n ≡ 18 = omega (arith, few) in
    let power : 10 ^ p * 10 ^ n ≡ 10 ^ 18 = sym (pow-add 10 p n) ∙ ap (λ (k : ℕ). 10 ^ k) all in
    let over : w / 10 ^ p / 10 ^ n ≡ 0 = div-div-eq-div-mul w (10 ^ p) (10 ^ n) ∙ ap (λ (k : ℕ). w / k) power ∙ div-eq_of_lt small in
    let high : digits_value_after 10 0 (last_digits n (w / 10 ^ p)) ≡ w / 10 ^ p = sym (ap (λ (k : ℕ). digits_value_after 10 k (last_digits n (w / 10 ^ p))) over) ∙ last_value n (w / 10 ^ p) in
    digits_value_after-append 10 0 (last_digits n (w / 10 ^ p)) (last_digits p w) ∙ ap (λ (k : ℕ). digits_value_after 10 k (last_digits p w)) high ∙ last_value p w

-- a sign, and what stands behind it
record IsSigned (negative : Bool) (rest : List ℕ) : Type 0 where
  body : unsigned (sign negative ∷ rest) ≡ rest
  minus : has_minus (sign negative ∷ rest) ≡ negative

signed : (negative : Bool) (rest : List ℕ) → IsSigned negative rest
signed true rest = record { body = refl; minus = refl }
signed false rest = record { body = refl; minus = refl }

pub reads_back : (negative : Bool) (w p : ℕ) → p ≤ 18 → w < 10 ^ 18 → decimal (pointed_text negative w p) ≡ Some (record { negative = negative; whole = w; places = p; pointed = true })
reads_back negative w p few small =
    let xs : List ℕ = last_digits (18 - p) (w / 10 ^ p) in
    let ys : List ℕ = last_digits p w in
    let s = signed negative (xs ++ 46 ∷ ys) in
    let all : list_all is_decimal_digit xs ≡ true = last_are_digits (18 - p) (w / 10 ^ p) in
    let before : front (unsigned (pointed_text negative w p)) ≡ xs = ap front s.body ∙ front_is xs ys all in
    let behind : back (unsigned (pointed_text negative w p)) ≡ ys = ap back s.body ∙ back_is xs ys all in
    let parts : front (unsigned (pointed_text negative w p)) ++ back (unsigned (pointed_text negative w p)) ≡ xs ++ ys = rw (before, behind) refl in
    let long : length (xs ++ ys) ≡ 18 = omega (arith, few, length-append xs ys, length-last_digits (18 - p) (w / 10 ^ p), length-last_digits p w) in
    let digits : list_all is_decimal_digit (xs ++ ys) ≡ true = list_all-append is_decimal_digit xs ys ∙ rw (all, last_are_digits p w) refl in
    let is : is_decimal (pointed_text negative w p) ≡ true = ap is_number parts ∙ is_number-true (xs ++ ys) (omega (arith, long)) (omega (arith, long)) digits in
    decimal_from (pointed_text negative w p) negative true w p is (sym s.minus) (sym (ap (digits_value 10) parts ∙ value_is w p few small)) (sym (ap length behind ∙ length-last_digits p w)) (sym (ap (list_any is_point) s.body ∙ any_behind xs ys))

-- so is a number with its digits laid out
placed : (d e : Fraction) (negative : Bool) (w p : ℕ) → negative ≡ d.negative → w ≡ d.whole → Some (record { negative = negative; whole = w; places = p; pointed = true }) ≡ Some e → e ≡ with_places d p
placed d e negative w p minus whole is = cc

pub some_placed : (d e : Fraction) (negative : Bool) (w p : ℕ) (text : List ℕ) → p ≤ 18 → w < 10 ^ 18 → negative ≡ d.negative → w ≡ d.whole → text ≡ pointed_text negative w p → decimal text ≡ Some e → e ≡ with_places d p
some_placed d e negative w p text few small minus whole is read = placed d e negative w p minus whole (sym (ap decimal is ∙ reads_back negative w p few small) ∙ read)

pub never_none : (negative : Bool) (w p : ℕ) (text : List ℕ) → p ≤ 18 → w < 10 ^ 18 → text ≡ pointed_text negative w p → decimal text ≡ None → ⊥
never_none negative w p text few small is none = let some = sym (ap decimal is ∙ reads_back negative w p few small) ∙ none in cc

-- ---- Digits before a place

pub put_step : (to count n : ℕ) (text new : List ℕ) → 0 < count → count ≤ to → to ≤ length text → drop (to - 1 - (count - 1)) new ≡ last_digits (count - 1) (n / 10) ++ drop (to - 1) (set text (to - 1) (48 + n % 10)) → drop (to - count) new ≡ last_digits count n ++ drop to text
put_step to zero n text new some few inside h = absurd (omega (arith, some))
put_step to (suc k) n text new some few inside h =
    let at : to - 1 - (suc k - 1) ≡ to - suc k = omega (arith, few) in
    let less : suc k - 1 ≡ k = omega arith in
    let next : to - 1 + 1 ≡ to = omega (arith, few) in
    let here : drop (to - 1) (set text (to - 1) (48 + n % 10)) ≡ (48 + n % 10) ∷ drop to text = drop-set text (to - 1) (48 + n % 10) (omega (arith, few, inside)) ∙ ap (λ (i : ℕ). (48 + n % 10) ∷ drop i text) next in
    ap (λ (i : ℕ). drop i new) (sym at) ∙ h ∙ ap (λ (j : ℕ). last_digits j (n / 10) ++ drop (to - 1) (set text (to - 1) (48 + n % 10))) less ∙ ap (λ (ys : List ℕ). last_digits k (n / 10) ++ ys) here ∙ sym (append_assoc (last_digits k (n / 10)) ((48 + n % 10) ∷ []) (drop to text))
