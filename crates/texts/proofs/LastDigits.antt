-- The last digits of a number, and what they read as.
use Rattle.std.proofs.Common.{◌≡◌, ℕ, zero, suc, append_assoc, ◌-◌, ◌+◌, ◌*◌, ◌/◌, ◌%◌, ◌^◌, ◌<◌, true, List, [], ◌∷◌, ◌++◌, length, refl, sym, ap, ◌∙◌, arith, length-append}
use Rattle.std.proofs.lemmas.List.Folds.{list_all-append}
use Rattle.std.proofs.Math.Nat.{div-div-eq-div-mul, pow-suc, mul_comm}
use Rattle.std.proofs.lemmas.Str.{digit_value_digit}
use Rattle.std.specs.Char.{digit_value}
use Rattle.std.specs.List.{list_all}
use Rattle.std.specs.Str.Parse.{digits_value_after}
use borrow.Author.Tests.{lt-ltb}
use Rattle.texts.specs.Digits.{is_decimal_digit}
use Rattle.texts.specs.LastDigits.{last_digits}

-- a digit's value
pub digit_value_at : (d : ℕ) → d < 10 → digit_value (48 + d) ≡ d
digit_value_at d small = let v = digit_value_digit (48 + d) (omega (arith, small), omega (arith, small)) in omega (arith, v)

pub digit_is : (d : ℕ) → d < 10 → is_decimal_digit (48 + d) ≡ true
digit_is d small = lt-ltb (digit_value (48 + d)) 10 (rw (digit_value_at d small) small)

pub last_are_digits : (k n : ℕ) → list_all is_decimal_digit (last_digits k n) ≡ true
last_are_digits zero n = refl
last_are_digits (suc k) n = list_all-append is_decimal_digit (last_digits k (n / 10)) ((48 + n % 10) ∷ []) ∙ rw (last_are_digits k (n / 10), digit_is (n % 10) (omega arith)) refl

pub length-last_digits : (k n : ℕ) → length (last_digits k n) ≡ k
length-last_digits zero n = refl
length-last_digits (suc k) n = let h = length-last_digits k (n / 10) in omega (arith, h, length-append (last_digits k (n / 10)) ((48 + n % 10) ∷ []))

-- one more digit
pushed : (r n : ℕ) (xs : List ℕ) (c : ℕ) → digits_value_after r n (xs ++ c ∷ []) ≡ digits_value_after r n xs * r + digit_value c
pushed r n [] c = refl
pushed r n (x ∷ xs) c = pushed r (n * r + digit_value x) xs c

-- behind the digits before them they make the number
pub last_value : (k n : ℕ) → digits_value_after 10 (n / 10 ^ k) (last_digits k n) ≡ n
last_value zero n = omega arith
last_value (suc k) n =
    let over : n / 10 ^ suc k ≡ n / 10 / 10 ^ k = ap (λ (p : ℕ). n / p) (pow-suc 10 k ∙ mul_comm (10 ^ k) 10) ∙ sym (div-div-eq-div-mul n 10 (10 ^ k)) in
    let more : digits_value_after 10 (n / 10 / 10 ^ k) (last_digits k (n / 10)) ≡ n / 10 = last_value k (n / 10) in
    let digit : digit_value (48 + n % 10) ≡ n % 10 = digit_value_at (n % 10) (omega arith) in
    pushed 10 (n / 10 ^ suc k) (last_digits k (n / 10)) (48 + n % 10) ∙ rw (over, more, digit) (omega arith)

-- one digit more behind those before it
pub put_digit : (k n : ℕ) (start before after : List ℕ) → (k ≡ 0 → ⊥) → before ≡ start ++ last_digits (k - 1) (n / 10) → after ≡ before ++ (48 + n % 10) ∷ [] → after ≡ start ++ last_digits k n
put_digit zero n start before after some so_far now = absurd (some refl)
put_digit (suc k) n start before after some so_far now =
    let less : suc k - 1 ≡ k = omega arith in
    now ∙ (ap (λ (t : List ℕ). t ++ (48 + n % 10) ∷ []) (so_far ∙ ap (λ (j : ℕ). start ++ last_digits j (n / 10)) less) ∙ append_assoc start (last_digits k (n / 10)) ((48 + n % 10) ∷ []))
