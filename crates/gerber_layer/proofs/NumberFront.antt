-- The number in front of a text: digits and signs, of which a sign stands behind no digit.
use Rattle.std.proofs.Common.{◌≡◌, ℕ, ◌+◌, ◌-◌, ◌≤◌, suc, zero, Bool, true, false, ◌||◌, ◌&&◌, cond, List, [], ◌∷◌, length, take, drop, refl, sym, ◌∙◌, arith}
use Rattle.std.specs.Prelude.{◌==◌, nat_le, nat_lt}
use Rattle.std.proofs.lemmas.Bool.{ltb-false}
use Rattle.std.specs.List.{list_all, prefix_len}
use Rattle.std.proofs.lemmas.List.Folds.{length-prefix_len}
use Rattle.texts.specs.Digits.{is_decimal_digit}
use Rattle.lengths.specs.Decimal.{unsigned}
use Rattle.gerber_layer.specs.WordCommands.{is_number, is_numeric, number_len}

-- how many digits stand in front
abbrev pub digits_in : List ℕ → ℕ
digits_in text = prefix_len is_decimal_digit text

-- no sign stands in front
abbrev pub IsUnsigned : List ℕ → Type 0
IsUnsigned text = length text ≤ length (unsigned text)

-- a digit is digit or sign, and what is neither sign nor digit is none
digit_is : (x y d : Bool) → d ≡ true → (x || (y || d)) ≡ true
digit_is true y d e = refl
digit_is false true d e = refl
digit_is false false d e = e

none_is : (x y d : Bool) → (x || y) ≡ false → d ≡ false → (x || (y || d)) ≡ false
none_is true y d s e = s
none_is false true d s e = s
none_is false false d s e = e

no_sign : (b : ℕ) (rest : List ℕ) → IsUnsigned (b ∷ rest) → (b == 43 || b == 45) ≡ false
no_sign b rest h = by (b == 43 || b == 45) refl h
  where
    by : (s : Bool) → (b == 43 || b == 45) ≡ s → length (b ∷ rest) ≤ length (cond s rest (b ∷ rest)) → (b == 43 || b == 45) ≡ false
    by true e h = absurd (omega (arith, h))
    by false e h = e

-- where no sign stands behind the digits, digits and signs are as many as digits
one_and : (n : ℕ) → 1 + n ≡ suc n
one_and n = omega arith

same_run : (body : List ℕ) → IsUnsigned (drop (digits_in body) body) → prefix_len is_numeric body ≡ digits_in body
same_run [] h = refl
same_run (b ∷ rest) h = by (is_decimal_digit b) refl (same_run rest) h
  where
    by : (d : Bool) → is_decimal_digit b ≡ d → (IsUnsigned (drop (digits_in rest) rest) → prefix_len is_numeric rest ≡ digits_in rest) → IsUnsigned (drop (cond d (1 + digits_in rest) 0) (b ∷ rest)) → cond (is_numeric b) (1 + prefix_len is_numeric rest) 0 ≡ cond d (1 + digits_in rest) 0
    by true e more h =
        let less : IsUnsigned (drop (digits_in rest) rest) = rw (one_and (digits_in rest)) at h in
        rw (digit_is (b == 43) (b == 45) (is_decimal_digit b) e, more less) refl
    by false e more h = rw (none_is (b == 43) (b == 45) (is_decimal_digit b) (no_sign b rest h) e) refl

digits_pass : (text : List ℕ) → list_all is_decimal_digit (take (digits_in text) text) ≡ true
digits_pass [] = refl
digits_pass (b ∷ rest) = by (is_decimal_digit b) refl (digits_pass rest)
  where
    by : (d : Bool) → is_decimal_digit b ≡ d → list_all is_decimal_digit (take (digits_in rest) rest) ≡ true → list_all is_decimal_digit (take (cond d (1 + digits_in rest) 0) (b ∷ rest)) ≡ true
    by true e more = rw (one_and (digits_in rest), e) more
    by false e more = refl

-- so many digits are a number
few_are : (digits text : List ℕ) (p : ℕ) → unsigned text ≡ digits → length digits ≡ p → list_all is_decimal_digit digits ≡ true → (nat_le 1 p && nat_le p 13) ≡ is_number text
few_are digits text p u l a = rw (u, l, a) (by (nat_le 1 p) (nat_le p 13))
  where
    by : (x y : Bool) → (x && y) ≡ (x && (y && true))
    by true true = refl
    by true false = refl
    by false y = refl

-- the length and the number of what stands in front, by the text without its sign
pub record IsFront (text body : List ℕ) (len : ℕ) : Type 0 where
  pub long : len ≡ number_len text
  pub number : (nat_le 1 (digits_in body) && nat_le (digits_in body) 13) ≡ is_number (take len text)

back : (n p : ℕ) → n - n + p ≡ p
back n p = omega arith

one_more : (n p : ℕ) → suc n - n + p ≡ suc p
one_more n p = omega arith

signed : (x y d : Bool) → (x || y) ≡ true → (x || (y || d)) ≡ true
signed true y d e = refl
signed false true d e = refl
signed false false d e = cc

-- what stands in front where no sign stands behind the digits
pub front_is : (text : List ℕ) → IsUnsigned (drop (digits_in (unsigned text)) (unsigned text)) → IsFront text (unsigned text) (length text - length (unsigned text) + digits_in (unsigned text))
front_is [] h = record { long = refl; number = refl }
front_is (b ∷ rest) h = by (b == 43 || b == 45) refl h
  where
    kept : (k : ℕ) → (b == 43 || b == 45) ≡ false → unsigned (take k (b ∷ rest)) ≡ take k (b ∷ rest)
    kept zero e = refl
    kept (suc k) e = rw e refl

    behind_sign : (b == 43 || b == 45) ≡ true → unsigned (b ∷ take (digits_in rest) rest) ≡ take (digits_in rest) rest
    behind_sign e = rw e refl

    with_sign : is_numeric b ≡ true → prefix_len is_numeric rest ≡ digits_in rest → suc (digits_in rest) ≡ number_len (b ∷ rest)
    with_sign n r = rw (n, r) (sym (one_and (digits_in rest)))

    by : (s : Bool) → (b == 43 || b == 45) ≡ s → IsUnsigned (drop (digits_in (cond s rest (b ∷ rest))) (cond s rest (b ∷ rest))) → IsFront (b ∷ rest) (cond s rest (b ∷ rest)) (length (b ∷ rest) - length (cond s rest (b ∷ rest)) + digits_in (cond s rest (b ∷ rest)))
    by true e h = rw (one_more (length rest) (digits_in rest)) record {
      long = with_sign (signed (b == 43) (b == 45) (is_decimal_digit b) e) (same_run rest h);
      number = few_are (take (digits_in rest) rest) (b ∷ take (digits_in rest) rest) (digits_in rest) (behind_sign e) (length-prefix_len is_decimal_digit rest) (digits_pass rest);
    }
    by false e h = rw (back (length (b ∷ rest)) (digits_in (b ∷ rest))) record {
      long = sym (same_run (b ∷ rest) h);
      number = few_are (take (digits_in (b ∷ rest)) (b ∷ rest)) (take (digits_in (b ∷ rest)) (b ∷ rest)) (digits_in (b ∷ rest)) (kept (digits_in (b ∷ rest)) e) (length-prefix_len is_decimal_digit (b ∷ rest)) (digits_pass (b ∷ rest));
    }

-- the same by what the reader has found
pub front_by : (text body behind : List ℕ) (d : ℕ) (sign : Bool) → body ≡ unsigned text → d ≡ digits_in body → behind ≡ drop d body → sign ≡ nat_lt (length (unsigned behind)) (length behind) → sign ≡ false → IsFront text body (length text - length body + d)
front_by text body behind d sign is long rest same none =
    let some : IsUnsigned behind = ltb-false _ _ (sym same ∙ none) in
    rw (long, is) (front_is text (rw (rest, long, is) at some))
