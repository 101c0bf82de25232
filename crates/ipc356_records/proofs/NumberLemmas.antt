-- Numbers in columns.
use Rattle.std.proofs.Common.{◌≡◌, ℕ, ◌-◌, ◌<◌, ◌≤◌, zero, suc, Bool, true, false, ◌&&◌, List, [], ◌∷◌, ◌++◌, length, None, refl, ap, ◌∙◌, append-nil, arith}
use Rattle.std.specs.Prelude.{replicate}
use Rattle.std.specs.List.{list_all}
use Rattle.texts.specs.Digits.{is_decimal_digit}
use Rattle.texts.specs.Blanks.{is_blank, without_front}
use Rattle.texts.proofs.Blanks.{front-blank, front-other}
use Rattle.ipc356_records.specs.Columns.{filled}
use Rattle.ipc356_records.specs.RecordLines.{digits_in, number_of}

-- a text that fills its columns
pub filled-full : (width : ℕ) (xs : List ℕ) → width ≤ length xs → filled width xs ≡ xs
filled-full width xs h =
    let none : width - length xs ≡ 0 = omega arith in
    ap (λ (n : ℕ). xs ++ replicate n 32) none ∙ append-nil xs

-- bytes with a blank among them are no digits
no_digits : (xs ys : List ℕ) → list_all is_decimal_digit (xs ++ 32 ∷ ys) ≡ false
no_digits [] ys = refl
no_digits (x ∷ xs) ys = rw (no_digits xs ys) (by (is_decimal_digit x))
  where
    by : (b : Bool) → (b && false) ≡ false
    by true = refl
    by false = refl

-- what comes of the bytes in front of a blank that only blanks follow
before_blank : (xs ys : List ℕ) → without_front ys ≡ [] → number_of (xs ++ 32 ∷ ys) ≡ None
unfolding digits_in
before_blank [] ys h = ap digits_in (front-blank 32 ys refl ∙ h)
before_blank (x ∷ xs) ys h = by (is_blank x) refl (before_blank xs ys h)
  where
    by : (b : Bool) → is_blank x ≡ b → number_of (xs ++ 32 ∷ ys) ≡ None → number_of (x ∷ xs ++ 32 ∷ ys) ≡ None
    by true e more = ap digits_in (front-blank x (xs ++ 32 ∷ ys) e) ∙ more
    by false e more = ap digits_in (front-other x (xs ++ 32 ∷ ys) e) ∙ rw (no_digits (x ∷ xs) ys) refl

blanks : (n : ℕ) → without_front (replicate n 32) ≡ []
blanks zero = refl
blanks (suc n) = front-blank 32 (replicate n 32) refl ∙ blanks n

-- the columns past a line's end hold no digit
pub number_of-short : (width : ℕ) (xs : List ℕ) → length xs < width → number_of (filled width xs) ≡ None
number_of-short width xs h =
    let some : width - length xs ≡ suc (width - length xs - 1) = omega arith in
    ap (λ (n : ℕ). number_of (xs ++ replicate n 32)) some ∙ before_blank xs (replicate (width - length xs - 1) 32) (blanks (width - length xs - 1))
