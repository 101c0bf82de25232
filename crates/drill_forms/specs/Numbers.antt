-- Numbers, some without a point.
use Rattle.std.specs.Prelude.{ℕ, ◌-◌, ◌/◌, ◌^◌, Bool, true, if◌then◌else◌, List, ◌∷◌, ◌++◌, length, Option, Some, None}
use Rattle.texts.specs.LastDigits.{last_digits}
use Rattle.lengths.specs.Decimal.{Fraction, decimal, unsigned}

-- A number as it is written: its value, and how many bytes stand behind its sign. Without a point they are its digits.
pub record Number : Type 0 where
  pub value : Fraction
  pub digits : ℕ

abbrev pub number_with : List ℕ → Option Fraction → Option Number
number_with text None = None
number_with text (Some d) = Some (record { value = d; digits = length (unsigned text) })

unfoldable pub number_of : List ℕ → Option Number
number_of text = number_with text (decimal text)

-- the number that its digits are with a point before the last so many of them
abbrev pub with_places : Fraction → ℕ → Fraction
with_places d places = record d { places = places; pointed = true }

-- a sign
abbrev pub sign : Bool → ℕ
sign negative = if negative then 45 else 43

-- a number as text: its sign, and 18 digits with a point before the last so many of them
abbrev pub pointed_text : Bool → ℕ → ℕ → List ℕ
pointed_text negative whole places = sign negative ∷ last_digits (18 - places) (whole / 10 ^ places) ++ 46 ∷ last_digits places whole
