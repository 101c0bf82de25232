-- Step and repeat words: how they are read, and what they give.
use Rattle.std.specs.Prelude.{ℕ, ◌≤◌, Bool, ◌||◌, not, ◌==◌, nat_eq, nat_lt, if◌then◌else◌, List, length, drop, codes, ℤ, Option, Some, None, Result, Ok, Err}
use Rattle.std.specs.List.{before_first, after_first, list_all, list_any, starts_with}
use Rattle.std.specs.Cmp.Lexicographic.{pointwise}
use Rattle.std.specs.Str.Parse.{digits_value}
use Rattle.planar.specs.Plane.{IsReached}
use Rattle.texts.specs.Digits.{is_decimal_digit}
use Rattle.lengths.specs.Decimal.{Fraction, is_decimal, fraction, chosen}
use Rattle.lengths.specs.Grid.{position_of}
use Rattle.lengths.specs.declared.decimal.Unit.{Unit as Measure}
use Rattle.lengths.specs.declared.decimal.GridFault.{GridFault}
use Rattle.step_repeat.specs.declared.repeat.Repeat.{Repeat}
use Rattle.step_repeat.specs.declared.fault.RepeatFault.{RepeatFault}
use Rattle.step_repeat.specs.declared.fault.RepeatFault.TheVariants.{BadText, OffGrid, OutOfRange}

-- the counts are from 1 to 999,999,999, and the steps at most 1 m
pub record IsLawful (r : Repeat) : Type 0 where
  pub some_across : 1 ≤ r.across
  pub few_across : r.across ≤ 999999999
  pub some_up : 1 ≤ r.up
  pub few_up : r.up ≤ 999999999
  pub short_x : IsReached r.dx
  pub short_y : IsReached r.dy

-- and then
infixl 10 ◌>>=◌
abbrev pub ◌>>=◌ : {A B : Type 0} → Result A RepeatFault → (A → Result B RepeatFault) → Result B RepeatFault
(Ok x) >>= f = f x
(Err e) >>= f = Err e

abbrev pub is_i : ℕ → Bool
is_i b = b == 73

abbrev pub is_j : ℕ → Bool
is_j b = b == 74

abbrev pub is_y : ℕ → Bool
is_y b = b == 89

-- no count is 0
abbrev pub not_zero : ℕ → Result ℕ RepeatFault
not_zero n = if n == 0 then Err BadText else Ok n

-- the number that 1 to 9 digits spell, at least 1
unfoldable pub count_at : List ℕ → Result ℕ RepeatFault
count_at digits =
    if length digits == 0 || nat_lt 9 (length digits) then Err BadText
    else (if list_all is_decimal_digit digits then not_zero (digits_value 10 digits) else Err BadText)

-- the decimal that a text is
unfoldable pub decimal_at : List ℕ → Result Fraction RepeatFault
decimal_at text = if is_decimal text then Ok (fraction text) else Err BadText

-- how a step that is no position is refused
abbrev pub as_fault : Result ℤ GridFault → Result ℤ RepeatFault
as_fault (Ok u) = Ok u
as_fault (Err fault) = Err (chosen fault OffGrid OutOfRange)

-- the position that a decimal is
unfoldable pub step_at : Fraction → Measure → Result ℤ RepeatFault
step_at d unit = as_fault (position_of d unit)

-- the steps of `<dx>J<dy>`: both are decimals, and then each is a position
unfoldable pub steps_at : List ℕ → Measure → Result (ℤ × ℤ) RepeatFault
steps_at text unit =
    if not (list_any is_j text) then Err BadText
    else (decimal_at (before_first is_j text) >>= λ x.
    decimal_at (after_first is_j text) >>= λ y.
    step_at x unit >>= λ dx.
    step_at y unit >>= λ dy.
    Ok (dx, dy))

-- the repeat of so many columns and `<m>I<dx>J<dy>`
unfoldable pub rows_at : ℕ → List ℕ → Measure → Result Repeat RepeatFault
rows_at across text unit =
    if not (list_any is_i text) then Err BadText
    else (count_at (before_first is_i text) >>= λ up.
    steps_at (after_first is_i text) unit >>= λ steps.
    Ok (record { across = across; up = up; dx = steps.0; dy = steps.1 }))

-- the repeat of `<n>Y<m>I<dx>J<dy>`
unfoldable pub parameters_at : List ℕ → Measure → Result Repeat RepeatFault
parameters_at text unit =
    if not (list_any is_y text) then Err BadText
    else (count_at (before_first is_y text) >>= λ across. rows_at across (after_first is_y text) unit)

-- what a word says: `SR` has no parameters (Gerber Layer Format Specification, step and repeat)
unfoldable pub repeat_at : List ℕ → Measure → Result (Option Repeat) RepeatFault
repeat_at word unit =
    if pointwise nat_eq word (codes "SR") then Ok None
    else (if starts_with nat_eq word (codes "SRX") then (parameters_at (drop 3 word) unit >>= λ r. Ok (Some r))
    else Err BadText)
