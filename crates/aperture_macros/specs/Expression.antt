-- Expressions: how a length is written in a macro (Gerber Layer Format Specification, 4.5.4).
use Rattle.std.specs.Prelude.{ℕ, zero, suc, ◌+◌, Bool, true, false, ◌&&◌, ◌||◌, not, ◌==◌, nat_le, if◌then◌else◌, List, [], ◌∷◌, length, take, drop, Option, Some, None, is_some}
use Rattle.std.specs.List.{list_all, prefix_len}
use Rattle.std.specs.Str.Parse.{digits_value}
use Rattle.texts.specs.Digits.{is_decimal_digit}
use Rattle.lengths.specs.Decimal.{is_decimal, unsigned}
use Rattle.aperture_macros.specs.declared.expression.TheConstants.{MOST_TERMS}

abbrev pub is_empty : List ℕ → Bool
is_empty [] = true
is_empty (b ∷ text) = false

-- a plus or a minus
abbrev pub is_sign : ℕ → Bool
is_sign b = b == 43 || b == 45

-- a byte of a term behind its sign
abbrev pub is_plain : ℕ → Bool
is_plain b = not (is_sign b)

-- one where a sign stands in front
abbrev pub sign_len : List ℕ → ℕ
sign_len [] = 0
sign_len (b ∷ text) = if is_sign b then 1 else 0

-- how long the first term is, with the sign before it: it ends before the next sign
abbrev pub term_len : List ℕ → ℕ
term_len text = sign_len text + prefix_len is_plain (drop (sign_len text) text)

-- that term
abbrev pub first_term : List ℕ → List ℕ
first_term text = take (term_len text) text

-- the terms behind it, each with the sign before it
abbrev pub further_terms : List ℕ → List ℕ
further_terms text = drop (term_len text) text

-- 1 to 3 digits that are not 0 together
abbrev pub is_parameter_number : List ℕ → Bool
is_parameter_number digits = (nat_le 1 (length digits) && nat_le (length digits) 3) && (list_all is_decimal_digit digits && nat_le 1 (digits_value 10 digits))

-- the number that such digits spell
abbrev pub parameter_number : List ℕ → Option ℕ
parameter_number digits = if is_parameter_number digits then Some (digits_value 10 digits) else None

-- the number of the parameter that `$` and digits name
abbrev pub variable_number : List ℕ → Option ℕ
variable_number [] = None
variable_number (b ∷ digits) = if b == 36 then parameter_number digits else None

-- a term with the sign before it, if it has one: a variable or a decimal
abbrev pub is_term : List ℕ → Bool
is_term text = is_some (variable_number (unsigned text)) || is_decimal text

-- `x` or `X`, which multiplies
abbrev pub is_times : ℕ → Bool
is_times b = b == 120 || b == 88

abbrev pub is_untimed : ℕ → Bool
is_untimed b = not (is_times b)

-- what stands before the first of these, and what stands behind it
abbrev pub factor_len : List ℕ → ℕ
factor_len text = prefix_len is_untimed text

abbrev pub first_factor : List ℕ → List ℕ
first_factor text = take (factor_len text) text

abbrev pub second_factor : List ℕ → List ℕ
second_factor text = drop (factor_len text + 1) text

-- a term without a sign
abbrev pub is_factor : List ℕ → Bool
is_factor text = sign_len text == 0 && is_term text

-- two such, one times the other
unfoldable pub is_product : List ℕ → Bool
is_product text = is_factor (first_factor text) && is_factor (second_factor text)

-- at most n terms, each but the first with a sign before it
unfoldable pub is_sum : ℕ → List ℕ → Bool
is_sum zero text = is_empty text
is_sum (suc n) text = is_empty text || (is_term (first_term text) && is_sum n (further_terms text))

-- an optional sign and 1 to MOST_TERMS terms, joined by `+` or `-`
unfoldable pub is_expression : List ℕ → Bool
is_expression text = not (is_empty text) && is_sum MOST_TERMS text
