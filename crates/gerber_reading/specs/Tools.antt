-- What the aperture dictionary and the macros of a file hold.
use Rattle.std.specs.Prelude.{ℕ, ◌+◌, zero, suc, Bool, false, nat_lt, if◌then◌else◌, List, [], ◌∷◌, ◌++◌, length, Option, Some, None, option_map, Result, Ok, Err}
use Rattle.std.specs.List.{after_first, before_first, count_by, list_any}
use Rattle.std.specs.Str.Parse.{digits_value}
use Rattle.texts.specs.Words.{is_word}
use Rattle.lengths.specs.Decimal.{Fraction, is_decimal, fraction}
use Rattle.lengths.specs.declared.decimal.Unit.{Unit as Measure}
use Rattle.apertures.specs.declared.fault.ApertureFault.{ApertureFault}
use Rattle.apertures.specs.declared.fault.ApertureFault.TheVariants as aperture
pub use Rattle.apertures.specs.Definition.{name_text, number_digits}
use Rattle.apertures.specs.Definition.{is_comma, is_x, name_of}
use Rattle.aperture_macros.specs.BodyWord.{PlainPrimitive}
use Rattle.gerber_reading.specs.declared.TheConstants.{MOST_PRIMITIVES}

-- An aperture: a standard one, or the macro of a name with its parameters and their unit.
pub data Tool (A : Type 0) : Type 0 where
  standard : A → (Tool A)
  composed : List ℕ → List Fraction → Measure → (Tool A)

-- a macro: its name and the primitives of its body
pub record Macro : Type 0 where
  pub name : List ℕ
  pub body : List PlainPrimitive

-- the macros of a file: the one that was begun last, and the others by their names
pub record Macros : Type 0 where
  pub latest : Option Macro
  pub others : List ℕ → Option (List PlainPrimitive)

-- the body of the last macro, where that has the name, and else the other
abbrev pub latest_or : Option Macro → Option (List PlainPrimitive) → List ℕ → Option (List PlainPrimitive)
latest_or None other name = other
latest_or (Some m) other name = if is_word m.name name then Some m.body else other

-- the body of the macro of a name
abbrev pub macro_named : Macros → List ℕ → Option (List PlainPrimitive)
macro_named m name = latest_or m.latest (m.others name) name

-- a macro has at most MOST_PRIMITIVES primitives
abbrev pub has_room : Option Macro → Bool
has_room None = false
has_room (Some m) = nat_lt (length m.body) MOST_PRIMITIVES

-- a macro of this name is begun, and the one that was last is among the others
abbrev pub begun : Macros → List ℕ → Macros
begun m name = record { latest = Some (record { name = name; body = [] }); others = macro_named m }

-- the macro with a primitive more
abbrev pub longer : PlainPrimitive → Macro → Macro
longer p m = record { name = m.name; body = m.body ++ p ∷ [] }

-- the last macro gets a primitive more
abbrev pub filled_up : Macros → PlainPrimitive → Macros
filled_up m p = record { latest = option_map (longer p) m.latest; others = m.others }

-- ---- An `AD` word of a macro (Gerber Layer Format Specification, 4.3)

-- n decimals, cut at `X`
unfoldable pub decimals_in : ℕ → List ℕ → Option (List Fraction)
decimals_in zero text = Some []
decimals_in (suc n) text =
    if is_decimal (before_first is_x text) then option_map (λ more. fraction (before_first is_x text) ∷ more) (decimals_in n (after_first is_x text))
    else None

-- the parameters behind the comma, if all are decimals
unfoldable pub parameters_in : List ℕ → Option (List Fraction)
parameters_in text =
    if list_any is_comma text then decimals_in (count_by is_x (after_first is_comma text) + 1) (after_first is_comma text)
    else Some []

-- the number and the aperture that such a word defines
abbrev pub composed_in : {A : Type 0} → List ℕ → Measure → Option (ℕ × Tool A)
composed_in word unit =
    option_map (λ parameters. (digits_value 10 (number_digits word), composed (name_of (name_text word)) parameters unit)) (parameters_in (name_text word))

-- a standard aperture, or the other where the name is none of a standard aperture
abbrev pub tool_by : {A : Type 0} → Result (ℕ × A) ApertureFault → Option (ℕ × Tool A) → Option (ℕ × Tool A)
tool_by (Ok made) other = Some (made.0, standard made.1)
tool_by (Err aperture.Macro) other = other
tool_by (Err fault) other = None

-- what an `AD` word defines: the standard aperture that it means, or one of a macro
abbrev pub tool_in : {A : Type 0} → (List ℕ → Measure → Result (ℕ × A) ApertureFault) → List ℕ → Measure → Option (ℕ × Tool A)
tool_in aperture word unit = tool_by (aperture word unit) (composed_in word unit)
