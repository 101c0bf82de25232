-- Attributes: extended words whose text says something of the file or of objects, in parts cut at commas.
use Rattle.std.specs.Prelude.{ℕ, Bool, false, ◌==◌, nat_eq, if◌then◌else◌, List, drop, codes, Option, Some, None, option_map, slice_get}
use Rattle.std.specs.List.{slice_split, starts_with}
use Rattle.std.specs.Cmp.Lexicographic.{pointwise}
use Rattle.gerber_words.specs.Words.{Entry}
use Rattle.gerber_words.specs.declared.attribute.Attribute.{Attribute}
use Rattle.gerber_words.specs.declared.attribute.AttributeKind.{AttributeKind}
use Rattle.gerber_words.specs.declared.attribute.AttributeKind.TheVariants.{File, Aperture, Object, Delete}

abbrev pub is_comma : ℕ → Bool
is_comma b = b == 44

-- what the first two letters say (Gerber Layer Format Specification, section 5)
unfoldable pub attribute_kind : List ℕ → Option AttributeKind
attribute_kind text =
    if starts_with nat_eq text (codes "TF") then Some File
    else (if starts_with nat_eq text (codes "TA") then Some Aperture
    else (if starts_with nat_eq text (codes "TO") then Some Object
    else (if starts_with nat_eq text (codes "TD") then Some Delete
    else None)))

-- the part of this number, from 0, of a text that is cut at its commas: of an attribute's text part 0 is its name with its point
abbrev pub field_of : List ℕ → ℕ → Option (List ℕ)
field_of text n = slice_get (slice_split is_comma text) n

-- a field that is this word
abbrev pub is_field : Option (List ℕ) → List ℕ → Bool
is_field None word = false
is_field (Some text) word = pointwise nat_eq text word

-- an attribute: its kind, and the text behind the two letters
pub record PlainAttribute : Type 0 where
  pub kind : AttributeKind
  pub text : List ℕ

-- the attribute that a word is: only an extended word is one
abbrev pub attribute_of : Entry → Option PlainAttribute
attribute_of word = if word.extended then option_map (λ kind. record { kind = kind; text = drop 2 word.text }) (attribute_kind word.text) else None

-- an attribute without where its text lies in memory
abbrev pub plain_attribute : Attribute → PlainAttribute
plain_attribute a = record { kind = a.kind; text = a.text.now }
