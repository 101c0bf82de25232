-- How a line is read by itself.
use Rattle.std.specs.Prelude.{ℕ, ◌+◌, Bool, ◌&&◌, ◌||◌, not, ◌==◌, nat_le, if◌then◌else◌, List, [], ◌∷◌, codes, Option, Some, None}
use Rattle.std.specs.List.{list_all}
use Rattle.std.specs.Str.Parse.{digits_value}
use Rattle.texts.specs.Digits.{is_decimal_digit}
use Rattle.lengths.specs.declared.decimal.Unit.{Unit as Measure}
use Rattle.lengths.specs.declared.decimal.Unit.TheVariants.{Mm, Inch}
use Rattle.ipc356_records.specs.declared.line.Coordinate.{Coordinate}
use Rattle.texts.specs.Blanks.{is_blank, trimmed, without_front}
use Rattle.texts.specs.Words.{is_word, begins}
use Rattle.ipc356_records.specs.Columns.{name_from, name_to, access_at, x_at, y_at, line_to, part, columns, column, words}
use Rattle.ipc356_records.specs.Line.{RecordLine, TestFields, blank, unread, units, ends, continues, tests, unknown}

-- a printable byte that is no blank
abbrev pub is_graphic : ℕ → Bool
is_graphic b = nat_le 33 b && nat_le b 126

-- the net name that stands between blanks: a blank name is read as `N/C`
unfoldable pub name_of : List ℕ → Option (List ℕ)
name_of [] = Some (codes "N/C")
name_of (b ∷ name) = if list_all is_graphic (b ∷ name) then Some (b ∷ name) else None

-- one digit or more
unfoldable pub digits_in : List ℕ → Option ℕ
digits_in [] = None
digits_in (b ∷ digits) = if list_all is_decimal_digit (b ∷ digits) then Some (digits_value 10 (b ∷ digits)) else None

-- the number that columns hold: leading blanks are zeros, and at least one digit stands
abbrev pub number_of : List ℕ → Option ℕ
number_of text = digits_in (without_front text)

-- the letter `A`, and two columns with a number
unfoldable pub access_in : List ℕ → Option ℕ
access_in text = if column access_at text == 65 then number_of (columns (access_at + 1) (access_at + 2) text) else None

-- a blank sign is plus
unfoldable pub signed_number : ℕ → Option ℕ → Option Coordinate
signed_number sign None = None
signed_number sign (Some steps) =
    if is_blank sign || (sign == 43 || sign == 45) then Some (record { negative = sign == 45; steps = steps }) else None

-- from a column on a letter, a sign, and six columns with a number
unfoldable pub coordinate_in : ℕ → ℕ → List ℕ → Option Coordinate
coordinate_in letter at text =
    if column at text == letter then signed_number (column (at + 1) text) (number_of (columns (at + 2) (at + 7) text)) else None

-- the fields of a test record, each at its columns
unfoldable pub fields_in : List ℕ → TestFields
fields_in text = record {
  name = name_of (trimmed (part name_from name_to text));
  access = access_in text;
  x = coordinate_in 88 x_at text;
  y = coordinate_in 89 y_at text;
}

-- the unit that the words after `UNITS` say: 0.0001 inch or 0.001 mm
unfoldable pub unit_of : List (List ℕ) → Option Measure
unit_of (word ∷ number ∷ []) =
    if not (is_word word (codes "CUST")) then None
    else (if is_word number (codes "0") then Some Inch
    else (if is_word number (codes "1") then Some Mm
    else None))
unit_of other = None

-- a parameter record, by the words after its `P`
unfoldable pub parameter : List (List ℕ) → RecordLine
parameter [] = unread
parameter (word ∷ further) = if is_word word (codes "UNITS") then units (unit_of further) else unread

-- records that say nothing of test points
abbrev pub is_other : List ℕ → Bool
is_other text =
    begins text (codes "367") || (begins text (codes "378") || (begins text (codes "379") || (begins text (codes "389")
    || (begins text (codes "078") || (begins text (codes "079") || begins text (codes "089"))))))

-- a record by its code in columns 1 to 3 (IPC-D-356A): `999` ends, `017` and `027` continue, `317` and `327` test
unfoldable pub coded : List ℕ → RecordLine
coded text =
    if begins text (codes "999") then ends
    else (if begins text (codes "017") || begins text (codes "027") then continues
    else (if begins text (codes "317") || begins text (codes "327") then tests (fields_in text)
    else (if is_other text then unread
    else unknown)))

-- What a line is: blank, a comment where it begins with `C`, a parameter record where with `P`, and else a record by its code.
-- Columns past the last are not read.
unfoldable pub form_of : List ℕ → RecordLine
form_of text =
    if list_all is_blank (part 1 line_to text) then blank
    else (if begins text (codes "C") then unread
    else (if begins text (codes "P") then parameter (words (part 2 line_to text))
    else coded text))
