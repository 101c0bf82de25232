-- How a line is read by itself, by this project's own profile of the XNC Format Specification.
use Rattle.std.specs.Prelude.{ℕ, Bool, ◌&&◌, ◌||◌, not, ◌==◌, nat_le, if◌then◌else◌, List, [], ◌∷◌, length, drop, codes, Option, Some, None, decimal as number_text}
use Rattle.std.specs.List.{list_all, list_any, before_first, after_first}
use Rattle.std.specs.Str.Parse.{digits_value}
use Rattle.texts.specs.Digits.{is_decimal_digit}
use Rattle.texts.specs.Blanks.{trimmed}
use Rattle.texts.specs.Words.{is_word, begins}
use Rattle.lengths.specs.Decimal.{Fraction, decimal}
use Rattle.lengths.specs.declared.decimal.Unit.TheVariants.{Mm, Inch}
use Rattle.xnc.specs.declared.kind.DrillKind.TheVariants as kind
use Rattle.xnc.specs.declared.line.Coordinates.{Coordinates}
use Rattle.xnc.specs.declared.line.DrillLine.{DrillLine}
use Rattle.xnc.specs.declared.line.DrillLine.TheVariants as form

abbrev pub is_comma : ℕ → Bool
is_comma b = b == 44

-- what stands before the first comma, and what stands after it
abbrev pub field : List ℕ → List ℕ
field text = before_first is_comma text

abbrev pub further : List ℕ → List ℕ
further text = after_first is_comma text

-- the first two fields are the span's numbers
abbrev pub names_span : ℕ → ℕ → List ℕ → Bool
names_span from to fields = is_word (field fields) (number_text from) && is_word (field (further fields)) (number_text to)

-- a comment on the file's function, by the fields behind its name
unfoldable pub file_function : ℕ → ℕ → List ℕ → DrillLine
file_function from to fields =
    if is_word (field fields) (codes "MixedPlating") then form.Misfit kind.MixedPlating
    else (if is_word (field fields) (codes "NonPlated") then form.Misfit kind.NotPlated
    else (if is_word (field fields) (codes "Plated") then (if names_span from to (further fields) then form.Blank else form.Misfit kind.WrongSpan)
    else form.Misfit kind.BadLine))

-- a line that begins with a semicolon
unfoldable pub comment : ℕ → ℕ → List ℕ → DrillLine
comment from to text = if begins text (codes "; #@! TF.FileFunction,") then file_function from to (drop 22 text) else form.Blank

-- the letter between the two numbers of a place
abbrev pub is_y : ℕ → Bool
is_y b = b == 89

-- one number or both, where they are decimals
abbrev pub only_x : Option Fraction → Option Coordinates
only_x None = None
only_x (Some x) = Some (record { x = Some x; y = None })

abbrev pub only_y : Option Fraction → Option Coordinates
only_y None = None
only_y (Some y) = Some (record { x = None; y = Some y })

abbrev pub both : Option Fraction → Option Fraction → Option Coordinates
both (Some x) (Some y) = Some (record { x = Some x; y = Some y })
both x y = None

-- what stands behind the letter X
unfoldable pub behind_x : List ℕ → Option Coordinates
behind_x text = if list_any is_y text then both (decimal (before_first is_y text)) (decimal (after_first is_y text)) else only_x (decimal text)

-- A place: `X<decimal>`, `Y<decimal>`, or both in this order.
unfoldable pub coordinates_of : List ℕ → Option Coordinates
coordinates_of [] = None
coordinates_of (c ∷ text) = if c == 88 then behind_x text else (if c == 89 then only_y (decimal text) else None)

-- a line that lacks its part is unknown
abbrev pub line_with : {A : Type 0} → (A → DrillLine) → Option A → DrillLine
line_with make None = form.Unknown
line_with make (Some part) = make part

-- a slot's places
abbrev pub slots : Option Coordinates → Option Coordinates → DrillLine
slots (Some from) (Some to) = form.Slot from to
slots from to = form.Unknown

abbrev pub is_g : ℕ → Bool
is_g b = b == 71

-- the place behind `G85`, where the text is what stands behind its G
unfoldable pub slot_end : List ℕ → Option Coordinates
slot_end text = if begins text (codes "85") then coordinates_of (drop 2 text) else None

-- a place, or two with `G85` between them
unfoldable pub place_line : List ℕ → DrillLine
place_line text =
    if list_any is_g text then slots (coordinates_of (before_first is_g text)) (slot_end (after_first is_g text))
    else line_with form.Hit (coordinates_of text)

-- a tool's number: 1 to 4 digits, not 0
unfoldable pub tool_number : List ℕ → Option ℕ
tool_number digits =
    if nat_le 1 (length digits) && (nat_le (length digits) 4 && (list_all is_decimal_digit digits && not (digits_value 10 digits == 0))) then Some (digits_value 10 digits)
    else None

abbrev pub is_c : ℕ → Bool
is_c b = b == 67

-- the definition of a tool
abbrev pub defines : Option ℕ → Option Fraction → DrillLine
defines (Some n) (Some d) = form.Tool n d
defines n d = form.Unknown

-- what stands behind the letter T: a number and a diameter, or a number, or zeros for no tool
unfoldable pub tool_line : List ℕ → DrillLine
tool_line text =
    if list_any is_c text then defines (tool_number (before_first is_c text)) (decimal (after_first is_c text))
    else (if is_word text (codes "0") || is_word text (codes "00") then form.NoTool
    else line_with form.Select (tool_number text))

-- the unit lines, with or without what they say of zeros
abbrev pub is_metric : List ℕ → Bool
is_metric text = is_word text (codes "METRIC") || (is_word text (codes "METRIC,TZ") || is_word text (codes "METRIC,LZ"))

abbrev pub is_inch : List ℕ → Bool
is_inch text = is_word text (codes "INCH") || (is_word text (codes "INCH,TZ") || is_word text (codes "INCH,LZ"))

-- lines of the body alone: arcs, drill mode, routs, the tool down or up, and places
unfoldable pub body_line : List ℕ → DrillLine
body_line text =
    if begins text (codes "G02") || begins text (codes "G03") then form.Arc
    else (if is_word text (codes "G05") then form.Drill
    else (if begins text (codes "G00") then line_with form.Rout (coordinates_of (drop 3 text))
    else (if begins text (codes "G01") then line_with form.Straight (coordinates_of (drop 3 text))
    else (if is_word text (codes "M15") then form.Lower
    else (if is_word text (codes "M16") then form.Raise
    else place_line text)))))

-- a line that is not empty and no comment
unfoldable pub command : List ℕ → DrillLine
command text =
    if is_word text (codes "M48") then form.Start
    else (if is_word text (codes "FMAT,2") then form.Format
    else (if is_word text (codes "G90") then form.Absolute
    else (if is_metric text then form.Unit Mm
    else (if is_inch text then form.Unit Inch
    else (if is_word text (codes "%") then form.HeaderEnd
    else (if is_word text (codes "M30") then form.End
    else (if begins text (codes "T") then tool_line (drop 1 text)
    else body_line text)))))))

-- by the line without the blanks at its ends
unfoldable pub within_blanks : ℕ → ℕ → List ℕ → DrillLine
within_blanks from to [] = form.Blank
within_blanks from to (c ∷ text) = if c == 59 then comment from to (c ∷ text) else command (c ∷ text)

-- The form of a line in a file of this span. Blanks at both ends of the line mean nothing.
unfoldable pub form_of : ℕ → ℕ → List ℕ → DrillLine
form_of from to line = within_blanks from to (trimmed line)
