-- How a command is read from a word.
use Rattle.std.specs.Prelude.{ℕ, ◌-◌, ◌*◌, ◌^◌, Bool, true, false, ◌&&◌, ◌||◌, not, ◌==◌, nat_le, if◌then◌else◌, List, [], ◌∷◌, length, take, drop, codes, Option, Some, None, is_none}
use Rattle.std.specs.List.{list_all, prefix_len, slice_split}
use Rattle.std.specs.Str.Parse.{digits_value}
use Rattle.texts.specs.Digits.{is_decimal_digit}
use Rattle.texts.specs.Words.{begins, is_word}
use Rattle.lengths.specs.Decimal.{unsigned, decimal, Fraction}
use Rattle.lengths.specs.declared.decimal.Unit.TheVariants.{Mm, Inch}
use Rattle.gerber_words.specs.Words.{Entry}
use Rattle.gerber_words.specs.Attributes.{PlainAttribute, attribute_of, field_of, is_field}
use Rattle.gerber_words.specs.declared.attribute.AttributeKind.{AttributeKind}
use Rattle.gerber_words.specs.declared.attribute.AttributeKind.TheVariants.{File}
use Rattle.gerber_reading.specs.Command.{Command, nothing, refused, formats, counts_in, defines, selects, repeats, functions, opens_region, closes_region, operates, ends, no_bending}
use Rattle.gerber_reading.specs.declared.command.Code.{Code}
use Rattle.gerber_reading.specs.declared.command.Code.TheVariants.{Draw, Move, Flash}
use Rattle.gerber_reading.specs.declared.kind.GerberKind.{GerberKind}
use Rattle.gerber_reading.specs.declared.kind.GerberKind.TheVariants as kind

abbrev pub is_empty : List ℕ → Bool
is_empty [] = true
is_empty (b ∷ text) = false

-- a digit or a sign
abbrev pub is_numeric : ℕ → Bool
is_numeric b = b == 43 || (b == 45 || is_decimal_digit b)

-- how many digits and signs stand in front
abbrev pub number_len : List ℕ → ℕ
number_len text = prefix_len is_numeric text

-- the number behind a letter, and what stands behind it; nothing and the text where it does not begin with the letter
abbrev pub number_in : ℕ → List ℕ → Option (List ℕ)
number_in letter [] = None
number_in letter (c ∷ text) = if c == letter then Some (take (number_len text) text) else None

abbrev pub behind : ℕ → List ℕ → List ℕ
behind letter [] = []
behind letter (c ∷ text) = if c == letter then drop (number_len text) text else c ∷ text

-- an optional sign and 1 to 13 digits
abbrev pub is_number : List ℕ → Bool
is_number digits =
    nat_le 1 (length (unsigned digits)) && (nat_le (length (unsigned digits)) 13 && list_all is_decimal_digit (unsigned digits))

-- where there is one
abbrev pub is_number_if : Option (List ℕ) → Bool
is_number_if None = true
is_number_if (Some digits) = is_number digits

-- the operation that an operation word ends with
unfoldable pub code_in : List ℕ → Option Code
code_in text =
    if is_word text (codes "D01") || is_word text (codes "D1") then Some Draw
    else (if is_word text (codes "D02") || is_word text (codes "D2") then Some Move
    else (if is_word text (codes "D03") || is_word text (codes "D3") then Some Flash
    else None))

-- what stands behind the code of lines, which an operation word may begin with (4.7)
abbrev pub behind_line_code : List ℕ → List ℕ
behind_line_code text = if begins text (codes "G01") then drop 3 text else (if begins text (codes "G1") then drop 2 text else text)

-- the letters of an arc's offsets, `I` and `J`
abbrev pub is_offset_letter : ℕ → Bool
is_offset_letter b = b == 73 || b == 74

-- what the offsets of an arc may hold, and how many such bytes stand in front
abbrev pub is_offset_byte : ℕ → Bool
is_offset_byte b = is_offset_letter b || is_numeric b

abbrev pub offsets_len : List ℕ → ℕ
offsets_len text = prefix_len is_offset_byte text

-- parts of a letter `I` or `J` and a number
abbrev pub are_offsets : List ℕ → Bool
are_offsets [] = true
are_offsets (c ∷ text) = is_offset_letter c && list_all is_number (slice_split is_offset_letter text)

-- an operation word by its parts: the two numbers, the offsets of an arc, and what stands behind them
unfoldable pub operation_of : Option (List ℕ) → Option (List ℕ) → List ℕ → List ℕ → Command
operation_of x y offsets text =
    if not (is_number_if x && is_number_if y) then refused kind.BadWord
    else (if not (are_offsets offsets) then refused kind.BadWord
    else (if not (is_empty text) && is_none (code_in text) then refused kind.BadWord
    else (if is_empty text && (is_none x && is_none y) then refused kind.BadWord
    else (if not (is_empty offsets) then refused kind.Arc
    else operates x y (code_in text) no_bending))))

-- by its text from the offsets on, and by its text from X on
unfoldable pub from_i : Option (List ℕ) → Option (List ℕ) → List ℕ → Command
from_i x y text = operation_of x y (take (offsets_len text) text) (drop (offsets_len text) text)

unfoldable pub from_x : List ℕ → Command
from_x text = from_i (number_in 88 text) (number_in 89 (behind 88 text)) (behind 89 (behind 88 text))

-- An operation word: `G01` or not, and then some of X, Y, offsets and a code, in this order (4.8).
unfoldable pub operation : List ℕ → Command
operation text = from_x (behind_line_code text)

-- the digits of a selection
abbrev pub selection : List ℕ → List ℕ
selection text = if begins text (codes "G54D") then drop 4 text else (if begins text (codes "D") then drop 1 text else [])

-- 2 to 9 digits, for a number from 10 on
abbrev pub is_selection : List ℕ → Bool
is_selection digits =
    nat_le 2 (length digits) && (nat_le (length digits) 9 && (list_all is_decimal_digit digits && nat_le 10 (digits_value 10 digits)))

-- what changes nothing: an empty word, comments, lines, the quadrant modes and absolute coordinates
abbrev pub is_idle : List ℕ → Bool
is_idle text =
    is_empty text || (begins text (codes "G04") || (is_word text (codes "G01") || (is_word text (codes "G1") || (is_word text (codes "G74") || (is_word text (codes "G75") || is_word text (codes "G90"))))))

-- what may follow an arc code at once
abbrev pub goes_on : List ℕ → Bool
goes_on [] = true
goes_on (c ∷ text) = c == 88 || (c == 89 || (c == 73 || (c == 74 || c == 68)))

-- an arc code, of which the short form is told apart from longer codes by what follows it
abbrev pub is_arc : List ℕ → Bool
is_arc text =
    begins text (codes "G02") || (begins text (codes "G03") || ((begins text (codes "G2") || begins text (codes "G3")) && goes_on (drop 2 text)))

-- the end of the file
abbrev pub is_last : List ℕ → Bool
is_last text = is_word text (codes "M02") || is_word text (codes "M2")

-- the number of the aperture that digits select
abbrev pub selected : List ℕ → Option ℕ
selected digits = if is_selection digits then Some (digits_value 10 digits) else None

-- a selection, and the other word where there is none
abbrev pub selects_or : Option ℕ → Command → Command
selects_or None other = other
selects_or (Some n) other = selects n

-- a selection or an operation
unfoldable pub coded : List ℕ → Command
coded text = selects_or (selected (selection text)) (operation text)

-- The rows of plain words (Gerber Layer Format Specification): lines (4.7) and what changes nothing (Comment and Deprecated);
-- arcs (4.7); incremental coordinates and units (Deprecated); regions (4.10); the end (End-of-file); selections (Set current
-- aperture) and operations (4.8).
unfoldable pub plain : List ℕ → Command
plain text =
    if is_idle text then nothing
    else (if is_arc text then refused kind.Arc
    else (if is_word text (codes "G91") then refused kind.Incremental
    else (if is_word text (codes "G70") then counts_in Inch
    else (if is_word text (codes "G71") then counts_in Mm
    else (if is_word text (codes "G36") then opens_region
    else (if is_word text (codes "G37") then closes_region
    else (if is_last text then ends
    else coded text)))))))

-- the format of two digits, 1 to 6 and 2 to 7
abbrev pub digits_format : ℕ → ℕ → Bool → Command
digits_format i d alike =
    if alike && ((nat_le 49 i && nat_le i 54) && (nat_le 50 d && nat_le d 55)) then formats (record { integers = i - 48; decimals = d - 48 })
    else refused kind.BadFormat

-- the format behind `FSLAX`
unfoldable pub format_of : List ℕ → Command
format_of (i ∷ d ∷ y ∷ j ∷ e ∷ []) = digits_format i d (y == 89 && (i == j && d == e))
format_of text = refused kind.BadFormat

-- an `FS` word: incremental coordinates, a format, or one that is not read
unfoldable pub format_word : List ℕ → Command
format_word text =
    if begins text (codes "FSLI") || begins text (codes "FSTI") then refused kind.Incremental
    else (if begins text (codes "FSLAX") then format_of (drop 5 text)
    else refused kind.BadFormat)

-- a decimal text that is this number
abbrev pub is_value : Option Fraction → ℕ → Bool
is_value None n = false
is_value (Some d) n = d.whole == n * 10 ^ d.places && (not d.negative || n == 0)

-- a rotation by 0, and a scaling by 1
abbrev pub is_unturned : List ℕ → Bool
is_unturned text = begins text (codes "LR") && is_value (decimal (drop 2 text)) 0

abbrev pub is_unscaled : List ℕ → Bool
is_unscaled text = begins text (codes "LS") && is_value (decimal (drop 2 text)) 1

-- dark polarity and no transformation of apertures (4.9)
abbrev pub is_neutral_load : List ℕ → Bool
is_neutral_load text = is_word text (codes "LPD") || (is_word text (codes "LMN") || (is_unturned text || is_unscaled text))

-- deprecated commands for the whole image that change nothing
abbrev pub is_neutral_image : List ℕ → Bool
is_neutral_image text =
    is_word text (codes "IPPOS") || (is_word text (codes "OFA0B0") || (is_word text (codes "ASAXBY") || is_word text (codes "MIA0B0")))

abbrev pub is_neutral_scale_or_rotation : List ℕ → Bool
is_neutral_scale_or_rotation text = is_word text (codes "SFA1B1") || (is_word text (codes "SFA1.0B1.0") || is_word text (codes "IR0"))

-- a deprecated name of the image or of the layer
abbrev pub is_name : List ℕ → Bool
is_name text = begins text (codes "IN") || begins text (codes "LN")

-- an attribute (5)
abbrev pub is_attribute : List ℕ → Bool
is_attribute text = begins text (codes "TF") || (begins text (codes "TA") || (begins text (codes "TO") || begins text (codes "TD")))

-- an extended word that changes nothing
abbrev pub is_neutral : List ℕ → Bool
is_neutral text = is_neutral_load text || (is_neutral_image text || (is_neutral_scale_or_rotation text || (is_name text || is_attribute text)))

-- a transformation of apertures (4.9) or, deprecated, an offset
abbrev pub is_transform_or_offset : List ℕ → Bool
is_transform_or_offset text = begins text (codes "LM") || (begins text (codes "LR") || (begins text (codes "LS") || begins text (codes "OF")))

-- a deprecated transformation of the whole image
abbrev pub is_image_transform : List ℕ → Bool
is_image_transform text = begins text (codes "AS") || (begins text (codes "MI") || (begins text (codes "SF") || begins text (codes "IR")))

-- How another extended word is refused: macros (4.5), blocks (4.11), clear polarity (4.9.2), a negative image and
-- transformations.
unfoldable pub kind_of : List ℕ → GerberKind
kind_of text =
    if begins text (codes "AM") then kind.Macro
    else (if begins text (codes "AB") then kind.Block
    else (if is_word text (codes "LPC") then kind.ClearPolarity
    else (if is_word text (codes "IPNEG") then kind.NegativeFile
    else (if is_transform_or_offset text || is_image_transform text then kind.Transform
    else kind.BadWord))))

-- The rows of extended words (Gerber Layer Format Specification): the format (4.2.2), definitions (4.3), units (4.2.1), step and
-- repeat (4.12), and what changes nothing.
unfoldable pub extended : List ℕ → Command
extended text =
    if begins text (codes "FS") then format_word text
    else (if begins text (codes "AD") then defines text
    else (if is_word text (codes "MOMM") then counts_in Mm
    else (if is_word text (codes "MOIN") then counts_in Inch
    else (if begins text (codes "SR") then repeats text
    else (if is_neutral text then nothing
    else refused (kind_of text))))))

-- an attribute of the file by its name, part 0: its function and its polarity say something of the layer
unfoldable pub named : List ℕ → Option Command
named text =
    if is_field (field_of text 0) (codes ".FileFunction") then Some (functions (field_of text 1) (field_of text 2))
    else (if is_field (field_of text 0) (codes ".FilePolarity") then Some (if is_field (field_of text 1) (codes "Negative") then refused kind.NegativeFile else nothing)
    else None)

-- attributes of the file alone say something
abbrev pub by_kind : AttributeKind → List ℕ → Option Command
by_kind File text = named text
by_kind other text = None

-- and words that are no attribute say nothing
abbrev pub said_by : Option PlainAttribute → Option Command
said_by None = None
said_by (Some a) = by_kind a.kind a.text

-- what an attribute says, and where that is nothing the other
abbrev pub else_by : Option Command → Command → Command
else_by None other = other
else_by (Some c) other = c

-- the command that a word is
unfoldable pub command_of : Entry → Command
command_of w = if w.extended then else_by (said_by (attribute_of w)) (extended w.text) else plain w.text
