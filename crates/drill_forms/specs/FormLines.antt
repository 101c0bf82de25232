-- How a line is read by itself: as `check` reads it, and where that says nothing or refuses it by further forms.
use Rattle.std.specs.Prelude.{ℕ, ◌-◌, Bool, true, false, ◌&&◌, ◌||◌, not, ◌==◌, nat_le, if◌then◌else◌, List, [], ◌∷◌, length, take, drop, codes, Option, Some, None}
use Rattle.std.specs.List.{list_all, list_any, before_first, after_first, prefix_len}
use Rattle.texts.specs.Digits.{is_decimal_digit}
use Rattle.texts.specs.Blanks.{trimmed}
use Rattle.texts.specs.Words.{is_word, begins}
use Rattle.lengths.specs.Decimal.{Fraction, decimal, is_point}
use Rattle.lengths.specs.declared.decimal.Unit.{Unit as Measure}
use Rattle.lengths.specs.declared.decimal.Unit.TheVariants.{Mm, Inch}
use Rattle.xnc.specs.declared.kind.DrillKind.TheVariants as kind
use Rattle.xnc.specs.declared.line.Coordinates.{Coordinates}
use Rattle.xnc.specs.declared.line.DrillLine.{DrillLine}
use Rattle.xnc.specs.declared.line.DrillLine.TheVariants as line
use Rattle.xnc.specs.DrillLines as narrow
use Rattle.xnc.specs.DrillLines.{field, further, names_span, is_y, is_g, is_c, tool_number, defines}
use Rattle.drill_forms.specs.declared.form.Zeros.{Zeros}
use Rattle.drill_forms.specs.declared.form.Zeros.TheVariants.{Leading, Trailing}
use Rattle.drill_forms.specs.declared.form.Layout.{Layout}
use Rattle.drill_forms.specs.Numbers.{Number, number_of}
use Rattle.drill_forms.specs.declared.form.Along.{Along}
use Rattle.drill_forms.specs.declared.form.FormLine.{FormLine}
use Rattle.drill_forms.specs.declared.form.FormLine.TheVariants as form

-- ---- Numbers without a point

abbrev pub only_x : Option Number → Option Along
only_x None = None
only_x (Some x) = Some (record { x = Some x; y = None })

abbrev pub only_y : Option Number → Option Along
only_y None = None
only_y (Some y) = Some (record { x = None; y = Some y })

abbrev pub both : Option Number → Option Number → Option Along
both (Some x) (Some y) = Some (record { x = Some x; y = Some y })
both x y = None

-- a place is written as in `check`'s dialect
unfoldable pub behind_x : List ℕ → Option Along
behind_x text = if list_any is_y text then both (number_of (before_first is_y text)) (number_of (after_first is_y text)) else only_x (number_of text)

unfoldable pub along_of : List ℕ → Option Along
along_of [] = None
along_of (c ∷ text) = if c == 88 then behind_x text else (if c == 89 then only_y (number_of text) else None)

abbrev pub form_with : (Along → FormLine) → Option Along → FormLine
form_with make None = form.Says line.Unknown
form_with make (Some along) = make along

abbrev pub slots : Option Along → Option Along → FormLine
slots (Some from) (Some to) = form.Slot from to
slots from to = form.Says line.Unknown

-- the line has the form of a slot: its second place stands behind `G85`
unfoldable pub slot_form : List ℕ → FormLine
slot_form text = slots (along_of (before_first is_g text)) (along_of (drop 2 (after_first is_g text)))

-- ---- Comments

-- one digit, a colon, one digit
unfoldable pub counts_of : List ℕ → FormLine
counts_of (a ∷ colon ∷ b ∷ []) = if colon == 58 && (is_decimal_digit a && is_decimal_digit b) then form.Counts (record { whole = a - 48; places = b - 48 }) else form.Says line.Blank
counts_of other = form.Says line.Blank

abbrev pub is_slash : ℕ → Bool
is_slash b = b == 47

-- the attribute of the next tool (XNC Format Specification, "Attributes"), by its fields
unfoldable pub attribute : List ℕ → FormLine
attribute fields =
    if is_word (field fields) (codes "Plated") then form.Next true
    else (if is_word (field fields) (codes "NonPlated") then form.Next false
    else form.Untold)

-- a comment on how many digits numbers have: `;FILE_FORMAT=i:d` as Altium writes, `; FORMAT={i:d/..}` as KiCad writes
unfoldable pub layout_comment : List ℕ → FormLine
layout_comment text =
    if begins text (codes ";FILE_FORMAT=") then counts_of (drop 13 text)
    else (if begins text (codes "; FORMAT={") then counts_of (before_first is_slash (drop 10 text))
    else form.Says line.Blank)

-- a comment that `check` passes by: `; #@! TA.AperFunction,..` and `; #@! TD` as KiCad and LibrePCB write, `;TYPE=..` as Altium writes,
-- and those on digits
unfoldable pub comment : List ℕ → FormLine
comment text =
    if is_word text (codes ";TYPE=PLATED") then form.Lasting true
    else (if is_word text (codes ";TYPE=NON_PLATED") then form.Lasting false
    else (if begins text (codes "; #@! TA.AperFunction,") then attribute (drop 22 text)
    else (if begins text (codes "; #@! TD") then form.Untold
    else (if begins text (codes "; #@! TF.FileFunction,") then form.Function false
    else layout_comment text))))

-- a file function `MixedPlating` (XNC Format Specification, "Attributes"; KiCad writes it) with the span's layers
unfoldable pub mixed : ℕ → ℕ → List ℕ → FormLine
mixed from to text = if names_span from to (further (drop 22 text)) then form.Function true else form.Says (line.Misfit kind.WrongSpan)

-- ---- Further words

abbrev pub is_zero : ℕ → Bool
is_zero b = b == 48

-- 1 to 9 zeros, a point, 1 to 9 zeros: how many digits numbers have (as Eagle and pcb-rnd write behind the unit)
abbrev pub is_run : List ℕ → Bool
is_run zeros = nat_le 1 (length zeros) && (nat_le (length zeros) 9 && list_all is_zero zeros)

unfoldable pub layout_of : List ℕ → Option Layout
layout_of text =
    if is_run (before_first is_point text) && is_run (after_first is_point text) then Some (record { whole = length (before_first is_point text); places = length (after_first is_point text) })
    else None

abbrev pub units_with : Measure → Option Zeros → Option Layout → FormLine
units_with unit zeros None = form.Says line.Unknown
units_with unit zeros (Some layout) = form.Units unit zeros (Some layout)

-- what stands behind a unit and its zeros: nothing, or the layout of numbers
unfoldable pub units_behind : Measure → Option Zeros → List ℕ → FormLine
units_behind unit zeros text =
    if begins text (codes ",") then units_with unit zeros (layout_of (drop 1 text))
    else (if nat_le (length text) 0 then form.Units unit zeros None else form.Says line.Unknown)

-- what stands behind a unit: which zeros stand (Excellon: `LZ` the leading ones, `TZ` the trailing ones), and the layout
unfoldable pub units : Measure → List ℕ → FormLine
units unit text =
    if begins text (codes ",LZ") then units_behind unit (Some Leading) (drop 3 text)
    else (if begins text (codes ",TZ") then units_behind unit (Some Trailing) (drop 3 text)
    else units_behind unit None text)

-- the zeros that stand behind a unit
abbrev pub zeros_of : List ℕ → Option Zeros
zeros_of text = if begins text (codes ",LZ") then Some Leading else (if begins text (codes ",TZ") then Some Trailing else None)

-- the letters of a tool: its diameter C, feed F, speed S, retract B, hits H, depth Z (Excellon)
abbrev pub is_letter : ℕ → Bool
is_letter b = b == 67 || (b == 70 || (b == 83 || (b == 66 || (b == 72 || b == 90))))

-- what stands before the first letter
abbrev pub is_no_letter : ℕ → Bool
is_no_letter b = not (is_letter b)

abbrev pub before_letter : List ℕ → List ℕ
before_letter text = take (prefix_len is_no_letter text) text

-- a digit, a point or a sign
abbrev pub is_figure : ℕ → Bool
is_figure b = is_decimal_digit b || (b == 46 || (b == 43 || b == 45))

abbrev pub is_tool_byte : ℕ → Bool
is_tool_byte b = is_letter b || is_figure b

-- a tool with one diameter among letters and numbers; those of other letters are not judged
unfoldable pub tool_form : List ℕ → FormLine
tool_form text =
    if list_all is_tool_byte text && not (list_any is_c (after_first is_c text)) then form.Says (defines (tool_number (before_letter text)) (decimal (before_letter (after_first is_c text))))
    else form.Says line.Unknown

-- a line of feeds and speeds alone
abbrev pub is_feed_byte : ℕ → Bool
is_feed_byte b = b == 70 || (b == 83 || is_figure b)

abbrev pub is_feed : List ℕ → Bool
is_feed text = (begins text (codes "F") || begins text (codes "S")) && list_all is_feed_byte text

-- Words that say what is in force without them, or how the machine runs (Excellon): no increments of places, version 1, no cutter
-- compensation, changes of tools, detection of broken ones, feeds and speeds.
unfoldable pub is_idle : List ℕ → Bool
is_idle text = is_word text (codes "ICI,OFF") || (is_word text (codes "VER,1") || (is_word text (codes "G40") || (is_word text (codes "ATC,ON") || (is_word text (codes "ATC,OFF") || (is_word text (codes "DETECT,ON") || (is_word text (codes "DETECT,OFF") || is_feed text))))))

-- A line of no form of `check`'s dialect. Excellon has `M71` for millimetres, `M72` for inches, `M95` for the header's end, and `M17`,
-- which retracts the tool without clamping as `M16` does with it.
unfoldable pub more_words : List ℕ → FormLine
more_words text =
    if is_word text (codes "M71") then form.Units Mm None None
    else (if is_word text (codes "M72") then form.Units Inch None None
    else (if is_word text (codes "M95") then form.Ends
    else (if is_word text (codes "M17") then form.Lift
    else (if is_idle text then form.Idle
    else (if begins text (codes "METRIC") then units Mm (drop 6 text)
    else (if begins text (codes "INCH") then units Inch (drop 4 text)
    else (if begins text (codes "T") then tool_form (drop 1 text)
    else form.Says line.Unknown)))))))

-- ---- All together

-- a coordinate has a point, or is not named
abbrev pub has_point : Option Fraction → Bool
has_point None = true
has_point (Some d) = d.pointed

abbrev pub have_points : Coordinates → Bool
have_points c = has_point c.x && has_point c.y

-- by what the line says in `check`'s dialect
unfoldable pub widened : ℕ → ℕ → DrillLine → List ℕ → FormLine
widened from to line.Blank text = comment text
widened from to (line.Misfit kind.MixedPlating) text = mixed from to text
widened from to (line.Unit Mm) text = form.Units Mm (zeros_of (drop 6 text)) None
widened from to (line.Unit Inch) text = form.Units Inch (zeros_of (drop 4 text)) None
widened from to line.Unknown text = more_words text
widened from to (line.Rout c) text = if have_points c then form.Says (line.Rout c) else form_with form.Rout (along_of (drop 3 text))
widened from to (line.Straight c) text = if have_points c then form.Says (line.Straight c) else form_with form.Straight (along_of (drop 3 text))
widened from to (line.Hit c) text = if have_points c then form.Says (line.Hit c) else form_with form.Hit (along_of text)
widened from to (line.Slot c d) text = if have_points c && have_points d then form.Says (line.Slot c d) else slot_form text
widened from to other text = form.Says other

-- The form of a line in a file of this span. Blanks at both ends of the line mean nothing.
unfoldable pub form_of : ℕ → ℕ → List ℕ → FormLine
form_of from to text = widened from to (narrow.form_of from to text) (trimmed text)
