-- How a word is read in real copper: as where there are no arcs, with its curve, its quadrants and its offsets (Gerber Layer Format
-- Specification, 4.7 and 4.8).
use Rattle.std.specs.Prelude.{ℕ, Bool, true, false, ◌&&◌, ◌||◌, if◌then◌else◌, List, [], drop, codes, Option, Some, None}
use Rattle.texts.specs.Words.{begins, is_word}
use Rattle.gerber_words.specs.Words.{Entry}
use Rattle.gerber_layer.specs.MacroCommands.{macro_or}
use Rattle.gerber_layer.specs.WordCommands.{behind, behind_line_code, code_in, command_of, from_x, goes_on, is_empty, is_number_if, number_in, offsets_len}
use Rattle.gerber_reading.specs.Command.{Bending, Command, curves, nothing, operates, quarters, refused}
use Rattle.gerber_reading.specs.declared.kind.GerberKind.TheVariants as kind
use Rattle.gerber_reading.specs.declared.settings.Curve.{Curve}
use Rattle.gerber_reading.specs.declared.settings.Curve.TheVariants.{Line, Clockwise, Counterclockwise}
use Rattle.gerber_reading.specs.declared.settings.Quadrants.TheVariants.{Single, Multi}

-- behind a code without its 0 the word ends, or an operation begins: so it is told from longer codes
abbrev pub is_short : List ℕ → Bool
is_short text = goes_on (drop 2 text)

-- the curve that a word sets, alone or with an operation
abbrev pub curve_in : List ℕ → Option Curve
curve_in text =
    if begins text (codes "G01") || begins text (codes "G1") then Some Line
    else (if begins text (codes "G02") || (begins text (codes "G2") && is_short text) then Some Clockwise
    else (if begins text (codes "G03") || (begins text (codes "G3") && is_short text) then Some Counterclockwise
    else None))

-- what stands behind the code of a curve that a word may begin with
abbrev pub behind_short : List ℕ → List ℕ
behind_short text = if goes_on (drop 2 text) then drop 2 text else text

abbrev pub behind_code : List ℕ → List ℕ
behind_code text =
    if begins text (codes "G02") || begins text (codes "G03") then drop 3 text
    else (if begins text (codes "G2") || begins text (codes "G3") then behind_short text
    else behind_line_code text)

-- the letters before numbers, by their codes in ASCII
abbrev pub letter_i : ℕ
letter_i = 73

abbrev pub letter_j : ℕ
letter_j = 74

abbrev pub letter_x : ℕ
letter_x = 88

abbrev pub letter_y : ℕ
letter_y = 89

-- The numbers of I and J, from the offsets on; what begins a further offset behind them is one too many.
abbrev pub begins_offset : List ℕ → Bool
begins_offset text = begins text (codes "I") || begins text (codes "J")

abbrev pub bending : Option Curve → List ℕ → Bending
bending curve text = record { curve = curve; i = number_in letter_i text; j = number_in letter_j (behind letter_i text); more = begins_offset (behind letter_j (behind letter_i text)) }

-- an operation by its two numbers, and its text from the offsets on
unfoldable pub past_numbers : Option Curve → Option (List ℕ) → Option (List ℕ) → List ℕ → Command
past_numbers curve x y text =
    if is_number_if x && is_number_if y then operates x y (code_in (drop (offsets_len text) text)) (bending curve text) else refused kind.BadWord

-- by its text from X on, what it is where there are no arcs: refused for its offsets alone it is an operation with these
abbrev pub with_offsets : Option Curve → List ℕ → Command → Command
with_offsets curve text (refused kind.Arc) = past_numbers curve (number_in letter_x text) (number_in letter_y (behind letter_x text)) (behind letter_y (behind letter_x text))
with_offsets curve text (operates x y code b) = operates x y code (bending curve [])
with_offsets curve text other = other

unfoldable pub operation : Option Curve → List ℕ → Command
operation curve text = with_offsets curve text (from_x text)

-- the code of a curve alone, or before an operation
abbrev pub coded_by : Option Curve → List ℕ → Command
coded_by (Some curve) rest = if is_empty rest then curves curve else operation (Some curve) rest
coded_by None rest = operation None rest

unfoldable pub coded : List ℕ → Command
coded text = coded_by (curve_in text) (behind_code text)

-- a word that says nothing where there are no arcs
unfoldable pub idle : List ℕ → Command
idle text =
    if is_word text (codes "G74") then quarters Single
    else (if is_word text (codes "G75") then quarters Multi
    else (if is_word text (codes "G01") || is_word text (codes "G1") then curves Line
    else nothing))

-- a word that is refused as an arc where there are none
abbrev pub is_bent : Command → Bool
is_bent (refused kind.Arc) = true
is_bent other = false

-- a word that is this command also where there are no arcs
unfoldable pub unbent : Command → List ℕ → Command
unbent nothing text = idle text
unbent (operates x y code b) text = operates x y code (bending (curve_in text) [])
unbent other text = other

unfoldable pub bent : Command → List ℕ → Command
bent c text = if is_bent c then coded text else unbent c text

-- the command that a word is
abbrev pub real_command : Entry → Command
real_command w = macro_or (if w.extended then command_of w else bent (command_of w) w.text) w
