-- How a line is read by itself: as `check` reads it, and where that knows no form by further forms.
use Rattle.std.specs.Prelude.{ℕ, not, if◌then◌else◌, List, [], ◌∷◌, codes, Option, Some, None}
use Rattle.texts.specs.Words.{begins, is_word}
use Rattle.lengths.specs.declared.decimal.Unit.{Unit as Measure}
use Rattle.lengths.specs.declared.decimal.Unit.TheVariants.{Mm}
use Rattle.ipc356_records.specs.Columns.{line_to, part, words}
use Rattle.ipc356_records.specs.Line.{RecordLine, units, tests, unknown}
use Rattle.ipc356_records.specs.RecordLines as narrow
use Rattle.ipc356_records.specs.RecordLines.{fields_in}

-- `P  UNITS SI` counts in 0.001 mm, as `CUST 1` does (IPC-D-356A, parameters)
unfoldable pub units_of : List (List ℕ) → Option Measure
units_of (first ∷ word ∷ []) = if not (is_word word (codes "SI")) then None else Some Mm
units_of other = None

-- A record 307 (IPC-D-356A: a blind or buried via) is a test record. Without an access it says a place and no layer, and stays refused.
unfoldable pub further : List ℕ → RecordLine
further text = if not (begins text (codes "307")) then unknown else tests (fields_in text)

-- by what the line says to `check`
abbrev pub widened : RecordLine → List ℕ → RecordLine
widened unknown text = further text
widened (units None) text = units (units_of (words (part 2 line_to text)))
widened other text = other

-- The form of a line.
unfoldable pub form_of : List ℕ → RecordLine
form_of text = widened (narrow.form_of text) text
