-- What the reader keeps.
use Rattle.std.specs.Prelude.{◌≡◌, ℕ, ◌+◌, Bool, true, false, ◌==◌, if◌then◌else◌, List, [], ◌++◌, nat_eq, is_some, Ok}
use Rattle.std.specs.HashMap.{get}
use Rattle.board_shapes.specs.Plain.{plain_pieces}
use Rattle.board_shapes.specs.declared.shape.Shape.{Shape}
use Rattle.board_shapes.specs.declared.placed.Placed.{Placed}
use Rattle.file_reading.specs.declared.halt.Halt.{Halt}
use Rattle.xnc.specs.declared.kind.DrillKind.{DrillKind}
use Rattle.xnc.specs.declared.kind.DrillFault.{DrillFault}
use Rattle.xnc.specs.declared.line.DrillLine.{DrillLine}
use Rattle.xnc.specs.declared.line.DrillLine.TheVariants as line
use Rattle.xnc.specs.Places.{Place}
use Rattle.xnc.specs.DrillEffects.{Effect, effect, after}
use Rattle.xnc.specs.Reader.{Halts, IsNew, Turns, fault_at, known_of, place_of}
use Rattle.xnc.specs.Settings.{piece_of}
use Rattle.drill_forms.specs.declared.form.FormLine.{FormLine}
use Rattle.drill_forms.specs.declared.form.FormLine.TheVariants as form
use Rattle.drill_forms.specs.declared.notes.Words.{Words}
use Rattle.drill_forms.specs.declared.notes.Bares.{Bares}
use Rattle.drill_forms.specs.declared.form_reader.FormReader.{FormReader}
use Rattle.drill_forms.specs.Meaning.{is_bare, line_in, noted}
use Rattle.drill_forms.specs.History.{words_at, bare_tool, kept}

-- the tool of this number makes no barrels
abbrev pub bare_in : Bares → ℕ → Bool
bare_in b n = is_some (get nat_eq b.numbers n)

-- what a line means to the reader
abbrev pub line_for : FormReader → FormLine → DrillLine
line_for r f = line_in r.reader.settings r.words f

abbrev pub is_bare_for : FormReader → Bool
is_bare_for r = bare_tool r.reader.settings.tool (bare_in r.bares)

-- the tools that make no barrels, behind a line
abbrev pub bare_after : Words → (ℕ → Bool) → FormLine → ℕ → Bool
bare_after w bare (form.Says (line.Tool m d)) n = if is_bare w then (if m == n then true else bare n) else bare n
bare_after w bare other n = bare n

-- The reader has obeyed a line that has no fault.
pub record Obeys (old : FormReader) (f : FormLine) (new : FormReader) : Type 0 where
  pub effect_is : Effect
  pub clean : effect (known_of old.reader) (line_for old f) ≡ Ok effect_is
  pub settings : new.reader.settings ≡ after old.reader.settings (line_for old f) effect_is
  pub tools : Turns old.reader.tools effect_is new.reader.tools
  pub pieces : plain_pieces new.reader.pieces.items ≡ plain_pieces old.reader.pieces.items ++ kept (is_bare_for old) (piece_of (place_of old.reader) (old.reader.lines + 1) (Ok effect_is))
  pub counts : new.reader.lines ≡ old.reader.lines + 1
  pub place : place_of new.reader ≡ place_of old.reader
  pub words : new.words ≡ noted old.words f
  pub bares : (n : ℕ) → bare_in new.bares n ≡ bare_after old.words (bare_in old.bares) f n

-- a reader that has obeyed nothing
pub record IsNewReader (p : Place) (r : FormReader) : Type 0 where
  pub reader : IsNew p r.reader
  pub words : r.words ≡ words_at []
  pub bares : (n : ℕ) → bare_in r.bares n ≡ false

-- The reader obeys a last line, and these pieces are left.
pub record Leaves (r : FormReader) (f : FormLine) (pieces : List (Placed Shape)) : Type 0 where
  pub last : FormReader
  pub obeys : Obeys r f last
  pub are : pieces ≡ last.reader.pieces.items

-- the fault of a line that stands at a place
pub record Faults (r : FormReader) (f : FormLine) (at : ℕ) (why : DrillFault) : Type 0 where
  pub halt : Halt DrillKind
  pub halts : Halts (known_of r.reader) (line_for r f) halt
  pub is : why ≡ fault_at halt (r.reader.lines + 1) at
