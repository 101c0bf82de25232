-- Laws of drill files as tools write them.
use Rattle.std.specs.Prelude.{◌≡◌, ℕ, ◌<◌, Bool, true, false, List, ◌∷◌, ◌++◌, take}
use Rattle.std.specs.List.{list_any}
use Rattle.board_shapes.specs.Plain.{PlainPiece}
use Rattle.file_reading.specs.Reading.{said}
use Rattle.texts.specs.Lines.{PlainLine, lines_of}
use Rattle.xnc.specs.declared.kind.DrillKind.{DrillKind}
use Rattle.xnc.specs.declared.line.DrillLine.TheVariants as said_line
use Rattle.xnc.specs.DrillFile as narrow
use Rattle.xnc.specs.Laws.{end_of}
use Rattle.xnc.specs.Places.{Place}
use Rattle.drill_forms.specs.declared.form.FormLine.{FormLine}
use Rattle.drill_forms.specs.declared.form.FormLine.TheVariants as form
use Rattle.drill_forms.specs.FormFile.{IsRead, IsRefused, items}
use Rattle.drill_forms.specs.FormLines.{form_of}

-- a line says of tools whether they are plated
abbrev pub says_plating : FormLine → Bool
says_plating (form.Lasting plated) = true
says_plating (form.Next plated) = true
says_plating (form.Function mixed) = mixed
says_plating other = false

-- The barrels that `check` reads are those that are read here, where no line says of tools whether they are plated: to `check` such a
-- line is a comment.
abbrev pub TakesTheSame : List ℕ → Place → Type 0
TakesTheSame file p = (pieces : List PlainPiece) → list_any says_plating (said (items p file)) ≡ false → narrow.IsRead file p pieces → IsRead file p pieces

-- A line of the file is the end's: but for blanks at its ends it is `M30`.
pub record IsEndLine (file : List ℕ) (p : Place) (line : PlainLine) : Type 0 where
  pub before : List PlainLine
  pub after : List PlainLine
  pub among : lines_of file ≡ before ++ line ∷ after
  pub is : form_of p.from p.to line.text ≡ form.Says said_line.End

-- A file that is read has such a line. Without the three bytes of the line each prefix of the file is refused.
abbrev pub PrefixIsRefused : List ℕ → Place → Type 0
PrefixIsRefused file p =
    (pieces : List PlainPiece) → IsRead file p pieces →
    ((line : PlainLine) × IsEndLine file p line) ×
    ((line : PlainLine) → IsEndLine file p line → (n : ℕ) → n < end_of line →
    (why : DrillKind) × (number : ℕ) × (place : ℕ) × IsRefused (take n file) p why number place)
