-- Laws of drill files.
use Rattle.std.specs.Prelude.{◌≡◌, ℕ, ◌+◌, ◌<◌, true, List, ◌∷◌, ◌++◌, take, is_some}
use Rattle.std.specs.List.{prefix_len}
use Rattle.board_shapes.specs.Plain.{PlainPiece}
use Rattle.file_reading.specs.Reading.{Clean}
use Rattle.texts.specs.Blanks.{is_blank}
use Rattle.texts.specs.Lines.{PlainLine, lines_of}
use Rattle.file_reading.specs.Kinds.{HaveOwnNumbers}
use Rattle.xnc.specs.Kind.{row_of}
use Rattle.xnc.specs.declared.kind.DrillKind.{DrillKind}
use Rattle.xnc.specs.declared.line.DrillLine.{DrillLine}
use Rattle.xnc.specs.declared.line.DrillLine.TheVariants as form
use Rattle.xnc.specs.Places.{Place}
use Rattle.xnc.specs.DrillLines.{form_of}
use Rattle.xnc.specs.DrillEffects.{diameter}
use Rattle.xnc.specs.Settings.{down_at, known_at, effect_at}
use Rattle.xnc.specs.DrillFile.{IsRead, IsRefused}

-- where the tool is down, a tool is selected and has a diameter
abbrev pub HasTool : Place → List DrillLine → Type 0
HasTool p earlier = Clean (effect_at p) earlier → down_at earlier ≡ true → is_some (diameter (known_at p earlier)) ≡ true

-- A line of the file is the end's: but for blanks at its ends it is `M30`.
pub record IsEndLine (file : List ℕ) (p : Place) (line : PlainLine) : Type 0 where
  pub before : List PlainLine
  pub after : List PlainLine
  pub among : lines_of file ≡ before ++ line ∷ after
  pub is : form_of p.from p.to line.text ≡ form.End

-- the place behind the line's three bytes, which stand behind its blanks in front
abbrev pub end_of : PlainLine → ℕ
end_of line = line.at + (prefix_len is_blank line.text + 3)

-- A file that is read has such a line. Without the three bytes of the line each prefix of the file is refused.
abbrev pub PrefixIsRefused : List ℕ → Place → Type 0
PrefixIsRefused file p =
    (pieces : List PlainPiece) → IsRead file p pieces →
    ((line : PlainLine) × IsEndLine file p line) ×
    ((line : PlainLine) → IsEndLine file p line → (n : ℕ) → n < end_of line →
    (why : DrillKind) × (number : ℕ) × (place : ℕ) × IsRefused (take n file) p why number place)

-- Each kind of refusal has a number of its own.
abbrev pub KindsHaveOwnNumbers : Type 0
KindsHaveOwnNumbers = HaveOwnNumbers row_of
