-- Laws of netlists as tools write them.
use Rattle.std.specs.Prelude.{◌≡◌, ℕ, ◌+◌, ◌<◌, List, ◌∷◌, ◌++◌, take}
use Rattle.board_shapes.specs.declared.probe.Probe.{Probe}
use Rattle.ipc356_records.specs.NetlistFile as narrow
use Rattle.texts.specs.Lines.{PlainLine, lines_of}
use Rattle.ipc356_records.specs.declared.kind.RecordKind.{RecordKind}
use Rattle.ipc356_records.specs.Line.{ends}
use Rattle.net_forms.specs.NetFile.{IsRead, IsRefused}
use Rattle.net_forms.specs.NetLines.{form_of}

-- The probes and names that `check` reads are those that are read here.
abbrev pub TakesTheSame : List ℕ → ℕ → Type 0
TakesTheSame file layers = (probes : List Probe) (names : List (List ℕ)) → narrow.IsRead file layers probes names → IsRead file layers probes names

-- A line of the file is the end's: its code is `999`, in its first three columns.
pub record IsEndLine (file : List ℕ) (line : PlainLine) : Type 0 where
  pub before : List PlainLine
  pub after : List PlainLine
  pub among : lines_of file ≡ before ++ line ∷ after
  pub is : form_of line.text ≡ ends

-- A file that is read has such a line. Without the three bytes of the line's code each prefix of the file is refused.
abbrev pub PrefixIsRefused : List ℕ → ℕ → Type 0
PrefixIsRefused file layers =
    (probes : List Probe) (names : List (List ℕ)) → IsRead file layers probes names →
    ((line : PlainLine) × IsEndLine file line) ×
    ((line : PlainLine) → IsEndLine file line → (n : ℕ) → n < line.at + 3 →
    (why : RecordKind) × (number : ℕ) × IsRefused (take n file) layers why number)
