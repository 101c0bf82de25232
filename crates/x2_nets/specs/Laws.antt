-- Laws of labels.
use Rattle.std.specs.Prelude.{◌≡◌, ℕ, List}
use Rattle.file_reading.specs.Reading as reading
use Rattle.x2_nets.specs.Labels.{Said, IsRead, IsRefused, before_command, label_before, labels_of, name_at}

-- The list of labels knows what looking back over the words finds.
abbrev pub LooksBack : Type 0
LooksBack = (earlier : List Said) (command : ℕ) → name_at (labels_of earlier) command ≡ label_before (before_command command earlier)

-- Each file has one answer: its labels, or the first name that is amiss.
abbrev pub HasOneAnswer : List ℕ → Type 0
HasOneAnswer file = reading.HasOneAnswer (IsRead file) (IsRefused file)
