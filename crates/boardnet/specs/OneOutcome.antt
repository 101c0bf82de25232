-- That a command has one outcome, but for its text: over the files that a package holds, and over what it handed over.
use Rattle.std.specs.Prelude.{◌≡◌, List, ◌++◌, Some}
use Rattle.board_io.specs.Handed.{Handed}
use Rattle.board_io.specs.Package.{Files}
use Rattle.boardnet.specs.FilesAgree.{NamesAgree}
use Rattle.boardnet.specs.Outcome.{HandedOver, Held, OfFilesRead, Outcome, OutcomeOf, Refused, Told}
use Rattle.boardnet.specs.Words.{Command}

-- The same status and line, or the same line of a refusal. Of the texts nothing is said.
abbrev pub AreAlike : Outcome → Outcome → Type 0
AreAlike (Told text status line) (Told other s l) = (status ≡ s) × (line ≡ l)
AreAlike (Told text status line) (Refused l) = ⊥
AreAlike (Refused line) (Told other s l) = ⊥
AreAlike (Refused line) (Refused l) = line ≡ l

-- Two outcomes of a command over the same files are alike.
abbrev pub OneOutcome : Type 0
OneOutcome = (files : Files) (command : Command) (outcome other : Outcome)
    → OfFilesRead command (Some files) (λ f. OutcomeOf (Held f) command outcome) → OfFilesRead command (Some files) (λ f. OutcomeOf (Held f) command other) → AreAlike outcome other

-- So are its outcomes in two calls that were handed over the same, unless a name was handed over twice with other bytes.
abbrev pub OneHandedOutcome : Type 0
OneHandedOutcome = (first second gained : List Handed) (command : Command) (outcome other : Outcome) → NamesAgree gained
    → OutcomeOf (HandedOver first (first ++ gained)) command outcome → OutcomeOf (HandedOver second (second ++ gained)) command other → AreAlike outcome other
