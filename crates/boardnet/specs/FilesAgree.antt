-- Files that agree with what was handed over: that there are some, unless one name was handed over twice with other bytes, and that
-- what is said of what was handed over holds of them.
use Rattle.std.specs.Prelude.{◌≡◌, ℕ, List, [], ◌∷◌, ◌++◌, Some}
use Rattle.std.specs.List.{AllByRecursion}
use Rattle.board_io.specs.Handed.{AgreeWith, File, Handed, Long}
use Rattle.board_io.specs.Package.{Files}
use Rattle.boardnet.specs.Outcome.{HandedOver, Held, OfFilesRead, Outcome, OutcomeOf}
use Rattle.boardnet.specs.Words.{Command}

-- the name that was asked for
abbrev pub name_in : Handed → List ℕ
name_in (File name bytes) = name
name_in (Long name most) = name

-- what was handed over under one name is one and the same
abbrev pub NamesAgree : List Handed → Type 0
NamesAgree [] = Unit {0}
NamesAgree (h ∷ rest) = AllByRecursion (λ o. name_in h ≡ name_in o → o ≡ h) rest × NamesAgree rest

abbrev pub FilesAgree : Type 0
FilesAgree = (before gained : List Handed) → NamesAgree gained → (files : Files) × AgreeWith files before (before ++ gained)

-- What a command comes to by what was handed over it comes to by all files that agree.
abbrev pub OutcomesAgree : Type 0
OutcomesAgree = (files : Files) (before after : List Handed) (command : Command) (outcome : Outcome) → AgreeWith files before after → OutcomeOf (HandedOver before after) command outcome
    → OfFilesRead command (Some files) (λ f. OutcomeOf (Held f) command outcome)
