-- What a command comes to: its work on the package, and then what is put.
use Rattle.std.specs.Prelude.{◌≡◌, ◌≤◌, ◌⊎◌, ℕ, List, Option, codes, ◌≢◌}
use Rattle.board_io.specs.Causes.{Rose}
use Rattle.board_io.specs.Package.{Files}
use Rattle.board_io.specs.Sink.{Gains, GainsFrontOf}
use Rattle.board_package.specs.PackageBoard.{Stop}
use Rattle.reports.specs.Notes.{line_of, status_of}
use Rattle.boardnet.specs.Kept.{Keeps}
use Rattle.reports.specs.Lines.{plain_line, file_line, Says}
use Rattle.boardnet.specs.Outcome.{Held, Told, Refused, ComesFor, OfFilesRead, OutcomeOf, Source}
use Rattle.boardnet.specs.Words.{Command, task_of}
use Rattle.reports.specs.declared.answer.Answer.{Answer}

-- the names of files in a command are texts, and its numbers are in range
abbrev pub HasNames : Command → Type 0
HasNames command = (task_of command).in_range

-- the stops of a command
abbrev pub StopsFor : Source → Command → Stop → Type 0
StopsFor source command stop = (task_of command).stops source stop

-- An answer that was put: whole, or cut at a fault of the output, which is status 5.
pub data Puts {S N : Type 0} (got : S → Option (List ℕ)) (broken : S → ℕ) (noted : N → Option (List ℕ)) (failed : N → ℕ) (answer : Answer) (o o' : S) (n n' : N) (status : ℕ) : Type 0 where
  whole : status ≡ status_of answer.note → Gains (got o) answer.text.items (got o') → Says noted failed n n' (line_of answer.note) → Puts got broken noted failed answer o o' n n' status
  cut : status ≡ 5 → Rose (broken o) (broken o') → GainsFrontOf (got o) answer.text.items (got o') → Says noted failed n n' (plain_line (codes "output cannot be written")) → Puts got broken noted failed answer o o' n n' status

-- the outcome of a command is a text
abbrev pub HasText : Source → Command → Type 0
HasText source command = (task_of command).has_text source

-- a command takes files of the package; a trial takes none
abbrev pub TakesFiles : Command → Type 0
TakesFiles command = (task_of command).takes

-- What a command comes to, by the status that it answers: of the package `p`, the output `o` and the notes `n`, before and
-- after.
pub record Ends {P S N : Type 0} (files : P → Option Files) (faults : P → ℕ) (lost : P → List ℕ) (got : S → Option (List ℕ)) (broken : S → ℕ) (noted : N → Option (List ℕ)) (failed : N → ℕ)
    (command : Command) (p p' : P) (o o' : S) (n n' : N) (status : ℕ) : Type 0 where
  pub few : status ≤ 6
  pub understood : status ≢ 2
  -- 0 and 1: the output got the command's text
  pub told : status ≤ 1 → OfFilesRead command (files p) (λ f. (text line : List ℕ) × OutcomeOf (Held f) command (Told text status line) × Gains (got o) text (got o') × Says noted failed n n' line)
  -- 3: the outcome is a refusal
  pub refused : status ≡ 3 → OfFilesRead command (files p) (λ f. (line : List ℕ) × OutcomeOf (Held f) command (Refused line) × Says noted failed n n' line)
  -- 4: a fault of reading a file, which comes next in the command's order
  pub unreadable : status ≡ 4 → Rose (faults p) (faults p') × Says noted failed n n' (file_line (lost p') (codes "cannot be read"))
  pub unread : status ≡ 4 → OfFilesRead command (files p) (λ f. ComesFor (Held f) command (lost p'))
  -- 5: a fault of writing, behind a front of the command's text
  pub unwritable : status ≡ 5 → Rose (broken o) (broken o') × Says noted failed n n' (plain_line (codes "output cannot be written"))
  pub front : status ≡ 5 → OfFilesRead command (files p) (λ f. (text line : List ℕ) × (s : ℕ) × OutcomeOf (Held f) command (Told text s line) × GainsFrontOf (got o) text (got o'))
  -- 6: want of memory
  pub memory : status ≡ 6 → Says noted failed n n' (plain_line (codes "out of memory"))
  -- what is left of the three
  pub silent : 2 ≤ status → status ≢ 5 → o' ≡ o
  pub kept : Keeps files faults lost p p' status
  pub later : (broken o ≤ broken o') × (failed n ≤ failed n')
  -- a text is put, unless reading or writing fails or memory is wanted
  pub complete : OfFilesRead command (files p) (λ f. HasText (Held f) command → (TakesFiles command → Rose (faults p) (faults p') → ⊥) → (Rose (broken o) (broken o') → ⊥) → (status ≤ 1) ⊎ (status ≡ 6))
