-- What the commands come to by the files that the package handed over in the call, whether it tells what it holds or not.
use Rattle.std.specs.Prelude.{◌≡◌, ◌≤◌, ℕ, List, [], ◌∷◌, ◌++◌, MatchResult, Option, Result}
use Rattle.board_io.specs.Handed.{Handed}
use Rattle.board_io.specs.Sink.{Gains, GainsFrontOf}
use Rattle.board_package.specs.Causes.{HandedCause}
use Rattle.boardnet.specs.Answers.{IsAnswerTo}
use Rattle.boardnet.specs.Ends.{StopsFor}
use Rattle.reports.specs.Lines.{Says}
use Rattle.boardnet.specs.Outcome.{ComesFor, HandedOver, OutcomeOf, Refused, Source, Told}
use Rattle.boardnet.specs.Words.{Command, task_of}
use Rattle.reports.specs.declared.answer.Answer.{Answer}
use Rattle.boardnet.specs.declared.answer.Unanswered.{Unanswered}
use Rattle.boardnet.specs.declared.answer.Unanswered.TheVariants.{Stopped}

-- why a command has no answer
abbrev pub HasHandedReason : Source → Command → ℕ → ℕ → List ℕ → Unanswered → Type 0
HasHandedReason source command before now lost (Stopped why) = HandedCause (λ stop. StopsFor source command stop) (λ name. ComesFor source command name) before now lost why
HasHandedReason source command before now lost other = (task_of command).refuses source other

-- The work of a command on what was handed over to it: an answer that is its outcome, or a reason why it has none.
abbrev pub WorksOn : {P : Type 0} → (P → List Handed) → (P → ℕ) → (P → List ℕ) → Command → P → P → Result Answer Unanswered → Type 0
WorksOn handed faults lost command old new result =
    MatchResult result (IsAnswerTo (HandedOver (handed old) (handed new)) command) (HasHandedReason (HandedOver (handed old) (handed new)) command (faults old) (faults new) (lost new))

-- What a command comes to, by the status that it answers, of what was handed over to it: of the output `o` and the notes `n`,
-- before and after, and the name of the last file that could not be read.
pub record EndsHanded {S N : Type 0} (source : Source) (command : Command) (lost : List ℕ) (handed : S → List (List ℕ)) (got : S → Option (List ℕ)) (noted : N → Option (List ℕ)) (failed : N → ℕ) (o o' : S) (n n' : N) (status : ℕ) : Type 0 where
  -- 0 and 1: the output was handed the command's text, in one piece, and got it
  pub told : status ≤ 1 → (text line : List ℕ) × OutcomeOf source command (Told text status line) × (handed o' ≡ handed o ++ text ∷ []) × Gains (got o) text (got o') × Says noted failed n n' line
  -- 3: the outcome is a refusal
  pub refused : status ≡ 3 → (line : List ℕ) × OutcomeOf source command (Refused line) × Says noted failed n n' line
  -- 4: the file that cannot be read comes next
  pub unread : status ≡ 4 → ComesFor source command lost
  -- 5: the output was handed the text in one piece, and got a front of it
  pub front : status ≡ 5 → (text line : List ℕ) × (s : ℕ) × OutcomeOf source command (Told text s line) × (handed o' ≡ handed o ++ text ∷ []) × GainsFrontOf (got o) text (got o')
