-- From what a command says of what was handed over to it to what it comes to, and to all files that agree.
use Rattle.std.proofs.Common.{◌≡◌, ◌≤◌, inl, inr, ℕ, List, [], ◌∷◌, ◌++◌, Option, Some, None, Result, Ok, Err, IfOk, MatchResult, refl, sym, subst, arith}
use Rattle.board_io.specs.Handed.{Handed}
use Rattle.board_io.specs.Package.{Files}
use Rattle.board_package.proofs.Lift.{retold}
use Rattle.board_package.specs.PackageBoard.{Stop, longer, not_json, bad_manifest, refused, frame_too_large}
use Rattle.board_package.specs.declared.fault.BuildFault.{BuildFault}
use Rattle.board_package.specs.declared.fault.BuildFault.TheVariants as fault
use Rattle.board_package.specs.declared.contents.Refusal.TheVariants as refusal
use Rattle.boardnet.proofs.Ending.{HasReason, Works, small_status}
use Rattle.boardnet.proofs.Sound.{HoldsHanded}
use Rattle.boardnet.specs.Answers.{IsAnswerTo, RefusesFor, subject_of}
use Rattle.reports.specs.Notes.{line_of, status_of}
use Rattle.boardnet.specs.Ends.{Puts, StopsFor, cut, whole}
use Rattle.boardnet.specs.HandedOutcome.{EndsHanded, HasHandedReason, WorksOn}
use Rattle.boardnet.specs.Kept.{LeftBy, Spares}
use Rattle.reports.specs.Lines.{Says}
use Rattle.boardnet.specs.Outcome.{ComesFor, HandedOver, Held, IsLineOf, OutcomeOf, Refused, Source, Told, read_by}
use Rattle.boardnet.specs.Words.{Command}
use Rattle.reports.specs.declared.answer.Answer.{Answer}
use Rattle.boardnet.specs.declared.answer.Unanswered.{Unanswered}
use Rattle.boardnet.specs.declared.answer.Unanswered.TheVariants.{Stopped}

-- ---- Why there is no answer

-- The three ways to have none: the command is refused; a file cannot be read; memory is wanted.
data Reason (source : Source) (c : Command) (lost : List ℕ) (status : ℕ) (Line : List ℕ → Type 0) : Type 0 where
  refusal_of : (line : List ℕ) → status ≡ 3 → OutcomeOf source c (Refused line) → Line line → Reason source c lost status Line
  unread_of : status ≡ 4 → ComesFor source c lost → Reason source c lost status Line
  wanting : status ≡ 6 → Reason source c lost status Line

stopped_by : (source : Source) (c : Command) (lost : List ℕ) (status : ℕ) (Line : List ℕ → Type 0) (stop : Stop) (line : List ℕ)
    → status ≡ 3 → Line line → IsLineOf (subject_of c) stop line → StopsFor source c stop → Reason source c lost status Line
stopped_by source c lost status Line stop line three said is s = refusal_of line three (inl (stop, s, is)) said

stopped_reason : (source : Source) (c : Command) (before now : ℕ) (lost : List ℕ) (status : ℕ) (Line : List ℕ → Type 0) (why : BuildFault)
    → RefusesFor c (Stopped why) status Line → HasHandedReason source c before now lost (Stopped why) → Reason source c lost status Line
stopped_reason source c before now lost status Line fault.NotJson said h = stopped_by source c lost status Line not_json _ said.0 said.1 refl h
stopped_reason source c before now lost status Line fault.BadManifest said h = stopped_by source c lost status Line bad_manifest _ said.0 said.1 refl h
stopped_reason source c before now lost status Line (fault.Longer name) said h = stopped_by source c lost status Line (longer name) _ said.0 said.1 refl h
stopped_reason source c before now lost status Line (fault.CannotRead name) said h = unread_of said.0 (subst (λ (z : List ℕ). ComesFor source c z) (sym h.lost_is) h.comes)
stopped_reason source c before now lost status Line (fault.Layer name kind command at) said h = stopped_by source c lost status Line (refused name (refusal.Layer kind command at)) _ said.0 said.1 refl h
stopped_reason source c before now lost status Line (fault.Drill name kind line at) said h = stopped_by source c lost status Line (refused name (refusal.Drill kind line at)) _ said.0 said.1 refl h
stopped_reason source c before now lost status Line (fault.Netlist name kind line) said h = stopped_by source c lost status Line (refused name (refusal.Netlist kind line)) _ said.0 said.1 refl h
stopped_reason source c before now lost status Line (fault.FrameTooLarge box) said h = stopped_by source c lost status Line (frame_too_large box) _ said.0 said.1 refl h
stopped_reason source c before now lost status Line fault.NoMemory said h = wanting said.0

reason_of : (source : Source) (c : Command) (before now : ℕ) (lost : List ℕ) (status : ℕ) (Line : List ℕ → Type 0) (why : Unanswered)
    → RefusesFor c why status Line → HasHandedReason source c before now lost why → Reason source c lost status Line
reason_of source c before now lost status Line (Stopped why) said h = stopped_reason source c before now lost status Line why said h
reason_of source c before now lost status Line other said h = refusal_of _ said.0 (inr (other, h, refl)) said.1

-- ---- What a command comes to

-- no answer
ends_without : {S N : Type 0} (source : Source) (c : Command) (lost : List ℕ) (handed : S → List (List ℕ)) (got : S → Option (List ℕ)) (noted : N → Option (List ℕ)) (failed : N → ℕ) (o o' : S) (n n' : N) (status : ℕ)
    → Reason source c lost status (Says noted failed n n') → EndsHanded source c lost handed got noted failed o o' n n' status
ends_without source c lost handed got noted failed o o' n n' status (refusal_of line is outcome said) = record {
  told = λ le. absurd (omega (arith, is, le));
  refused = λ three. (line, outcome, said);
  unread = λ four. absurd (omega (arith, is, four));
  front = λ five. absurd (omega (arith, is, five));
}
ends_without source c lost handed got noted failed o o' n n' status (unread_of is comes) = record {
  told = λ le. absurd (omega (arith, is, le));
  refused = λ three. absurd (omega (arith, is, three));
  unread = λ four. comes;
  front = λ five. absurd (omega (arith, is, five));
}
ends_without source c lost handed got noted failed o o' n n' status (wanting is) = record {
  told = λ le. absurd (omega (arith, is, le));
  refused = λ three. absurd (omega (arith, is, three));
  unread = λ four. absurd (omega (arith, is, four));
  front = λ five. absurd (omega (arith, is, five));
}

pub ends_handed : {S N : Type 0} (source : Source) (c : Command) (before now : ℕ) (lost : List ℕ) (handed : S → List (List ℕ)) (got : S → Option (List ℕ)) (broken : S → ℕ) (noted : N → Option (List ℕ)) (failed : N → ℕ) (o o' : S) (n n' : N) (status : ℕ) (given : Result Answer Unanswered)
    → MatchResult given (IsAnswerTo source c) (HasHandedReason source c before now lost) → IfOk given (λ answer. handed o' ≡ handed o ++ answer.text.items ∷ [])
    → MatchResult given (λ answer. Puts got broken noted failed answer o o' n n' status) (λ why. RefusesFor c why status (Says noted failed n n') × (o' ≡ o))
    → EndsHanded source c lost handed got noted failed o o' n n' status
ends_handed source c before now lost handed got broken noted failed o o' n n' status (Ok answer) ok piece (whole is gains said) =
    let small : status ≤ 1 = subst (λ (s : ℕ). s ≤ 1) (sym is) (small_status answer.note) in
    record {
      told = λ le. (answer.text.items, line_of answer.note, subst (λ (s : ℕ). OutcomeOf source c (Told answer.text.items s (line_of answer.note))) (sym is) ok, piece, gains, said);
      refused = λ three. absurd (omega (arith, small, three));
      unread = λ four. absurd (omega (arith, small, four));
      front = λ five. absurd (omega (arith, small, five));
    }
ends_handed source c before now lost handed got broken noted failed o o' n n' status (Ok answer) ok piece (cut is rose gains said) = record {
  told = λ le. absurd (omega (arith, is, le));
  refused = λ three. absurd (omega (arith, is, three));
  unread = λ four. absurd (omega (arith, is, four));
  front = λ five. (answer.text.items, line_of answer.note, status_of answer.note, ok, piece, gains);
}
ends_handed source c before now lost handed got broken noted failed o o' n n' status (Err why) reason piece put =
    ends_without source c lost handed got noted failed o o' n n' status (reason_of source c before now lost status (Says noted failed n n') why put.0 reason)

-- ---- The files that the package tells, or all that agree

reason_held : (c : Command) (held : Option Files) (a b : List Handed) (before now : ℕ) (lost : List ℕ) (why : Unanswered) → HoldsHanded c held a b → HasHandedReason (HandedOver a b) c before now lost why → HasReason c held before now lost why
reason_held c held a b before now lost (Stopped why) h r =
    retold (Some (λ name. None)) (read_by c held) (λ files stop. StopsFor (HandedOver a b) c stop) (λ files stop. StopsFor (Held files) c stop) (λ files name. ComesFor (HandedOver a b) c name) (λ files name. ComesFor (Held files) c name) before before now lost why
    (omega arith) (λ stop s. h.stops stop s) (λ name s. h.comes name s) r
reason_held c held a b before now lost other h r = h.refuses other r

-- the work on what was handed over is work on the files that agree with it
pub held_works : {P : Type 0} (c : Command) (files : P → Option Files) (handed : P → List Handed) (faults : P → ℕ) (lost : P → List ℕ) (old new : P) (result : Result Answer Unanswered) → HoldsHanded c (files old) (handed old) (handed new)
    → files new ≡ files old → faults old ≤ faults new → Spares LeftBy faults lost old new result → WorksOn handed faults lost c old new result → Works files faults lost c old new result
held_works c files handed faults lost old new (Ok answer) h held later spared work = record { held = held; later = later; spared = spared; work = h.answers answer.text.items (status_of answer.note) (line_of answer.note) work }
held_works c files handed faults lost old new (Err why) h held later spared work = record { held = held; later = later; spared = spared; work = reason_held c (files old) (handed old) (handed new) (faults old) (faults new) (lost new) why h work }
