-- From the work of a command and what was put for it to what the command comes to.
use Rattle.std.proofs.Common.{◌≡◌, ◌⊎◌, ◌≤◌, inl, inr, ℕ, Bool, true, false, List, Option, Result, Ok, Err, MatchResult, codes, refl, sym, subst, arith}
use Rattle.std.specs.Prelude.{if◌then◌else◌}
use Rattle.board_io.specs.Causes.{Rose}
use Rattle.board_io.specs.Package.{Files, IsFaultless}
use Rattle.board_io.specs.Sink.{Gains, GainsFrontOf}
use Rattle.board_package.proofs.Lift.{told_all, told_of}
use Rattle.board_package.specs.Causes.{HasCause, IsUnread, KeepsFaults}
use Rattle.board_package.specs.PackageBoard.{Stop, longer, not_json, bad_manifest, refused, frame_too_large}
use Rattle.board_package.specs.declared.fault.BuildFault.{BuildFault}
use Rattle.board_package.specs.declared.fault.BuildFault.TheVariants as fault
use Rattle.board_package.specs.declared.contents.Refusal.TheVariants as refusal
use Rattle.boardnet.proofs.Sound.{OneOutcome}
use Rattle.boardnet.proofs.Soundness.{sound}
use Rattle.boardnet.specs.Answers.{IsAnswerTo, RefusesFor, subject_of, report_or_counts_of}
use Rattle.reports.specs.Notes.{line_of, is_good, status_of}
use Rattle.boardnet.specs.Ends.{Ends, HasText, Puts, StopsFor, TakesFiles, cut, whole}
use Rattle.boardnet.specs.Kept.{LeftBy, Spares}
use Rattle.reports.specs.Lines.{Says, file_line, plain_line}
use Rattle.boardnet.specs.Outcome.{ComesFor, Held, IsLineOf, OfFilesRead, OutcomeOf, Refused, Source, Told, read_by, reason_line}
use Rattle.boardnet.specs.Words.{Command, task_of, Flatten, Write}
use Rattle.reports.specs.declared.answer.Answer.{Answer}
use Rattle.reports.specs.declared.answer.Note.{Note}
use Rattle.boardnet.specs.declared.answer.Unanswered.{Unanswered}
use Rattle.boardnet.specs.declared.answer.Unanswered.TheVariants.{Stopped}

-- ---- The work, by the files that the package tells

-- why a command has no answer
abbrev pub HasReason : Command → Option Files → ℕ → ℕ → List ℕ → Unanswered → Type 0
HasReason command held before now lost (Stopped why) = HasCause (read_by command held) (λ files stop. StopsFor (Held files) command stop) (λ files name. ComesFor (Held files) command name) before now lost why
HasReason command held before now lost other = OfFilesRead command held (λ files. (task_of command).refuses (Held files) other)

-- The answer is the command's outcome, or there is a reason why there is none.
pub record Works {P : Type 0} (files : P → Option Files) (faults : P → ℕ) (lost : P → List ℕ) (command : Command) (old new : P) (result : Result Answer Unanswered) : Type 0 where
  pub held : files new ≡ files old
  pub later : faults old ≤ faults new
  pub spared : Spares LeftBy faults lost old new result
  pub work : MatchResult result (λ answer. OfFilesRead command (files old) (λ f. IsAnswerTo (Held f) command answer)) (HasReason command (files old) (faults old) (faults new) (lost new))

-- ---- Why there is no answer

-- The three ways to have none: the command is refused; a file cannot be read; memory is wanted.
data Reason (c : Command) (held : Option Files) (before : ℕ) (was : List ℕ) (now : ℕ) (lost : List ℕ) (status : ℕ) (Line : List ℕ → Type 0) : Type 0 where
  refusal_of : (line : List ℕ) → status ≡ 3 → OfFilesRead c held (λ f. OutcomeOf (Held f) c (Refused line) × (HasText (Held f) c → ⊥)) → Line line → IsFaultless before was now lost → Reason c held before was now lost status Line
  unread_of : (name : List ℕ) → status ≡ 4 → IsUnread (read_by c held) (λ f name. ComesFor (Held f) c name) before now lost name → Line (file_line name (codes "cannot be read")) → Reason c held before was now lost status Line
  wanting : status ≡ 6 → Line (plain_line (codes "out of memory")) → Reason c held before was now lost status Line

stopped_by : OneOutcome → (c : Command) (held : Option Files) (before : ℕ) (was : List ℕ) (now : ℕ) (lost : List ℕ) (status : ℕ) (Line : List ℕ → Type 0) (stop : Stop) (line : List ℕ)
    → status ≡ 3 → Line line → IsLineOf (subject_of c) stop line → OfFilesRead c held (λ f. StopsFor (Held f) c stop) → IsFaultless before was now lost → Reason c held before was now lost status Line
stopped_by law c held before was now lost status Line stop line three said is s left =
    refusal_of line three (told_of (read_by c held) (λ f. StopsFor (Held f) c stop) (λ f. OutcomeOf (Held f) c (Refused line) × (HasText (Held f) c → ⊥)) (λ f h. (inl (stop, h, is), (sound c).no_text law f stop h)) s) said left

stopped_reason : OneOutcome → (c : Command) (held : Option Files) (before : ℕ) (was : List ℕ) (now : ℕ) (lost : List ℕ) (status : ℕ) (Line : List ℕ → Type 0) (why : BuildFault)
    → RefusesFor c (Stopped why) status Line → HasReason c held before now lost (Stopped why) → KeepsFaults before was now lost why → Reason c held before was now lost status Line
stopped_reason law c held before was now lost status Line fault.NotJson said h left = stopped_by law c held before was now lost status Line not_json _ said.0 said.1 refl h left
stopped_reason law c held before was now lost status Line fault.BadManifest said h left = stopped_by law c held before was now lost status Line bad_manifest _ said.0 said.1 refl h left
stopped_reason law c held before was now lost status Line (fault.Longer name) said h left = stopped_by law c held before was now lost status Line (longer name) _ said.0 said.1 refl h left
stopped_reason law c held before was now lost status Line (fault.CannotRead name) said h left = unread_of name said.0 h said.1
stopped_reason law c held before was now lost status Line (fault.Layer name kind command at) said h left =
    stopped_by law c held before was now lost status Line (refused name (refusal.Layer kind command at)) _ said.0 said.1 refl h left
stopped_reason law c held before was now lost status Line (fault.Drill name kind line at) said h left =
    stopped_by law c held before was now lost status Line (refused name (refusal.Drill kind line at)) _ said.0 said.1 refl h left
stopped_reason law c held before was now lost status Line (fault.Netlist name kind line) said h left =
    stopped_by law c held before was now lost status Line (refused name (refusal.Netlist kind line)) _ said.0 said.1 refl h left
stopped_reason law c held before was now lost status Line (fault.FrameTooLarge box) said h left = stopped_by law c held before was now lost status Line (frame_too_large box) _ said.0 said.1 refl h left
stopped_reason law c held before was now lost status Line fault.NoMemory said h left = wanting said.0 said.1

reason_of : OneOutcome → (c : Command) (held : Option Files) (before : ℕ) (was : List ℕ) (now : ℕ) (lost : List ℕ) (status : ℕ) (Line : List ℕ → Type 0) (why : Unanswered)
    → RefusesFor c why status Line → HasReason c held before now lost why → LeftBy before was now lost why → Reason c held before was now lost status Line
reason_of law c held before was now lost status Line (Stopped why) said h left = stopped_reason law c held before was now lost status Line why said h left
reason_of law c held before was now lost status Line other said h left =
    refusal_of _ said.0 (told_of (read_by c held) (λ f. (task_of c).refuses (Held f) other) (λ f. OutcomeOf (Held f) c (Refused (reason_line (subject_of c) (report_or_counts_of c) other)) × (HasText (Held f) c → ⊥)) (λ f r. (inr (other, r, refl), (sound c).no_refused_text law f other r)) h) said.1 left

-- ---- What a command comes to

at_most_one : (good : Bool) → (if good then 0 else 1) ≤ 1
at_most_one true = omega arith
at_most_one false = omega arith

pub small_status : (n : Note) → status_of n ≤ 1
small_status n = at_most_one (is_good n)

-- an answer that was put whole
ends_whole : {P S N : Type 0} (files : P → Option Files) (faults : P → ℕ) (lost : P → List ℕ) (got : S → Option (List ℕ)) (broken : S → ℕ) (noted : N → Option (List ℕ)) (failed : N → ℕ)
    (c : Command) (p p' : P) (o o' : S) (n n' : N) (status : ℕ) (answer : Answer)
    → Works files faults lost c p p' (Ok answer) → (broken o ≤ broken o') × (failed n ≤ failed n')
    → status ≡ status_of answer.note → Gains (got o) answer.text.items (got o') → Says noted failed n n' (line_of answer.note)
    → Ends files faults lost got broken noted failed c p p' o o' n n' status
ends_whole files faults lost got broken noted failed c p p' o o' n n' status answer w later is gains said =
    let small : status ≤ 1 = subst (λ (s : ℕ). s ≤ 1) (sym is) (small_status answer.note) in
    let outcome : OfFilesRead c (files p) (λ f. OutcomeOf (Held f) c (Told answer.text.items status (line_of answer.note))) =
    subst (λ (s : ℕ). OfFilesRead c (files p) (λ f. OutcomeOf (Held f) c (Told answer.text.items s (line_of answer.note)))) (sym is) w.work in
    record {
      few = omega (arith, small);
      understood = λ two. omega (arith, small, two);
      told = λ le. told_of (read_by c (files p)) (λ f. OutcomeOf (Held f) c (Told answer.text.items status (line_of answer.note)))
          (λ f. (text line : List ℕ) × OutcomeOf (Held f) c (Told text status line) × Gains (got o) text (got o') × Says noted failed n n' line) (λ f h. (answer.text.items, line_of answer.note, h, gains, said)) outcome;
      refused = λ three. absurd (omega (arith, small, three));
      unreadable = λ four. absurd (omega (arith, small, four));
      unread = λ four. absurd (omega (arith, small, four));
      unwritable = λ five. absurd (omega (arith, small, five));
      front = λ five. absurd (omega (arith, small, five));
      memory = λ six. absurd (omega (arith, small, six));
      silent = λ two other. absurd (omega (arith, small, two));
      kept = record { held = w.held; later = w.later; calm = λ four six. w.spared };
      later = later;
      complete = told_all (read_by c (files p)) (λ f. HasText (Held f) c → (TakesFiles c → Rose (faults p) (faults p') → ⊥) → (Rose (broken o) (broken o') → ⊥) → (status ≤ 1) ⊎ (status ≡ 6)) (λ f text calm quiet. inl small);
    }

-- an answer that was put in part
ends_cut : {P S N : Type 0} (files : P → Option Files) (faults : P → ℕ) (lost : P → List ℕ) (got : S → Option (List ℕ)) (broken : S → ℕ) (noted : N → Option (List ℕ)) (failed : N → ℕ)
    (c : Command) (p p' : P) (o o' : S) (n n' : N) (status : ℕ) (answer : Answer)
    → Works files faults lost c p p' (Ok answer) → (broken o ≤ broken o') × (failed n ≤ failed n')
    → status ≡ 5 → Rose (broken o) (broken o') → GainsFrontOf (got o) answer.text.items (got o') → Says noted failed n n' (plain_line (codes "output cannot be written"))
    → Ends files faults lost got broken noted failed c p p' o o' n n' status
ends_cut files faults lost got broken noted failed c p p' o o' n n' status answer w later is rose gains said = record {
  few = omega (arith, is);
  understood = λ two. omega (arith, is, two);
  told = λ le. absurd (omega (arith, is, le));
  refused = λ three. absurd (omega (arith, is, three));
  unreadable = λ four. absurd (omega (arith, is, four));
  unread = λ four. absurd (omega (arith, is, four));
  unwritable = λ five. (rose, said);
  front = λ five. told_of (read_by c (files p)) (λ f. OutcomeOf (Held f) c (Told answer.text.items (status_of answer.note) (line_of answer.note)))
      (λ f. (text line : List ℕ) × (s : ℕ) × OutcomeOf (Held f) c (Told text s line) × GainsFrontOf (got o) text (got o')) (λ f h. (answer.text.items, line_of answer.note, status_of answer.note, h, gains)) w.work;
  memory = λ six. absurd (omega (arith, is, six));
  silent = λ two other. absurd (other is);
  kept = record { held = w.held; later = w.later; calm = λ four six. w.spared };
  later = later;
  complete = told_all (read_by c (files p)) (λ f. HasText (Held f) c → (TakesFiles c → Rose (faults p) (faults p') → ⊥) → (Rose (broken o) (broken o') → ⊥) → (status ≤ 1) ⊎ (status ≡ 6)) (λ f text calm quiet. absurd (quiet rose));
}

-- a file that cannot be read is one that the command takes
never_unread : (c : Command) (held : Option Files) (A B : Type 0) (status : ℕ) (name : List ℕ) → OfFilesRead c held (λ f. ComesFor (Held f) c name) → A
    → OfFilesRead c held (λ f. HasText (Held f) c → (TakesFiles c → A → ⊥) → (B → ⊥) → (status ≤ 1) ⊎ (status ≡ 6))
never_unread c held A B status name comes rose =
    told_of (read_by c held) (λ f. ComesFor (Held f) c name) (λ f. HasText (Held f) c → (TakesFiles c → A → ⊥) → (B → ⊥) → (status ≤ 1) ⊎ (status ≡ 6)) (λ f h text calm quiet. absurd (calm ((sound c).takes_what_comes f name h) rose)) comes

-- no answer
ends_without : {P S N : Type 0} (files : P → Option Files) (faults : P → ℕ) (lost : P → List ℕ) (got : S → Option (List ℕ)) (broken : S → ℕ) (noted : N → Option (List ℕ)) (failed : N → ℕ)
    (c : Command) (p p' : P) (o o' : S) (n n' : N) (status : ℕ)
    → files p' ≡ files p → faults p ≤ faults p' → (broken o ≤ broken o') × (failed n ≤ failed n') → o' ≡ o
    → Reason c (files p) (faults p) (lost p) (faults p') (lost p') status (Says noted failed n n')
    → Ends files faults lost got broken noted failed c p p' o o' n n' status
ends_without files faults lost got broken noted failed c p p' o o' n n' status held rises later same (refusal_of line is outcome said left) = record {
  few = omega (arith, is);
  understood = λ two. omega (arith, is, two);
  told = λ le. absurd (omega (arith, is, le));
  refused = λ three. told_of (read_by c (files p)) (λ f. OutcomeOf (Held f) c (Refused line) × (HasText (Held f) c → ⊥)) (λ f. (line : List ℕ) × OutcomeOf (Held f) c (Refused line) × Says noted failed n n' line) (λ f h. (line, h.0, said)) outcome;
  unreadable = λ four. absurd (omega (arith, is, four));
  unread = λ four. absurd (omega (arith, is, four));
  unwritable = λ five. absurd (omega (arith, is, five));
  front = λ five. absurd (omega (arith, is, five));
  memory = λ six. absurd (omega (arith, is, six));
  silent = λ two other. same;
  kept = record { held = held; later = rises; calm = λ four six. left };
  later = later;
  complete = told_of (read_by c (files p)) (λ f. OutcomeOf (Held f) c (Refused line) × (HasText (Held f) c → ⊥)) (λ f. HasText (Held f) c → (TakesFiles c → Rose (faults p) (faults p') → ⊥) → (Rose (broken o) (broken o') → ⊥) → (status ≤ 1) ⊎ (status ≡ 6))
      (λ f h text calm quiet. absurd (h.1 text)) outcome;
}
ends_without files faults lost got broken noted failed c p p' o o' n n' status held rises later same (unread_of name is u said) = record {
  few = omega (arith, is);
  understood = λ two. omega (arith, is, two);
  told = λ le. absurd (omega (arith, is, le));
  refused = λ three. absurd (omega (arith, is, three));
  unreadable = λ four. (u.rose, subst (λ (z : List ℕ). Says noted failed n n' (file_line z (codes "cannot be read"))) (sym u.lost_is) said);
  unread = λ four. subst (λ (z : List ℕ). OfFilesRead c (files p) (λ f. ComesFor (Held f) c z)) (sym u.lost_is) u.comes;
  unwritable = λ five. absurd (omega (arith, is, five));
  front = λ five. absurd (omega (arith, is, five));
  memory = λ six. absurd (omega (arith, is, six));
  silent = λ two other. same;
  kept = record { held = held; later = rises; calm = λ four six. absurd (four is) };
  later = later;
  complete = never_unread c (files p) (Rose (faults p) (faults p')) (Rose (broken o) (broken o')) status name u.comes u.rose;
}
ends_without files faults lost got broken noted failed c p p' o o' n n' status held rises later same (wanting is said) = record {
  few = omega (arith, is);
  understood = λ two. omega (arith, is, two);
  told = λ le. absurd (omega (arith, is, le));
  refused = λ three. absurd (omega (arith, is, three));
  unreadable = λ four. absurd (omega (arith, is, four));
  unread = λ four. absurd (omega (arith, is, four));
  unwritable = λ five. absurd (omega (arith, is, five));
  front = λ five. absurd (omega (arith, is, five));
  memory = λ six. said;
  silent = λ two other. same;
  kept = record { held = held; later = rises; calm = λ four six. absurd (six is) };
  later = later;
  complete = told_all (read_by c (files p)) (λ f. HasText (Held f) c → (TakesFiles c → Rose (faults p) (faults p') → ⊥) → (Rose (broken o) (broken o') → ⊥) → (status ≤ 1) ⊎ (status ≡ 6)) (λ f text calm quiet. inr is);
}

pub ends : {P S N : Type 0} (files : P → Option Files) (faults : P → ℕ) (lost : P → List ℕ) (got : S → Option (List ℕ)) (broken : S → ℕ) (noted : N → Option (List ℕ)) (failed : N → ℕ)
    (c : Command) (p p' : P) (o o' : S) (n n' : N) (status : ℕ) (given : Result Answer Unanswered)
    → OneOutcome → Works files faults lost c p p' given → (broken o ≤ broken o') × (failed n ≤ failed n')
    → MatchResult given (λ answer. Puts got broken noted failed answer o o' n n' status) (λ why. RefusesFor c why status (Says noted failed n n') × (o' ≡ o))
    → Ends files faults lost got broken noted failed c p p' o o' n n' status
ends files faults lost got broken noted failed c p p' o o' n n' status (Ok answer) law w later (whole is gains said) =
    ends_whole files faults lost got broken noted failed c p p' o o' n n' status answer w later is gains said
ends files faults lost got broken noted failed c p p' o o' n n' status (Ok answer) law w later (cut is rose gains said) =
    ends_cut files faults lost got broken noted failed c p p' o o' n n' status answer w later is rose gains said
ends files faults lost got broken noted failed c p p' o o' n n' status (Err why) law w later put =
    ends_without files faults lost got broken noted failed c p p' o o' n n' status w.held w.later later put.1
    (reason_of law c (files p) (faults p) (lost p) (faults p') (lost p') status (Says noted failed n n') why put.0 w.work w.spared)

-- ---- What is never judged

not_one : (c : Command) (why : Unanswered) (status : ℕ) (Line : List ℕ → Type 0) → RefusesFor c why status Line → status ≡ 1 → ⊥
not_one c (Stopped fault.NotJson) status Line (is, said) one = absurd (omega (arith, is, one))
not_one c (Stopped fault.BadManifest) status Line (is, said) one = absurd (omega (arith, is, one))
not_one c (Stopped (fault.Longer name)) status Line (is, said) one = absurd (omega (arith, is, one))
not_one c (Stopped (fault.CannotRead name)) status Line (is, said) one = absurd (omega (arith, is, one))
not_one c (Stopped (fault.Layer name kind command byte)) status Line (is, said) one = absurd (omega (arith, is, one))
not_one c (Stopped (fault.Drill name kind number byte)) status Line (is, said) one = absurd (omega (arith, is, one))
not_one c (Stopped (fault.Netlist name kind number)) status Line (is, said) one = absurd (omega (arith, is, one))
not_one c (Stopped (fault.FrameTooLarge box)) status Line (is, said) one = absurd (omega (arith, is, one))
not_one c (Stopped fault.NoMemory) status Line (is, said) one = absurd (omega (arith, is, one))
not_one c other status Line (is, said) one = absurd (omega (arith, is, one))

-- the text of a netlist or of a flattened file comes with the status 0
zero_of : (source : Source) (c : Command) (answer : Answer) → IsAnswerTo source c answer → (name : List ℕ) → (c ≡ Write name) ⊎ (c ≡ Flatten name) → status_of answer.note ≡ 0
zero_of source c answer is name (inl e) = let written : IsAnswerTo source (Write name) answer = subst (λ (k : Command). IsAnswerTo source k answer) e is in written.status_is
zero_of source c answer is name (inr e) = let flat : IsAnswerTo source (Flatten name) answer = subst (λ (k : Command). IsAnswerTo source k answer) e is in flat.status_is

pub unjudged : {S N : Type 0} (got : S → Option (List ℕ)) (broken : S → ℕ) (noted : N → Option (List ℕ)) (failed : N → ℕ) (source : Source) (Why : Unanswered → Type 0) (c : Command) (o o' : S) (n n' : N) (status : ℕ) (given : Result Answer Unanswered)
    → MatchResult given (IsAnswerTo source c) Why
    → MatchResult given (λ answer. Puts got broken noted failed answer o o' n n' status) (λ why. RefusesFor c why status (Says noted failed n n') × (o' ≡ o))
    → (name : List ℕ) → (c ≡ Write name) ⊎ (c ≡ Flatten name) → status ≡ 1 → ⊥
unjudged got broken noted failed source Why c o o' n n' status (Ok answer) work (whole is gains said) name asks one = let none = zero_of source c answer work name asks in absurd (omega (arith, is, none, one))
unjudged got broken noted failed source Why c o o' n n' status (Ok answer) work (cut is rose gains said) name asks one = absurd (omega (arith, is, one))
unjudged got broken noted failed source Why c o o' n n' status (Err why) work put name asks one = not_one c why status (Says noted failed n n') put.0 one
