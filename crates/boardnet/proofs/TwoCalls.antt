-- From a report that was written and is held to the status of its audit.
use Rattle.std.proofs.Common.{◌≡◌, ◌⊎◌, inl, inr, ◌≤◌, ℕ, Bool, true, false, cond, List, [], length, Some, None, String, refl, sym, subst, ap, ◌++◌, ◌∙◌, arith}
use Rattle.std.specs.Str.{bytes_eq}
use Rattle.std.proofs.lemmas.Slice.Eq.{bytes_eq-Decides}
use Rattle.std.specs.declared.alloc.Global.{Global}
use Rattle.board_io.specs.Causes.{Rose}
use Rattle.board_io.specs.Memory.{HoldsAlso}
use Rattle.board_io.specs.Package.{Files}
use Rattle.board_io.specs.Sink.{Gains}
use Rattle.board_package.specs.Laws.{HasOneOutcome}
use Rattle.texts.specs.declared.TheConstants.{MOST_BYTES}
use Rattle.boardnet.proofs.Audits.{Ruled, one_answer}
use Rattle.boardnet.specs.Laws.{CanBeTaken, HoldsReport, ReportsPass}
use Rattle.boardnet.specs.Outcome.{Held, IsAnswer, IsReport}
use Rattle.boardnet.specs.Words.{IsAudit, IsCheck}
use Rattle.reports.specs.declared.judged.Version.{Version}
use Rattle.verdict.specs.Laws.{ReportTextIsInjective}
use Rattle.reports.specs.declared.judged.Version.TheVariants.{One, Two}

still : (before mid after : Files) (report bytes name held : List ℕ) (same : Bool) → bytes_eq report name ≡ same → mid ≡ before → before report ≡ None
    → after name ≡ cond same (Some bytes) (mid name) → before name ≡ Some held → after name ≡ Some held
still before mid after report bytes name held true e m free a b =
    let is : report ≡ name = (bytes_eq-Decides report name).0 e in
    let none : before name ≡ None = subst (λ (z : List ℕ). before z ≡ None) is free in
    absurd (cc (none, b))
still before mid after report bytes name held false e m free a b = a ∙ (subst (λ (z : Files). z name ≡ Some held) (sym m) b)

pub holds_report : (before mid after : Files) (report bytes : List ℕ) → mid ≡ before → before report ≡ None → HoldsAlso mid report bytes after → HoldsReport before after report bytes
holds_report before mid after report bytes m free also = record {
  still = λ name held b. still before mid after report bytes name held (bytes_eq report name) refl m free (also name) b;
  held = let same : bytes_eq report report ≡ true = (bytes_eq-Decides report report).1 refl in also report ∙ (rw same refl);
}

-- what is no longer than a file may be can be taken
can_be_taken : (version : Version) (text : List ℕ) → length text ≤ MOST_BYTES → CanBeTaken version text
can_be_taken One text short = tt
can_be_taken Two text short = short

-- what a sink that was empty got is what was put
pub all_got : (text before got : List ℕ) → before ≡ [] → Gains (Some before) text (Some got) → got ≡ text
all_got text before got e g = let all : got ≡ before ++ text = cc g in all ∙ ap (λ (b : List ℕ). b ++ text) e

-- the count of a package that was held rose only where it rose from the start
pub rose_from : (start mid now : ℕ) → start ≤ mid → Rose mid now → Rose start now
rose_from start mid now le rose = omega arith

-- a report is written, and an answer is answered
abbrev pub Wrote : Files → List (String Global) → ℕ → List ℕ → Type 0
Wrote files words status got = (version : Version) (name : List ℕ) → IsCheck words version name → (text line : List ℕ) × IsReport (Held files) version name text status line × (got ≡ text)

abbrev pub Rules : Files → List (String Global) → ℕ → Type 0 → Type 0 → Type 0
Rules files words status A B = (manifest report : List ℕ) → IsAudit words manifest report → Ruled files manifest report A B status

-- so the status is that of the one answer
status_of_one : (files : Files) (manifest report text line : List ℕ) (s status : ℕ) (A B : Type 0) → HasOneOutcome files manifest → ReportTextIsInjective
    → IsAnswer (Held files) manifest report text s line → Ruled files manifest report A B status → (A → ⊥) → (B → ⊥) → (status ≡ s) ⊎ (status ≡ 6)
status_of_one files manifest report text line s status A B law one answer rules calm quiet =
    elim (rules answer.board answer.read.1.bytes answer.verdict answer.read.0 answer.read.1.file answer.read.1.good calm quiet) [
      | inl is ↦ inl (one_answer files manifest report is.0 is.1 text line status s law one is.2 answer).0
      | inr six ↦ inr six
    ]

pub passes : (before mid after : Files) (checking auditing : List (String Global)) (report got bytes : List ℕ) (checked status : ℕ) (A B : Type 0) → ReportsPass → ((files : Files) (manifest : List ℕ) → HasOneOutcome files manifest) → ReportTextIsInjective
    → (version : Version) (manifest : List ℕ) → IsCheck checking version manifest → IsAudit auditing manifest report → before report ≡ None → mid ≡ before
    → Wrote before checking checked got → bytes ≡ got → HoldsAlso mid report bytes after → length bytes ≤ MOST_BYTES → Rules after auditing status A B
    → (A → ⊥) → (B → ⊥) → (status ≡ 0) ⊎ (status ≡ 6)
passes before mid after checking auditing report got bytes checked status A B law listed one version manifest check audit free m wrote same also short rules calm quiet =
    let (text, line, is, all) = wrote version manifest check in
    let is_text : text ≡ bytes = sym (same ∙ all) in
    let holds : HoldsReport before after report bytes = holds_report before mid after report bytes m free also in
    status_of_one after manifest report _ _ 0 status A B (listed after manifest) one (law before after version manifest report bytes line checked (subst (λ (z : List ℕ). IsReport (Held before) version manifest z checked line) is_text is) holds (can_be_taken version bytes short)) (rules manifest report audit) calm quiet
