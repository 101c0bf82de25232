-- That what is told of the command `audit` is sound.
use Rattle.std.proofs.Common.{◌≡◌, ◌≤◌, ℕ, List, Option, Some, None, IfSome, String, ◌⊎◌, inl, inr, refl}
use Rattle.std.specs.declared.alloc.Global.{Global}
use Rattle.board_io.specs.Handed.{AgreeWith, Handed}
use Rattle.board_io.specs.Package.{Files}
use Rattle.board_package.specs.HandedLaw.{HandedIsHeld}
use Rattle.board_package.specs.PackageBoard.{Stop}
use Rattle.board_shapes.specs.Plain.{PlainBoard}
use Rattle.boardnet.proofs.Audits.{Ruled, one_answer, no_misread, no_stop, no_stop_taking}
use Rattle.boardnet.proofs.Behind.{board_held, held_fits, held_then}
use Rattle.boardnet.proofs.Named.{Completes}
use Rattle.boardnet.proofs.Alike.{one_taking}
use Rattle.boardnet.proofs.Sound.{OneOutcome, Sound, HoldsHanded}
use Rattle.boardnet.specs.Outcome.{ComesFor, HandedOver, Held, IsAnswer, IsAuditStop, IsReadAs, IsTextOf, OfFilesRead, OutcomeOf, Told}
use Rattle.boardnet.specs.Source.{FitsBefore, IsBoardBy, IsFileWith, NextBy, StopsFileBy}
use Rattle.boardnet.specs.commands.Audit.{AuditRefuses, IsNoText}
use Rattle.reports.specs.Rulings.{IsNoReport}
use Rattle.boardnet.specs.Words.{Asks, Command, Audit, IsAudit}
use Rattle.boardnet.specs.declared.answer.Unanswered.{Unanswered}
use Rattle.boardnet.specs.declared.answer.Unanswered.TheVariants.{NotAReport}
use Rattle.verdict.specs.declared.verdict.Verdict.{Verdict}

one_misread : (f : Files) (manifest report : List ℕ) (why other : Unanswered) → AuditRefuses (Held f) manifest report why → AuditRefuses (Held f) manifest report other → why ≡ other
one_misread f manifest report NotAReport NotAReport x y = refl
one_misread f manifest report NotAReport other x y = absurd y
one_misread f manifest report why other x y = absurd x

no_ruling : (f : Files) (manifest report : List ℕ) (why : Unanswered) → AuditRefuses (Held f) manifest report why → (board : PlainBoard) (verdict : Verdict) → IsReadAs (Held f) manifest report board verdict → ⊥
no_ruling f manifest report NotAReport m board verdict read = no_misread f manifest report board verdict m read
no_ruling f manifest report other m board verdict read = absurd m

-- ---- Of files that agree with what was handed over: the package, and the report behind it

held_file : HandedIsHeld → (f : Files) (a b : List Handed) (manifest report : List ℕ) (board : PlainBoard) (P : List ℕ → Type 0) → AgreeWith f a b
    → FitsBefore (HandedOver a b) manifest board (λ rest. IsFileWith rest report P) → FitsBefore (Held f) manifest board (λ rest. IsFileWith rest report P)
held_file law f a b manifest report board P w x =
    held_fits (λ read z. IsBoardBy read manifest z) f a b (board_held law f a manifest) (λ rest. IsFileWith rest report P) w
    (λ built v y. record { bytes = y.bytes; file = (law.holds f built b report v).held y.bytes y.file; good = y.good }) board x

held_stop : HandedIsHeld → (f : Files) (a b : List Handed) (manifest report : List ℕ) → AgreeWith f a b → (stop : Stop) → IsAuditStop (HandedOver a b) manifest report stop → IsAuditStop (Held f) manifest report stop
held_stop law f a b manifest report w stop (inl s) = inl ((law.holds f a b manifest w).stop stop s)
held_stop law f a b manifest report w stop (inr s) = inr (held_then _ f a b (board_held law f a manifest) (λ rest. StopsFileBy rest report stop) w (λ built v y. (law.holds f built b report v).untaken stop y) s)

held_no_text : HandedIsHeld → (f : Files) (a b : List Handed) (manifest report : List ℕ) → AgreeWith f a b → IsNoText (HandedOver a b) manifest report → IsNoText (Held f) manifest report
held_no_text law f a b manifest report w x = record { board = x.board; behind = held_file law f a b manifest report x.board IsNoReport w x.behind }

held_refusal : HandedIsHeld → (f : Files) (a b : List Handed) (manifest report : List ℕ) → AgreeWith f a b → (why : Unanswered) → AuditRefuses (HandedOver a b) manifest report why → AuditRefuses (Held f) manifest report why
held_refusal law f a b manifest report w NotAReport x = held_no_text law f a b manifest report w x
held_refusal law f a b manifest report w other x = absurd x

held_next : HandedIsHeld → (f : Files) (a b : List Handed) (manifest report name : List ℕ) → AgreeWith f a b → ComesFor (HandedOver a b) (Audit manifest report) name → ComesFor (Held f) (Audit manifest report) name
held_next law f a b manifest report name w (inl c) = inl ((law.holds f a b manifest w).comes name c)
held_next law f a b manifest report name w (inr x) =
    inr (held_then _ f a b (board_held law f a manifest) (λ rest. NextBy rest report name) w (λ built v y. y.0) x)

agreed_audit : HandedIsHeld → (manifest report : List ℕ) (held : Option Files) (a b : List Handed) → IfSome held (λ f. AgreeWith f a b) → HoldsHanded (Audit manifest report) held a b
agreed_audit law manifest report None a b w = record { answers = λ text status line x. tt; stops = λ stop s. tt; comes = λ name s. tt; refuses = λ why x. tt }
agreed_audit law manifest report (Some f) a b w = record {
  answers = λ text status line x. record { board = x.board; tables = x.tables; tables_are = x.tables_are; verdict = x.verdict; read = held_file law f a b manifest report x.board (λ bytes. IsTextOf bytes x.verdict) w x.read; ruling = x.ruling };
  stops = λ stop s. held_stop law f a b manifest report w stop s;
  comes = λ name s. held_next law f a b manifest report name w s;
  refuses = λ why x. held_refusal law f a b manifest report w why x;
}

-- ---- Two stops over the same files, or a stop and no report

stop_or_misread : OneOutcome → (f : Files) (manifest report : List ℕ) (stop : Stop) (why : Unanswered) → IsAuditStop (Held f) manifest report stop → AuditRefuses (Held f) manifest report why → ⊥
stop_or_misread law f manifest report stop NotAReport (inl first) n = (law.listed f manifest).not_both n.board stop n.behind.0 first
stop_or_misread law f manifest report stop NotAReport (inr s) n = no_stop_taking f report n.behind.1.bytes stop n.behind.1.file s.behind.1
stop_or_misread law f manifest report stop other s n = absurd n

one_audit_stop : OneOutcome → (f : Files) (manifest report : List ℕ) (stop other : Stop) → IsAuditStop (Held f) manifest report stop → IsAuditStop (Held f) manifest report other → stop ≡ other
one_audit_stop law f manifest report stop other (inl s) (inl t) = (law.listed f manifest).one_stop stop other s t
one_audit_stop law f manifest report stop other (inl s) (inr t) = absurd ((law.listed f manifest).not_both t.board stop t.behind.0 s)
one_audit_stop law f manifest report stop other (inr s) (inl t) = absurd ((law.listed f manifest).not_both s.board other s.behind.0 t)
one_audit_stop law f manifest report stop other (inr s) (inr t) = one_taking f report stop other s.behind.1 t.behind.1

pub sound_audit : (manifest report : List ℕ) → Sound (Audit manifest report)
sound_audit manifest report = record {
  spelled = λ words is. is.spelled;
  names = λ words is. (is.manifest_text, is.report_text);
  asks = λ words e fits. record { spelled = e; manifest_text = fits.0; report_text = fits.1 };
  read = λ fits. refl;
  text_of = λ f text status line x. (x.board, x.verdict, x.read);
  no_text = λ law f stop s t. no_stop f manifest report t.0 t.1 stop (law.listed f manifest) t.2 s;
  no_refused_text = λ law f why m t. no_ruling f manifest report why m t.0 t.1 t.2;
  one_answer = λ law f text said s t l k x y. one_answer f manifest report text l said k s t (law.one.listed f manifest) law.texts x y;
  one_stop = λ law f stop other x y. one_audit_stop law f manifest report stop other x y;
  one_reason = λ law f why other x y. one_misread f manifest report why other x y;
  stop_or_reason = λ law f stop why s m. stop_or_misread law f manifest report stop why s m;
  takes_what_comes = λ f name comes. tt;
  agrees = λ law held a b w. agreed_audit law.listed manifest report held a b w;
}

-- What `run` says of it, by its words. An audit that reads a verdict has its ruling.
pub of_audit : (held : Option Files) (words : List (String Global)) (P : Files → Command → Type 0) → ((c : Command) → Asks words c → OfFilesRead c held (λ files. P files c))
    → IfSome held (λ files. (manifest report : List ℕ) → IsAudit words manifest report → P files (Audit manifest report))
of_audit None words P h = tt
of_audit (Some files) words P h = λ manifest report is. h (Audit manifest report) is

pub answered_named : (held : Option Files) (words : List (String Global)) (A B : Type 0) (status : ℕ) (G L : List ℕ → Type 0)
    → (status ≤ 1 → (c : Command) → Asks words c → OfFilesRead c held (λ f. (text line : List ℕ) × OutcomeOf (Held f) c (Told text status line) × G text × L line)) → Completes held words A B status
    → IfSome held (λ files. (manifest report : List ℕ) → IsAudit words manifest report → Ruled files manifest report A B status)
answered_named None words A B status G L told h = tt
answered_named (Some files) words A B status G L told h = λ manifest report is board bytes verdict fits held text calm quiet.
    by_status manifest report is (h (Audit manifest report) is (board, verdict, (fits, record { bytes = bytes; file = held; good = text })) (λ takes. calm) quiet)
  where
    by_status : (manifest report : List ℕ) → IsAudit words manifest report → (status ≤ 1) ⊎ (status ≡ 6) → ((text line : List ℕ) × IsAnswer (Held files) manifest report text status line) ⊎ (status ≡ 6)
    by_status manifest report is (inr six) = inr six
    by_status manifest report is (inl few) = let mine = told few (Audit manifest report) is in inl (mine.0, mine.1, mine.2)
