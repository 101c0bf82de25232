-- The command `audit MANIFEST REPORT`: a report on the package is audited.
use Rattle.std.specs.Prelude.{◌≡◌, ◌⊎◌, ℕ, List, [], ◌∷◌, codes, map, string_bytes, String, Option, Some, None}
use Rattle.std.specs.declared.alloc.Global.{Global}
use Rattle.board_package.specs.PackageBoard.{Stop}
use Rattle.board_shapes.specs.Plain.{PlainBoard}
use Rattle.board_shapes.specs.Tables.{IsTables}
use Rattle.boardnet.specs.Command.{Command, Audit}
use Rattle.boardnet.specs.Source.{Source, ComesBy, FitsBefore, FitsThen, IsFileWith, IsFirstStopBy, NextBy, StopsFileBy}
use Rattle.boardnet.specs.Task.{Task, on_package}
use Rattle.boardnet.specs.declared.answer.Unanswered.{Unanswered}
use Rattle.boardnet.specs.declared.answer.Unanswered.TheVariants.{NotAReport}
use Rattle.reports.specs.Rulings.{HasRuling, IsNoReport, IsTextOf}
use Rattle.lengths.specs.Text.{IsText}
use Rattle.tables.specs.Tables.{Tables}
use Rattle.verdict.specs.declared.verdict.Verdict.{Verdict}

-- `audit`, the name of a manifest and the name of a report
pub record IsAudit (words : List (String Global)) (manifest report : List ℕ) : Type 0 where
  pub spelled : map string_bytes words ≡ codes "audit" ∷ manifest ∷ report ∷ []
  pub manifest_text : IsText manifest
  pub report_text : IsText report

-- The package fits, with this board, and the report behind it is the text of this verdict.
abbrev pub IsReadAs : Source → List ℕ → List ℕ → PlainBoard → Verdict → Type 0
IsReadAs source manifest report board verdict = FitsBefore source manifest board (λ rest. IsFileWith rest report (λ bytes. IsTextOf bytes verdict))

-- So they are read, and this is what the audit answers.
pub record IsAnswer (source : Source) (manifest report text : List ℕ) (status : ℕ) (line : List ℕ) : Type 0 where
  pub board : PlainBoard
  pub tables : Tables
  pub tables_are : IsTables board tables
  pub verdict : Verdict
  pub read : IsReadAs source manifest report board verdict
  pub ruling : HasRuling tables verdict text status line

-- The package fits, and the report, which comes next, is not there to be read.
abbrev pub StopsAtReport : Source → List ℕ → List ℕ → Stop → Type 0
StopsAtReport source manifest report stop = FitsThen source manifest (λ rest. StopsFileBy rest report stop)

-- The first stop of an audit: the package's, or the report's.
abbrev pub IsAuditStop : Source → List ℕ → List ℕ → Stop → Type 0
IsAuditStop source manifest report stop = IsFirstStopBy source manifest stop ⊎ StopsAtReport source manifest report stop

-- The package fits, and the report behind it is the text of no verdict.
abbrev pub IsNoText : Source → List ℕ → List ℕ → Type 0
IsNoText source manifest report = FitsThen source manifest (λ rest. IsFileWith rest report IsNoReport)

-- The package fits, and the name is that of the report, which comes next.
abbrev pub IsReportNext : Source → List ℕ → List ℕ → List ℕ → Type 0
IsReportNext source manifest report name = FitsThen source manifest (λ rest. NextBy rest report name)

-- beside a stop: the report is the text of no verdict
abbrev pub AuditRefuses : Source → List ℕ → List ℕ → Unanswered → Type 0
AuditRefuses source manifest report NotAReport = IsNoText source manifest report
AuditRefuses source manifest report other = ⊥

abbrev pub audit : List ℕ → List ℕ → Task
audit manifest report = record (on_package manifest (λ words. IsAudit words manifest report) (codes "audit" ∷ manifest ∷ report ∷ []) (λ source text status line. IsAnswer source manifest report text status line)) {
  in_range = IsText manifest × IsText report;
  report = report;
  comes = λ source name. ComesBy source manifest name ⊎ IsReportNext source manifest report name;
  stops = λ source stop. IsAuditStop source manifest report stop;
  refuses = λ source why. AuditRefuses source manifest report why;
  has_text = λ source. (board : PlainBoard) × (verdict : Verdict) × IsReadAs source manifest report board verdict;
}

-- the command that words behind its name can ask for; whether they are texts, and in range, is for `IsAudit` to say
abbrev pub audit_by : List (List ℕ) → Option Command
audit_by (manifest ∷ report ∷ []) = Some (Audit manifest report)
audit_by other = None
