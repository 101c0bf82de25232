-- What an audit says of the bytes of a report.
use Rattle.std.specs.Prelude.{◌≡◌, ◌⊎◌, ℕ, List, ◌++◌, codes, decimal}
use Rattle.board_shapes.specs.Plain.{PlainBoard}
use Rattle.board_shapes.specs.Tables.{IsTables}
use Rattle.reports.specs.Lines.{counted_line, plain_line, end}
use Rattle.reports.specs.Notes.{line_of, status_of}
use Rattle.reports.specs.declared.answer.Answer.{Answer}
use Rattle.reports.specs.declared.answer.Note.TheVariants as note
use Rattle.tables.specs.Tables.{Tables}
use Rattle.verdict.specs.Lawful.{IsVerdict}
use Rattle.verdict.specs.ReportText.{report_text}
use Rattle.verdict.specs.Right.{FailsFirst, IsRight}
use Rattle.verdict.specs.declared.report_reading.ReadFault.{ReadFault}
use Rattle.verdict.specs.declared.report_reading.ReadFault.TheVariants as fault
use Rattle.verdict.specs.declared.verdict.Verdict.{Verdict}
use Rattle.witness_check.specs.Ruled.{Rules}
use Rattle.witness_check.specs.declared.auditing.Ruling.{Ruling}
use Rattle.witness_check.specs.declared.auditing.Ruling.TheVariants.{True, Untrue}

-- The bytes are the text of this verdict.
pub record IsTextOf (bytes : List ℕ) (verdict : Verdict) : Type 0 where
  pub lawful : IsVerdict verdict
  pub text_is : bytes ≡ report_text verdict

-- The bytes are the text of no verdict.
abbrev pub IsNoReport : List ℕ → Type 0
IsNoReport bytes = (verdict : Verdict) → IsTextOf bytes verdict → ⊥

-- What an audit answers: true, or the number of the first clause that does not hold; with the status and the line.
abbrev pub HasRuling : Tables → Verdict → List ℕ → ℕ → List ℕ → Type 0
HasRuling tables v text status line =
    (IsRight tables v × (text ≡ codes "audit true" ++ end) × (status ≡ 0) × (line ≡ plain_line (codes "audit true")))
    ⊎ ((n : ℕ) × FailsFirst tables v n × (text ≡ codes "audit untrue " ++ decimal n ++ end) × (status ≡ 1) × (line ≡ counted_line (codes "audit untrue ") n))

-- why a report is not ruled on: it is the text of no verdict, or memory is wanted
abbrev pub IsUnread : List ℕ → ReadFault → Type 0
IsUnread bytes fault.NotAReport = IsNoReport bytes
IsUnread bytes fault.NoMemory = Unit {0}

-- They are the text of a verdict, and the answer is that of its ruling on the board, whose tables the law of tables gives.
pub record IsRulingOn (board : PlainBoard) (bytes : List ℕ) (answer : Answer) : Type 0 where
  pub tables : Tables
  pub tables_are : IsTables board tables
  pub verdict : Verdict
  pub text : IsTextOf bytes verdict
  pub ruling : HasRuling tables verdict answer.text.items (status_of answer.note) (line_of answer.note)

-- ---- Its parts

-- the bytes are the text of a verdict, and this is the ruling on it
pub record IsRuledOn (board : PlainBoard) (bytes : List ℕ) (ruling : Ruling) : Type 0 where
  pub verdict : Verdict
  pub text : IsTextOf bytes verdict
  pub rules : (t : Tables) → IsTables board t → Rules t verdict ruling

-- the answer says the ruling
abbrev pub Answers : Ruling → Answer → Type 0
Answers True answer = (answer.text.items ≡ codes "audit true" ++ end) × (answer.note ≡ note.AuditTrue)
Answers (Untrue n) answer = (answer.text.items ≡ codes "audit untrue " ++ decimal n ++ end) × (answer.note ≡ note.AuditUntrue n)
