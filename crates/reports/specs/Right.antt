-- Verdicts that are right for a board, and their reports.
use Rattle.std.specs.Prelude.{◌↔◌, ◌≡◌, ◌⊎◌, ℕ, List, length, None, Some, codes}
use Rattle.board_shapes.specs.Plain.{PlainBoard}
use Rattle.board_shapes.specs.Shapes.{shape_box}
use Rattle.board_shapes.specs.Tables.{IsTables}
use Rattle.board_shapes.specs.Touching.{ProbesJoined}
use Rattle.board_shapes.specs.declared.placed.Placed.{Placed}
use Rattle.board_shapes.specs.declared.shape.Shape.{Shape}
use Rattle.reports.specs.Lines.{plain_line, findings_line}
use Rattle.reports.specs.declared.judged.Version.{Version}
use Rattle.reports.specs.declared.judged.Version.TheVariants.{One, Two}
use Rattle.cell_index.specs.Among.{bottom_in, extent_in, top_in}
use Rattle.cell_index.specs.Field.{pairs_of}
use Rattle.tables.specs.Tables.{Tables}
use Rattle.verdict.specs.Lawful.{IsVerdict}
use Rattle.verdict.specs.ReportText.{Agrees, report_text}
use Rattle.verdict.specs.Right.{IsRight, HaveOneNet}
use Rattle.verdict.specs.declared.verdict.Supplement.{Supplement}
use Rattle.verdict.specs.declared.verdict.Verdict.{Verdict}

-- The verdict is right for the board, whose tables the law of tables gives.
pub record IsRightOn (board : PlainBoard) (verdict : Verdict) : Type 0 where
  pub tables : Tables
  pub tables_are : IsTables board tables
  pub right : IsRight tables verdict
  -- Two probes have one net number exactly where a finite chain of touching pieces joins them.
  pub joins : (a b : ℕ) → HaveOneNet verdict a b ↔ ProbesJoined board a b

-- how many unordered pairs of the pieces have boxes that meet and spans with a common layer
abbrev pub rival_pairs : List (Placed Shape) → ℕ
rival_pairs pieces = pairs_of (length pieces) (extent_in shape_box pieces) (top_in pieces) (bottom_in pieces)

-- A report of version 2 has a supplement, and one of version 1 has none.
abbrev pub IsOfVersion : Version → Verdict → Type 0
IsOfVersion One v = v.more ≡ None
IsOfVersion Two v = (more : Supplement) × (v.more ≡ Some more)

-- The status of a verdict, and its line.
abbrev pub HasStatus : Verdict → ℕ → List ℕ → Type 0
HasStatus v status line =
    (Agrees v × (status ≡ 0) × (line ≡ plain_line (codes "agrees")))
    ⊎ ((Agrees v → ⊥) × (status ≡ 1) × (line ≡ findings_line (codes "differs") (length v.opens) (length v.shorts) (length v.bare)))

-- The text of a right verdict on a board, as the version asks, with its status and its line.
pub record IsReportOn (board : PlainBoard) (version : Version) (text : List ℕ) (status : ℕ) (line : List ℕ) : Type 0 where
  pub verdict : Verdict
  pub lawful : IsVerdict verdict
  pub right : IsRightOn board verdict
  pub version_is : IsOfVersion version verdict
  pub text_is : text ≡ report_text verdict
  pub status_is : HasStatus verdict status line
