-- The command `x2 MANIFEST`: the package is judged by the net names in its copper files.
use Rattle.std.specs.Prelude.{◌≡◌, ◌↔◌, ℕ, ◌-◌, List, [], ◌∷◌, Some, slice_get, codes, map, string_bytes, String, Option, None}
use Rattle.std.specs.declared.alloc.Global.{Global}
use Rattle.board_package.specs.LabelledBoard.{mislabelled, unbuilt}
use Rattle.board_shapes.specs.Plain.{PlainBoard}
use Rattle.board_shapes.specs.Touching.{Joined}
use Rattle.board_shapes.specs.declared.probe.Probe.{Probe}
use Rattle.boardnet.specs.Command.{Command, X2}
use Rattle.reports.specs.Right.{IsReportOn}
use Rattle.boardnet.specs.Source.{Source, IsFirstLabelledStopBy, IsLabelledBoardBy, LabelledComesBy}
use Rattle.boardnet.specs.Task.{Task, on_package}
use Rattle.boardnet.specs.declared.answer.Unanswered.{Unanswered}
use Rattle.boardnet.specs.declared.answer.Unanswered.TheVariants.{Mislabelled}
use Rattle.reports.specs.declared.judged.Version.TheVariants.{Two}
use Rattle.lengths.specs.Text.{IsText}
use Rattle.verdict.specs.Right.{HaveOneNet}
use Rattle.verdict.specs.declared.verdict.Verdict.{Verdict}

-- `x2` and the name of a manifest
pub record IsX2 (words : List (String Global)) (name : List ℕ) : Type 0 where
  pub spelled : map string_bytes words ≡ codes "x2" ∷ name ∷ []
  pub text : IsText name

-- Two labelled pieces have one net number exactly where a finite chain of touching pieces joins them. Each probe has the
-- number of its piece plus 1.
abbrev pub JoinsPieces : PlainBoard → Verdict → Type 0
JoinsPieces board verdict = (k l : ℕ) (p q : Probe) → slice_get board.probes k ≡ Some p → slice_get board.probes l ≡ Some q → HaveOneNet verdict k l ↔ Joined board (p.number - 1) (q.number - 1)

-- The package fits without its netlist, and this is the text of a right verdict on its labelled board, with a supplement,
-- with its status and its line. No probe is bare.
pub record IsLabelledReport (source : Source) (manifest text : List ℕ) (status : ℕ) (line : List ℕ) : Type 0 where
  pub board : PlainBoard
  pub board_is : IsLabelledBoardBy source manifest board
  pub report : IsReportOn board Two text status line
  pub none_bare : report.verdict.bare ≡ []
  pub joins : JoinsPieces board report.verdict

-- beside a stop: a label of the copper file of this name is amiss, and that is the first stop
abbrev pub X2Refuses : Source → List ℕ → Unanswered → Type 0
X2Refuses source manifest (Mislabelled name number byte) = IsFirstLabelledStopBy source manifest (mislabelled name number byte)
X2Refuses source manifest other = ⊥

abbrev pub x2 : List ℕ → Task
x2 manifest = record (on_package manifest (λ words. IsX2 words manifest) (codes "x2" ∷ manifest ∷ []) (λ source text status line. IsLabelledReport source manifest text status line)) {
  comes = λ source name. LabelledComesBy source manifest name;
  stops = λ source stop. IsFirstLabelledStopBy source manifest (unbuilt stop);
  refuses = λ source why. X2Refuses source manifest why;
  has_text = λ source. (board : PlainBoard) × IsLabelledBoardBy source manifest board;
}

-- the command that words behind its name can ask for; whether they are texts, and in range, is for `IsX2` to say
abbrev pub x2_by : List (List ℕ) → Option Command
x2_by (manifest ∷ []) = Some (X2 manifest)
x2_by other = None
