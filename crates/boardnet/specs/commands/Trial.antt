-- The command `trial SEED SIZE`: the made board of two numbers is checked.
use Rattle.std.specs.Str.Parse.{digits_value}
use Rattle.std.specs.Prelude.{◌≡◌, ◌<◌, ◌≤◌, ℕ, List, [], ◌∷◌, Some, codes, decimal, ◌^◌, map, string_bytes, String, Option, None}
use Rattle.std.specs.declared.alloc.Global.{Global}
use Rattle.board_maker.specs.MadePackage.{made_files}
use Rattle.board_maker.specs.declared.TheConstants.{MOST_CELLS}
use Rattle.board_package.specs.PackageBoard.{IsBoardOf, IsFirstStop}
use Rattle.board_shapes.specs.Plain.{PlainBoard}
use Rattle.boardnet.specs.Command.{Command, Trial}
use Rattle.reports.specs.Lines.{plain_line}
use Rattle.reports.specs.Right.{IsRightOn}
use Rattle.boardnet.specs.Task.{Task}
use Rattle.boardnet.specs.declared.answer.Unanswered.{Unanswered}
use Rattle.boardnet.specs.declared.answer.Unanswered.TheVariants.{SizeTooLarge}
use Rattle.reports.specs.Summary.{IsStatusOf, summary_text}
use Rattle.verdict.specs.declared.verdict.Verdict.{Verdict}

-- `trial`, a seed below 2^64 and a size below 2^32, as decimals without a sign or a leading zero
pub record IsTrial (words : List (String Global)) (seed size : ℕ) : Type 0 where
  pub spelled : map string_bytes words ≡ codes "trial" ∷ decimal seed ∷ decimal size ∷ []
  pub seed_fits : seed < 2 ^ 64
  pub size_fits : size < 2 ^ 32

-- the name of a made package's manifest
abbrev pub made_manifest : List ℕ
made_manifest = codes "m.json"

-- The made package fits, and this is the summary of a right verdict on its board, with its status and its line.
pub record IsTrialReport (seed size : ℕ) (text : List ℕ) (status : ℕ) (line : List ℕ) : Type 0 where
  pub small : size ≤ MOST_CELLS
  pub board : PlainBoard
  pub board_is : IsBoardOf (made_files seed size) made_manifest board
  pub verdict : Verdict
  pub right : IsRightOn board verdict
  pub text_is : text ≡ summary_text seed size verdict
  pub status_is : IsStatusOf verdict status
  pub line_is : line ≡ plain_line (codes "trial done")

-- beside a stop: there is no made board of the size
abbrev pub TrialRefuses : ℕ → Unanswered → Type 0
TrialRefuses size SizeTooLarge = MOST_CELLS < size
TrialRefuses size other = ⊥

-- It takes no file of the package.
abbrev pub trial : ℕ → ℕ → Task
trial seed size = record {
  asks = λ words. IsTrial words seed size;
  spelled = codes "trial" ∷ decimal seed ∷ decimal size ∷ [];
  in_range = (seed < 2 ^ 64) × (size < 2 ^ 32);
  subject = made_manifest;
  report = [];
  takes = ⊥;
  reads = λ held. Some (made_files seed size);
  comes = λ source name. ⊥;
  stops = λ source stop. (size ≤ MOST_CELLS) × IsFirstStop (made_files seed size) made_manifest stop;
  refuses = λ source why. TrialRefuses size why;
  answers = λ source text status line. IsTrialReport seed size text status line;
  has_text = λ source. (size ≤ MOST_CELLS) × (board : PlainBoard) × IsBoardOf (made_files seed size) made_manifest board;
}

-- the command that words behind its name can ask for; whether they are texts, and in range, is for `IsTrial` to say
abbrev pub trial_by : List (List ℕ) → Option Command
trial_by (seed ∷ size ∷ []) = Some (Trial (digits_value 10 seed) (digits_value 10 size))
trial_by other = None
