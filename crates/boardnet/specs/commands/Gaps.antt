-- The command `gaps MANIFEST NANOMETRES`: the gaps of the package are listed.
use Rattle.std.specs.Str.Parse.{digits_value}
use Rattle.std.specs.Prelude.{◌≡◌, ◌≤◌, ℕ, List, [], ◌∷◌, codes, decimal, map, string_bytes, String, pos, ◌*◌, Option, Some, None}
use Rattle.std.specs.declared.alloc.Global.{Global}
use Rattle.board_shapes.specs.Plain.{Fits, PlainBoard}
use Rattle.boardnet.specs.Command.{Command, Gaps}
use Rattle.reports.specs.Gapped.{IsGapListOn, IsTooWide}
use Rattle.boardnet.specs.Source.{Source, FitsWith, IsBoardBy}
use Rattle.boardnet.specs.Task.{Task, on_package}
use Rattle.boardnet.specs.declared.answer.Unanswered.{Unanswered}
use Rattle.boardnet.specs.declared.answer.Unanswered.TheVariants.{GrownTooLarge}
use Rattle.gaps.specs.declared.TheConstants.{MOST_NANOMETRES}
use Rattle.gaps.specs.GrownBox.{grown_common}
use Rattle.lengths.specs.Text.{IsText}

-- `gaps`, the name of a manifest and a number from 0 to 10,000,000, as a decimal without a sign or a leading zero
pub record IsGaps (words : List (String Global)) (name : List ℕ) (nanometres : ℕ) : Type 0 where
  pub spelled : map string_bytes words ≡ codes "gaps" ∷ name ∷ decimal nanometres ∷ []
  pub text : IsText name
  pub few : nanometres ≤ MOST_NANOMETRES

-- The package fits, and this is the list of gaps of its board, with the status and the line.
abbrev pub IsGapped : Source → List ℕ → ℕ → List ℕ → ℕ → List ℕ → Type 0
IsGapped source manifest nanometres text status line = FitsWith source manifest (λ board. IsGapListOn board nanometres text status line)

-- Beside a stop: the package fits, but not with its pieces grown by half the distance, and this is their common box.
abbrev pub GapsRefuses : Source → List ℕ → ℕ → Unanswered → Type 0
GapsRefuses source manifest nanometres (GrownTooLarge box) = FitsWith source manifest (λ board. IsTooWide board nanometres box)
GapsRefuses source manifest nanometres other = ⊥

abbrev pub gaps : List ℕ → ℕ → Task
gaps manifest nanometres = record (on_package manifest (λ words. IsGaps words manifest nanometres) (codes "gaps" ∷ manifest ∷ decimal nanometres ∷ []) (λ source text status line. IsGapped source manifest nanometres text status line)) {
  in_range = IsText manifest × (nanometres ≤ MOST_NANOMETRES);
  refuses = λ source why. GapsRefuses source manifest nanometres why;
  has_text = λ source. (board : PlainBoard) × IsBoardBy source manifest board × Fits (grown_common (pos (5 * nanometres)) board.pieces);
}

-- the command that words behind its name can ask for; whether they are texts, and in range, is for `IsGaps` to say
abbrev pub gaps_by : List (List ℕ) → Option Command
gaps_by (manifest ∷ nanometres ∷ []) = Some (Gaps manifest (digits_value 10 nanometres))
gaps_by other = None
