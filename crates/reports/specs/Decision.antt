-- What right verdicts on two boards decide of a board between them.
use Rattle.std.specs.Prelude.{◌≡◌, ℕ, List}
use Rattle.board_shapes.specs.LawfulBoard.{IsLawfulBoard}
use Rattle.board_shapes.specs.Plain.{PlainBoard}
use Rattle.reports.specs.BetweenText.{IsDecision, between_text}
use Rattle.reports.specs.Right.{IsRightOn}
use Rattle.verdict.specs.declared.verdict.Verdict.{Verdict}

-- The text of right verdicts on two boards of what is decided of one between them that has so many pieces, with its status and its line.
pub record IsDecisionOn (count : ℕ) (lower upper : PlainBoard) (text : List ℕ) (status : ℕ) (line : List ℕ) : Type 0 where
  pub below : Verdict
  pub above : Verdict
  pub lower_lawful : IsLawfulBoard lower
  pub upper_lawful : IsLawfulBoard upper
  pub lower_right : IsRightOn lower below
  pub upper_right : IsRightOn upper above
  pub text_is : text ≡ between_text count lower.probes lower.names below above
  pub status_is : IsDecision below above status line
