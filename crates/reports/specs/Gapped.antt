-- What the command `gaps` answers of a board.
use Rattle.std.specs.Prelude.{◌≡◌, ◌*◌, ◌<◌, ◌⊎◌, ℕ, List, length, pos, codes, Some}
use Rattle.board_shapes.specs.CommonBox.{Fits, FitsFrame}
use Rattle.board_shapes.specs.Plain.{PlainBoard}
use Rattle.reports.specs.Lines.{counted_line, plain_line}
use Rattle.reports.specs.Right.{IsRightOn}
use Rattle.contact.specs.declared.Bounds.{Bounds}
use Rattle.gaps.specs.Gaps.{AreGaps, CloseAt}
use Rattle.gaps.specs.GapsText.{gaps_text}
use Rattle.gaps.specs.GrownBox.{grown_common}
use Rattle.gaps.specs.declared.gap.Gap.{Gap}
use Rattle.gaps.specs.declared.listing.GapFault.{GapFault}
use Rattle.gaps.specs.declared.listing.GapFault.TheVariants as gap
use Rattle.verdict.specs.declared.verdict.Verdict.{Verdict}

-- the status of so many gaps, and the line
abbrev pub IsGapStatus : ℕ → ℕ → List ℕ → Type 0
IsGapStatus count status line = ((count ≡ 0) × (status ≡ 0) × (line ≡ plain_line (codes "no gaps"))) ⊎ ((0 < count) × (status ≡ 1) × (line ≡ counted_line (codes "gaps ") count))

-- The gaps of a board at so many nanometres, between the nets of a right verdict on it, with the status and the line; a
-- nanometre is 10 u. The pieces, grown by half the distance, fit in a frame.
pub record IsGapListOn (board : PlainBoard) (nanometres : ℕ) (text : List ℕ) (status : ℕ) (line : List ℕ) : Type 0 where
  pub verdict : Verdict
  pub right : IsRightOn board verdict
  pub list : List Gap
  pub are : AreGaps (CloseAt board (pos (10 * nanometres))) verdict.nets list
  pub fits : Fits (grown_common (pos (5 * nanometres)) board.pieces)
  pub text_is : text ≡ gaps_text nanometres list
  pub status_is : IsGapStatus (length list) status line

-- the common box of the pieces, grown by half the distance, is this one and too large
pub record IsTooWide (board : PlainBoard) (nanometres : ℕ) (box : Bounds) : Type 0 where
  pub common : grown_common (pos (5 * nanometres)) board.pieces ≡ Some box
  pub large : FitsFrame box → ⊥

-- why a board has no list of gaps
abbrev pub IsUngapped : PlainBoard → ℕ → GapFault → Type 0
IsUngapped board nanometres (gap.FrameTooLarge box) = IsTooWide board nanometres box
IsUngapped board nanometres gap.NoMemory = Unit {0}
