-- The laws of verdicts on small boards.
use Rattle.std.specs.Prelude.{◌*◌, ◌<◌, ◌≤◌, ℕ, length, All}
use Rattle.board_shapes.specs.declared.TheConstants.{MOST_PIECES}
use Rattle.ipc356_records.specs.declared.TheConstants.{MOST_RECORDS}
use Rattle.tables.specs.Tables.{Tables, TestPoint}
use Rattle.verdict.specs.Limits.{HasFewParts, HasSixDigits, HasSmallParts, IsRecordName}
use Rattle.verdict.specs.Right.{IsRight}
use Rattle.verdict.specs.declared.verdict.Verdict.{Verdict}

-- the record and the layer of a test point have six digits at most, and its name is one of so many
pub record IsSmallPoint (names : ℕ) (point : TestPoint) : Type 0 where
  pub number : HasSixDigits point.number
  pub layer : HasSixDigits point.layer
  pub name : point.name < names

-- a board with as many pieces, points and names as a package may have, named as in its records
pub record IsSmallBoard (board : Tables) : Type 0 where
  pub pieces : length board.near ≤ MOST_PIECES
  pub points : length board.points ≤ 2 * MOST_RECORDS
  pub names : length board.names ≤ MOST_RECORDS
  pub short_names : All IsRecordName board.names
  pub known : All (IsSmallPoint (length board.names)) board.points

-- a verdict with small numbers and few parts
pub record IsSmallVerdict (verdict : Verdict) : Type 0 where
  pub small : HasSmallParts verdict
  pub few : HasFewParts verdict

-- A right verdict on a small board is small: each of its numbers, and how much it lists.
abbrev pub RightVerdictsAreSmall : Type 0
RightVerdictsAreSmall = (board : Tables) (verdict : Verdict) → IsSmallBoard board → IsRight board verdict → IsSmallVerdict verdict
