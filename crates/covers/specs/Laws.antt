-- Laws over boards whose copper is any set of points.
use Rattle.std.specs.Prelude.{ℕ}
use Rattle.planar.specs.Plane.{Point}
use Rattle.board_shapes.specs.LawfulBoard.{IsLawfulBoard}
use Rattle.board_shapes.specs.Plain.{PlainBoard}
use Rattle.verdict.specs.Right.{HaveOneNet}
use Rattle.verdict.specs.declared.verdict.Verdict.{Verdict}
use Rattle.witness_check.specs.BoardLaws.{IsRightFor}
use Rattle.witness_check.specs.Laws.{IsWithoutNet}
use Rattle.covers.specs.Agreeing.{AgreesWithNames, NoneMissing, NoneOpen, NoneShort}
use Rattle.covers.specs.Boards.{HasCopper, Layout, PointsJoined}
use Rattle.covers.specs.Covering.{Covers}
use Rattle.covers.specs.Plain.{InPiece, layout_of}

-- What is joined on a board is joined on one that covers it, and what has copper there has copper here.
pub record KeepsJoins (holds : ℕ → Point → Type 0) (b : Layout) (holds' : ℕ → Point → Type 0) (c : Layout) : Type 0 where
  pub joined : (k l : ℕ) → PointsJoined holds b k l → PointsJoined holds' c k l
  pub copper : (k : ℕ) → HasCopper holds b k → HasCopper holds' c k

-- A board that covers another keeps its joins
abbrev pub CoversKeepJoins : (ℕ → Point → Type 0) → (ℕ → Point → Type 0) → Type 0
CoversKeepJoins holds holds' = (b c : Layout) → Covers holds b holds' c → KeepsJoins holds b holds' c

-- A board agrees with its names where one below it has no opens and no missing points and one above it no shorts
abbrev pub BoundsAgree : (ℕ → Point → Type 0) → (ℕ → Point → Type 0) → (ℕ → Point → Type 0) → Type 0
BoundsAgree below holds above = (lower real upper : Layout) → Covers below lower holds real → Covers holds real above upper
    → NoneMissing below lower → NoneOpen below lower → NoneShort above upper → AgreesWithNames holds real

-- the board lies between two that the program can read, and a verdict on each of these is right
pub record IsBetween (lower upper : PlainBoard) (v w : Verdict) (holds : ℕ → Point → Type 0) (real : Layout) : Type 0 where
  pub lower_lawful : IsLawfulBoard lower
  pub upper_lawful : IsLawfulBoard upper
  pub below : Covers (InPiece lower) (layout_of lower) holds real
  pub above : Covers holds real (InPiece upper) (layout_of upper)
  pub lower_right : IsRightFor lower v
  pub upper_right : IsRightFor upper w

-- What both verdicts say of the board between them.
pub record Decides (v w : Verdict) (holds : ℕ → Point → Type 0) (real : Layout) : Type 0 where
  -- What is on one net below is joined, so shorts below are the board's.
  pub shorts : (k l : ℕ) → HaveOneNet v k l → PointsJoined holds real k l
  -- What is joined is on one net above, so points that an open above parts are not joined.
  pub opens : (k l : ℕ) → PointsJoined holds real k l → HaveOneNet w k l
  -- A point without a net above has no copper.
  pub missing : (k : ℕ) → IsWithoutNet w k → HasCopper holds real k → ⊥
