-- Laws over real boards between two that the program can read, and over files of counts.
use Rattle.std.specs.Prelude.{ℕ, ◌≡◌, ◌≢◌, ◌⊎◌, true, List, [], All, map, slice_get}
use Rattle.planar.specs.Plane.{Point}
use Rattle.board_shapes.specs.LawfulBoard.{IsLawfulBoard}
use Rattle.board_shapes.specs.Pieces.{PlainPiece}
use Rattle.board_shapes.specs.Plain.{PlainBoard}
use Rattle.board_shapes.specs.declared.placed.Placed.{Placed}
use Rattle.verdict.specs.declared.verdict.Verdict.{Verdict}
use Rattle.witness_check.specs.BoardLaws.{IsRightFor}
use Rattle.covers.specs.Agreeing.{AgreesWithNames}
use Rattle.covers.specs.Boards.{Layout}
use Rattle.covers.specs.Covering.{Covers}
use Rattle.covers.specs.Laws.{Decides}
use Rattle.covers.specs.Plain.{InPiece, layout_of}
use Rattle.arc_covers.specs.Bounds.{AreBounds}
use Rattle.arc_covers.specs.Counts.{AreCounts, IsFirstOther}
use Rattle.arc_covers.specs.Findings.{HasOpen, HasShort, IsWithoutCopper}
use Rattle.arc_covers.specs.RealBoards.{IsCopperOf, IsReal, least_at, least_copper, real_span}
use Rattle.arc_covers.specs.Taken.{AreTaken}
use Rattle.real_shapes.specs.Settled.{is_settled}
use Rattle.real_shapes.specs.declared.RealShape.{RealShape}
use Rattle.arc_covers.specs.declared.side.Side.{Side}
use Rattle.arc_covers.specs.declared.side.Side.TheVariants.{Below, Above}

-- Pieces that are taken stand for the real ones
abbrev pub TakenAreBounds : Type 0
TakenAreBounds = (side : Side) (real : List (Placed RealShape)) (counts : List ℕ) (pieces : List PlainPiece) → AreTaken side real counts pieces → AreBounds side real counts pieces

-- Each shape whose turn is less than a right angle, and which has from 3 to 12 corners where it is a polygon, has a copper: what is surely in it
abbrev pub ShapesHaveCopper : Type 0
ShapesHaveCopper = (s : RealShape) → is_settled s ≡ true → IsCopperOf s (least_copper s)

-- So there is one of each board of such shapes
abbrev pub RealBoardsHaveCopper : Type 0
RealBoardsHaveCopper = (pieces : List (Placed RealShape)) (b : Layout) → All (λ piece. is_settled piece.shape ≡ true) pieces → b.spans ≡ map real_span pieces → IsReal pieces (λ i p. least_at (slice_get pieces i) p) b

-- the board is covered by the real one, and this by the board above
pub record LiesBetween (lower : PlainBoard) (holds : ℕ → Point → Type 0) (real : Layout) (upper : PlainBoard) : Type 0 where
  pub below : Covers (InPiece lower) (layout_of lower) holds real
  pub above : Covers holds real (InPiece upper) (layout_of upper)

-- the board has the test points, names and layers of the real one
pub record HasItsNetlist (b : PlainBoard) (real : Layout) : Type 0 where
  pub probes : b.probes ≡ real.probes
  pub names : b.names ≡ real.names
  pub layers : b.layers ≡ real.layers

-- the pieces of both boards, as they are counted, stand for those of the real board, and all three have one netlist
pub record AreBoundsOf (lower upper : PlainBoard) (holds : ℕ → Point → Type 0) (real : Layout) : Type 0 where
  pub pieces : List (Placed RealShape)
  pub lower_counts : List ℕ
  pub upper_counts : List ℕ
  pub below : AreBounds Below pieces lower_counts lower.pieces
  pub above : AreBounds Above pieces upper_counts upper.pieces
  pub real_is : IsReal pieces holds real
  pub lower_netlist : HasItsNetlist lower real
  pub upper_netlist : HasItsNetlist upper real

-- A board of figures, arc draws, slanted lines, regions with arcs, turned figures and discs, regular polygons and fine figures lies between two whose pieces stand for its own, whatever copper it has of those that its pieces may have
abbrev pub BoundsLieBetween : (ℕ → Point → Type 0) → Type 0
BoundsLieBetween holds = (lower upper : PlainBoard) (real : Layout) → AreBoundsOf lower upper holds real → LiesBetween lower holds real upper

-- the verdicts are right for the boards
pub record AreJudged (lower upper : PlainBoard) (v w : Verdict) : Type 0 where
  pub lower_lawful : IsLawfulBoard lower
  pub upper_lawful : IsLawfulBoard upper
  pub lower_right : IsRightFor lower v
  pub upper_right : IsRightFor upper w

-- So it agrees with its names where the verdict below has no opens and no missing points and that above no shorts
abbrev pub RealBoardAgrees : (ℕ → Point → Type 0) → Type 0
RealBoardAgrees holds = (lower upper : PlainBoard) (v w : Verdict) (real : Layout) → AreBoundsOf lower upper holds real → AreJudged lower upper v w → v.opens ≡ [] → v.bare ≡ [] → w.shorts ≡ [] → AgreesWithNames holds real

-- And what the verdicts say of nets is certain of it
abbrev pub RealBoardIsDecided : (ℕ → Point → Type 0) → Type 0
RealBoardIsDecided holds = (lower upper : PlainBoard) (v w : Verdict) (real : Layout) → AreBoundsOf lower upper holds real → AreJudged lower upper v w → Decides v w holds real

-- What the lists of a verdict v below the board and w above it say of it for certain.
pub record CertainFindings (v w : Verdict) (holds : ℕ → Point → Type 0) (real : Layout) : Type 0 where
  -- The point of each open listed above is joined to no earlier point of its name.
  pub opens : All (HasOpen holds real) w.opens
  -- Each short listed below is the board's.
  pub shorts : All (HasShort holds real) v.shorts
  -- Each point listed above without a net is without copper.
  pub missing : All (IsWithoutCopper holds real) w.bare
  -- A board with one of these does not agree with its names.
  pub differs : (w.opens ≢ []) ⊎ (v.shorts ≢ []) ⊎ (w.bare ≢ []) → AgreesWithNames holds real → ⊥

-- And certain of it are the opens and missing points that the verdict above lists, and the shorts that the one below does
abbrev pub FindingsAreCertain : (ℕ → Point → Type 0) → Type 0
FindingsAreCertain holds = (lower upper : PlainBoard) (v w : Verdict) (real : Layout) → AreBoundsOf lower upper holds real → AreJudged lower upper v w → CertainFindings v w holds real

-- Bytes spell at most one pair of lists of counts
abbrev pub CountsAreOne : Type 0
CountsAreOne = (bytes lower upper lower' upper' : List ℕ) → AreCounts bytes lower upper → AreCounts bytes lower' upper' → (lower ≡ lower') × (upper ≡ upper')

-- Of bytes that spell one no line is of another form
abbrev pub CountsHaveNoOther : Type 0
CountsHaveNoOther = (bytes lower upper : List ℕ) (n : ℕ) → AreCounts bytes lower upper → ¬ IsFirstOther bytes n

-- One line at most is the first that is
abbrev pub FirstOtherIsOne : Type 0
FirstOtherIsOne = (bytes : List ℕ) (n m : ℕ) → IsFirstOther bytes n → IsFirstOther bytes m → n ≡ m
