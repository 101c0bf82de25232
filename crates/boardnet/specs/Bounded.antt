-- What the command `between` answers of a real board and of two that bound it.
use Rattle.std.specs.Prelude.{◌≡◌, ℕ, List, [], ◌∷◌, Some, codes, decimal, slice_get}
use Rattle.std.specs.List.{concat}
use Rattle.arc_covers.specs.Counts.{AreCounts, IsFirstOther}
use Rattle.arc_covers.specs.Faults.{IsBoundsFault, on_side}
use Rattle.arc_covers.specs.Taken.{AreTaken}
use Rattle.arc_covers.specs.declared.between.BoundsFault.{BoundsFault}
use Rattle.arc_covers.specs.declared.between.BoundsFault.TheVariants as fault
use Rattle.arc_covers.specs.declared.side.Side.{Side}
use Rattle.arc_covers.specs.declared.side.Side.TheVariants.{Below, Above}
use Rattle.real_copper.specs.Shapes.{PlainReal, plain_reals}
use Rattle.real_shapes.specs.declared.RealShape.{RealShape}
use Rattle.board_shapes.specs.Plain.{PlainBoard}
use Rattle.board_shapes.specs.declared.placed.Origin.{Origin}
use Rattle.board_shapes.specs.declared.placed.Placed.{Placed}
use Rattle.reports.specs.Lines.{begin, end, file_line, not_counts_line}
use Rattle.boardnet.specs.declared.unbound.Unbound.{Unbound}
use Rattle.boardnet.specs.declared.unbound.Unbound.TheVariants.{NotCounts, Netlist, Counts, Piece}
use Rattle.real_package.specs.RealBoards.{HasNetlistOf, PlainRealBoard}

-- ---- Bounds

-- The bytes are a file of counts, and both boards have the test points, names and layers of the real one, whose pieces these are.
pub record AreCounted (real : PlainRealBoard) (lower upper : PlainBoard) (bytes : List ℕ) : Type 0 where
  pub lower_counts : List ℕ
  pub upper_counts : List ℕ
  pub counts : AreCounts bytes lower_counts upper_counts
  pub lower_netlist : HasNetlistOf real lower
  pub upper_netlist : HasNetlistOf real upper
  pub pieces : List (Placed RealShape)
  pub are : plain_reals pieces ≡ real.pieces

-- So it is, and by the counts the checks take the pieces of the lower board for those of the real one as a bound below, and those of the upper one
-- as a bound above.
pub record AreBoundedBy (real : PlainRealBoard) (lower upper : PlainBoard) (bytes : List ℕ) : Type 0 where
  pub counted : AreCounted real lower upper bytes
  pub below : AreTaken Below counted.pieces counted.lower_counts lower.pieces
  pub above : AreTaken Above counted.pieces counted.upper_counts upper.pieces

-- The checks do not take them, and this is their fault.
pub record AreNotTaken (real : PlainRealBoard) (lower upper : PlainBoard) (bytes : List ℕ) (why : BoundsFault) : Type 0 where
  pub counted : AreCounted real lower upper bytes
  pub off : IsBoundsFault counted.pieces counted.lower_counts lower.pieces counted.upper_counts upper.pieces why

-- the bytes are a file of counts
abbrev pub HasCounts : List ℕ → Type 0
HasCounts bytes = (lower upper : List ℕ) × AreCounts bytes lower upper

-- a board has other test points, names or layers; the lower one is judged first
abbrev pub HasOtherNetlist : Side → PlainRealBoard → PlainBoard → PlainBoard → Type 0
HasOtherNetlist Below real lower upper = HasNetlistOf real lower → ⊥
HasOtherNetlist Above real lower upper = HasNetlistOf real lower × (HasNetlistOf real upper → ⊥)

-- real piece n comes from there
abbrev pub ComesFrom : PlainRealBoard → ℕ → Origin → Type 0
ComesFrom real n origin = (piece : PlainReal) × (slice_get real.pieces n ≡ Some piece) × (piece.origin ≡ origin)

-- Why the boards are no bounds of the real one by these bytes, in this order: a line of the bytes is none of counts; a board has other test points, names or layers; the counts
-- do not add up; the pieces of one side are not taken for a real piece, which is the first.
abbrev pub IsUnboundBy : PlainRealBoard → PlainBoard → PlainBoard → List ℕ → Unbound → Type 0
IsUnboundBy real lower upper bytes (NotCounts line) = IsFirstOther bytes line
IsUnboundBy real lower upper bytes (Netlist side) = HasCounts bytes × HasOtherNetlist side real lower upper
IsUnboundBy real lower upper bytes (Counts side) = AreNotTaken real lower upper bytes (fault.Counts side)
IsUnboundBy real lower upper bytes (Piece side origin) = (n : ℕ) × AreNotTaken real lower upper bytes (fault.Piece side n) × ComesFrom real n origin

-- ---- What is said where they bound nothing

-- where a real piece comes from, and what is said of it
abbrev pub piece_line : List ℕ → List ℕ → Origin → List ℕ
piece_line real what origin =
    concat (begin ∷ real ∷ codes ": file " ∷ decimal origin.file ∷ codes ", command " ∷ decimal origin.command ∷ codes ", copy " ∷ decimal origin.copy ∷ what ∷ end ∷ [])

-- the line, by the names of the real manifest and of the file of counts
abbrev pub unbound_line : (real counts : List ℕ) → Unbound → List ℕ
unbound_line real counts (NotCounts line) = not_counts_line counts line
unbound_line real counts (Netlist side) = file_line real (on_side side (codes "lower board has other test points, names or layers") (codes "upper board has other test points, names or layers"))
unbound_line real counts (Counts side) = file_line counts (on_side side (codes "counts below do not add up") (codes "counts above do not add up"))
unbound_line real counts (Piece side origin) = piece_line real (on_side side (codes ": not bounded below") (codes ": not bounded above")) origin
