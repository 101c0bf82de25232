-- Why boards are no bounds of a real one that the check takes.
use Rattle.std.specs.Prelude.{ℕ, ◌+◌, ◌≡◌, List, Some, slice_get}
use Rattle.board_shapes.specs.Pieces.{PlainPiece}
use Rattle.board_shapes.specs.declared.placed.Placed.{Placed}
use Rattle.arc_covers.specs.Bounds.{AddUp, share_of}
use Rattle.arc_covers.specs.Taken.{FirstTaken, PiecesAreTaken}
use Rattle.arc_covers.specs.declared.between.BoundsFault.{BoundsFault}
use Rattle.arc_covers.specs.declared.between.BoundsFault.TheVariants.{Counts, Piece, NoMemory}
use Rattle.real_shapes.specs.declared.RealShape.{RealShape}
use Rattle.arc_covers.specs.declared.side.Side.{Side}
use Rattle.arc_covers.specs.declared.side.Side.TheVariants.{Below, Above}

-- what belongs to the side, of something below and something above
abbrev pub on_side : {A : Type 0} → Side → A → A → A
on_side Below lower upper = lower
on_side Above lower upper = upper

-- the counts of that side are the first that do not add up
abbrev pub AreFirstOff : Side → List (Placed RealShape) → List ℕ → List PlainPiece → List ℕ → List PlainPiece → Type 0
AreFirstOff Below real lower_counts lower upper_counts upper = ¬ AddUp real lower_counts lower
AreFirstOff Above real lower_counts lower upper_counts upper = AddUp real lower_counts lower × ¬ AddUp real upper_counts upper

-- All counts add up, and real piece n is the first for which pieces are not taken: for all before it they are on both sides, for itself not on this one, which is above only if they are
-- below
pub record IsFirstFault (side : Side) (n : ℕ) (real : List (Placed RealShape)) (lower_counts : List ℕ) (lower : List PlainPiece) (upper_counts : List ℕ) (upper : List PlainPiece) : Type 0 where
  pub counted_below : AddUp real lower_counts lower
  pub counted_above : AddUp real upper_counts upper
  pub piece : Placed RealShape
  pub there : slice_get real n ≡ Some piece
  pub below : FirstTaken Below (on_side side n (n + 1)) real lower_counts lower
  pub above : FirstTaken Above n real upper_counts upper
  pub refused : ¬ PiecesAreTaken side piece (share_of (on_side side lower_counts upper_counts) (on_side side lower upper) n)

-- the fault is one of these boards
abbrev pub IsBoundsFault : List (Placed RealShape) → List ℕ → List PlainPiece → List ℕ → List PlainPiece → BoundsFault → Type 0
IsBoundsFault real lower_counts lower upper_counts upper (Counts side) = AreFirstOff side real lower_counts lower upper_counts upper
IsBoundsFault real lower_counts lower upper_counts upper (Piece side n) = IsFirstFault side n real lower_counts lower upper_counts upper
IsBoundsFault real lower_counts lower upper_counts upper NoMemory = Unit {0}
