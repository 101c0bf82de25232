-- How far boxes and spots lie from the frame's lower left corner.
use Rattle.std.specs.Prelude.{ℕ, pos, ◌≡◌, ◌≤◌, ◌+ℤ◌, ◌≤ℤ◌, Some, slice_get}
use Rattle.board_shapes.specs.Figures.{figure_box}
use Rattle.board_shapes.specs.Plain.{PlainBoard, PlainPiece, frame_of}
use Rattle.board_shapes.specs.declared.probe.Probe.{Probe}
use Rattle.contact.specs.declared.Bounds.{Bounds}
use Rattle.planar.specs.declared.Frame.{Frame}
use Rattle.planar.specs.declared.Spot.{Spot}
use Rattle.planar.specs.declared.TheConstants.{SIDE}
use Rattle.witness_check.specs.declared.extent.Away.{Away}
use Rattle.witness_check.specs.declared.extent.Extent.{Extent}

-- the sides of the box, told by how far they lie from the frame's lower left corner
pub record IsExtent (frame : Frame) (box : Bounds) (e : Extent) : Type 0 where
  pub left : box.left ≡ frame.left +ℤ pos e.left
  pub right : box.right ≡ frame.left +ℤ pos e.right
  pub low : box.low ≡ frame.low +ℤ pos e.low
  pub high : box.high ≡ frame.low +ℤ pos e.high
  pub across : e.left ≤ e.right
  pub up : e.low ≤ e.high
  pub short : pos e.right ≤ℤ SIDE
  pub flat : pos e.high ≤ℤ SIDE

-- how far the spot lies from the frame's lower left corner, where it lies neither left of it nor below it
pub record IsAway (frame : Frame) (spot : Spot) (a : Away) : Type 0 where
  pub along : frame.left ≤ℤ spot.x → spot.x ≡ frame.left +ℤ pos a.along
  pub up : frame.low ≤ℤ spot.y → spot.y ≡ frame.low +ℤ pos a.up

-- the extent is that of piece p of the board
pub record IsExtentAt (b : PlainBoard) (p : ℕ) (e : Extent) : Type 0 where
  pub piece : PlainPiece
  pub is : slice_get b.pieces p ≡ Some piece
  pub sides : IsExtent (frame_of b) (figure_box piece.figure) e

-- so far from the corner stands probe k of the board
pub record IsAwayAt (b : PlainBoard) (k : ℕ) (a : Away) : Type 0 where
  pub probe : Probe
  pub is : slice_get b.probes k ≡ Some probe
  pub stands : IsAway (frame_of b) probe.at a
