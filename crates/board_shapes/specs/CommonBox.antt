-- The common box of pieces, and the frame that lies over it.
use Rattle.std.specs.Prelude.{pos, ◌-ℤ◌, ◌≤ℤ◌, List, [], ◌∷◌, Option, Some, None}
use Rattle.planar.specs.declared.Frame.{Frame}
use Rattle.planar.specs.declared.TheConstants.{SIDE}
use Rattle.contact.specs.declared.Bounds.{Bounds}
use Rattle.contact.specs.Solid.{joined}
use Rattle.board_shapes.specs.Figures.{figure_box}
use Rattle.board_shapes.specs.Pieces.{PlainPiece}

-- the least box with the box in it and the boxes of the pieces
abbrev pub box_around : Bounds → List PlainPiece → Bounds
box_around b [] = b
box_around b (p ∷ rest) = box_around (joined b (figure_box p.figure)) rest

-- the least box with the boxes of all pieces in it, where there are any
abbrev pub common_box : List PlainPiece → Option Bounds
common_box [] = None
common_box (p ∷ rest) = Some (box_around (figure_box p.figure) rest)

-- both sides of the box are at most that of a frame
pub record FitsFrame (b : Bounds) : Type 0 where
  pub across : (b.right -ℤ b.left) ≤ℤ SIDE
  pub up : (b.high -ℤ b.low) ≤ℤ SIDE

-- the box, where there is one, fits
abbrev pub Fits : Option Bounds → Type 0
Fits None = Unit {0}
Fits (Some b) = FitsFrame b

-- the frame from the lower left corner of the box, or from (0, 0) where there is none
abbrev pub frame_over : Option Bounds → Frame
frame_over None = record { left = pos 0; low = pos 0 }
frame_over (Some b) = record { left = b.left; low = b.low }
