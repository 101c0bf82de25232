-- The common box of the pieces of a board, each grown by a distance, and what stands where it fits no frame.
use Rattle.std.specs.Prelude.{◌≡◌, ℤ, List, [], ◌∷◌, Option, Some, None}
use Rattle.contact.specs.declared.Bounds.{Bounds}
use Rattle.contact.specs.Solid.{joined}
use Rattle.board_shapes.specs.CommonBox.{Fits, FitsFrame}
use Rattle.board_shapes.specs.Figures.{figure_box}
use Rattle.board_shapes.specs.Pieces.{PlainPiece}
use Rattle.gaps.specs.Grown.{wider_box}
use Rattle.gaps.specs.declared.listing.GapFault.{GapFault}
use Rattle.gaps.specs.declared.listing.GapFault.TheVariants.{FrameTooLarge, NoMemory}

-- the box of the grown piece
abbrev pub grown_box : ℤ → PlainPiece → Bounds
grown_box g p = wider_box (figure_box p.figure) g

-- the least box with the box in it and the boxes of the grown pieces
abbrev pub grown_around : ℤ → Bounds → List PlainPiece → Bounds
grown_around g b [] = b
grown_around g b (p ∷ rest) = grown_around g (joined b (grown_box g p)) rest

-- the least box with the boxes of all grown pieces in it, where there are any
abbrev pub grown_common : ℤ → List PlainPiece → Option Bounds
grown_common g [] = None
grown_common g (p ∷ rest) = Some (grown_around g (grown_box g p) rest)

-- the fault has the common box, and the box does not fit; where memory is wanted, it does
abbrev pub IsGapFault : Option Bounds → GapFault → Type 0
IsGapFault common (FrameTooLarge b) = (common ≡ Some b) × ¬ FitsFrame b
IsGapFault common NoMemory = Fits common
