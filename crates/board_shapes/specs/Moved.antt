-- Pieces shifted.
use Rattle.std.specs.Prelude.{ℕ, ℤ, ◌+ℤ◌, List, [], ◌∷◌, All, map}
use Rattle.planar.specs.Plane.{IsPlaced, IsWithin}
use Rattle.planar.specs.declared.Spot.{Spot}
use Rattle.planar.specs.declared.TheConstants.{TWO_METRES}
use Rattle.board_shapes.specs.Figures.{Figure, round, filled}
use Rattle.board_shapes.specs.Pieces.{PlainPiece}
use Rattle.board_shapes.specs.declared.moved.MoveFault.{MoveFault}
use Rattle.board_shapes.specs.declared.moved.MoveFault.TheVariants.{OutOfRange, NoMemory}
use Rattle.board_shapes.specs.declared.moved.Shift.{Shift}

-- a way of at most two metres
abbrev pub IsShift : ℤ → Type 0
IsShift z = IsWithin TWO_METRES z

-- a way of at most two metres across and up
abbrev pub IsWay : Shift → Type 0
IsWay by = IsShift by.x × IsShift by.y

-- the spot, so much further to the right and up
abbrev pub shifted : ℤ → ℤ → Spot → Spot
shifted dx dy p = record { x = p.x +ℤ dx; y = p.y +ℤ dy }

-- the figure with each of its ends or corners shifted
abbrev pub shifted_figure : ℤ → ℤ → Figure → Figure
shifted_figure dx dy (round s) = round (record { a = shifted dx dy s.a; b = shifted dx dy s.b; r = s.r })
shifted_figure dx dy (filled points) = filled (map (shifted dx dy) points)

-- both ends of a stroke, or the points of a contour
abbrev pub corners : Figure → List Spot
corners (round s) = s.a ∷ s.b ∷ []
corners (filled points) = points

-- each end or corner, shifted, is within one metre
abbrev pub StaysPlaced : ℤ → ℤ → Figure → Type 0
StaysPlaced dx dy f = All IsPlaced (map (shifted dx dy) (corners f))

-- why a figure cannot be shifted
abbrev pub IsMoveFault : ℤ → ℤ → Figure → MoveFault → Type 0
IsMoveFault dx dy f OutOfRange = ¬ StaysPlaced dx dy f
IsMoveFault dx dy f NoMemory = Unit {0}

-- the piece shifted, as that copy
abbrev pub moved_piece : ℤ → ℤ → ℕ → PlainPiece → PlainPiece
moved_piece dx dy copy p = record p { figure = shifted_figure dx dy p.figure; origin = record (p.origin) { copy = copy } }
