-- What the files of a made package are read as.
use Rattle.std.specs.Prelude.{◌≡◌, ℕ, zero, suc, ◌+◌, ◌*◌, ◌≤◌, if◌then◌else◌, List, [], ◌∷◌, ◌++◌, map, pos, decimal}
use Rattle.board_maker.specs.MadeBoard.{column, is_bridged, is_broken, part_text, row}
use Rattle.board_maker.specs.declared.files.Part.{Part}
use Rattle.board_maker.specs.declared.files.Part.TheVariants.{Top, Bottom, Holes, Points}
use Rattle.board_maker.specs.declared.TheConstants.{MOST_CELLS}
use Rattle.board_shapes.specs.Figures.{Figure, filled, round}
use Rattle.board_shapes.specs.Pieces.{PlainPiece}
use Rattle.board_shapes.specs.Rectangles.{lower, rectangle, upper}
use Rattle.board_shapes.specs.declared.probe.Probe.{Probe}
use Rattle.gerber_reading.specs.declared.place.Place.{Place as LayerPlace}
use Rattle.gerber_layer.specs.Layer as layer_file
use Rattle.ipc356_records.specs.NetlistFile as netlist_file
use Rattle.planar.specs.declared.Spot.{Spot}
use Rattle.xnc.specs.DrillFile as drill_file
use Rattle.xnc.specs.Places.{Place}

-- the place of a cell, in u
abbrev pub cell_at : ℕ → Spot
cell_at i = record { x = pos (25_000_000 * column i); y = pos (25_000_000 * row i) }

-- the hole of a cell: round, of 0.4 mm, at its place
abbrev pub bore : ℕ → Figure
bore i = round (record { a = cell_at i; b = cell_at i; r = pos 2_000_000 })

-- The barrel of cell i. It stands in the line behind the six of the head and of the cells before.
abbrev pub hole_of : Place → ℕ → PlainPiece
hole_of p i = record { figure = bore i; top = p.from; bottom = p.to; origin = record { file = p.file; command = i + 6; copy = 0 } }

-- the holes of the cells from 0 up to a number of them
abbrev pub holes : Place → ℕ → List PlainPiece
holes p zero = []
holes p (suc i) = holes p i ++ hole_of p i ∷ []

-- their figures
abbrev pub bores : ℕ → List Figure
bores zero = []
bores (suc i) = bores i ++ bore i ∷ []

-- The drill file of a made board is read where there is room, as a hole in each cell.
abbrev pub MadeHolesAreRead : Type 0
MadeHolesAreRead = (seed size : ℕ) (p : Place) → size ≤ MOST_CELLS → size ≤ p.room → drill_file.IsRead (part_text Holes seed size) p (holes p size)

-- the place beside it, of the square pad
abbrev pub beside : ℕ → Spot
beside i = record { x = pos (25_000_000 * column i + 12_000_000); y = pos (25_000_000 * row i) }

-- the name of cell i: `N` and its number
abbrev pub cell_name : ℕ → List ℕ
cell_name i = 78 ∷ decimal i

abbrev pub point : ℕ → ℕ → Spot → ℕ → Probe
point number name at layer = record { number = number; at = at; layer = layer; name = name }

-- the test points of cell i: the hole from both sides in one record, and the square pad on the top layer in the next
abbrev pub points_of : ℕ → List Probe
points_of i = point (2 * i + 1) i (cell_at i) 1 ∷ point (2 * i + 1) i (cell_at i) 2 ∷ point (2 * i + 2) i (beside i) 1 ∷ []

-- the points and the names of the cells from 0 up to a number of them
abbrev pub points : ℕ → List Probe
points zero = []
points (suc i) = points i ++ points_of i

abbrev pub names : ℕ → List (List ℕ)
names zero = []
names (suc i) = names i ++ cell_name i ∷ []

-- The netlist of a made board is read, as the points and the name of each cell.
abbrev pub MadePointsAreRead : Type 0
MadePointsAreRead = (seed size : ℕ) → size ≤ MOST_CELLS → netlist_file.IsRead (part_text Points seed size) 2 (points size) (names size)

-- ---- Copper

-- the place of the next cell of its row
abbrev pub next_to : ℕ → Spot
next_to i = record { x = pos (25_000_000 * column i + 25_000_000); y = pos (25_000_000 * row i) }

-- a round pad of 1 mm, a square one of 0.8 mm, and a track of 0.2 mm
abbrev pub round_pad : Spot → Figure
round_pad at = round (record { a = at; b = at; r = pos 5_000_000 })

abbrev pub square_pad : Spot → Figure
square_pad at = filled (rectangle (lower at 8_000_000 8_000_000) (upper at 8_000_000 8_000_000))

abbrev pub track_between : Spot → Spot → Figure
track_between from to = round (record { a = from; b = to; r = pos 1_000_000 })

-- the copper of a cell: the round pad on both layers; on top the square pad, and the track to it where that is not missing; at
-- the bottom the track to the next cell where the cell is bridged
abbrev pub copper_of : Part → ℕ → ℕ → ℕ → List Figure
copper_of Top seed size i = round_pad (cell_at i) ∷ square_pad (beside i) ∷ (if is_broken seed i then [] else track_between (cell_at i) (beside i) ∷ [])
copper_of Bottom seed size i = round_pad (cell_at i) ∷ (if is_bridged seed size i then track_between (cell_at i) (next_to i) ∷ [] else [])
copper_of Holes seed size i = []
copper_of Points seed size i = []

-- the copper of the cells from 0 up to a number of them
abbrev pub copper : Part → ℕ → ℕ → ℕ → List Figure
copper part seed size zero = []
copper part seed size (suc i) = copper part seed size i ++ copper_of part seed size i

-- the file is read as pieces with these figures
pub record IsReadAs (file : List ℕ) (p : LayerPlace) (figures : List Figure) : Type 0 where
  pub pieces : List PlainPiece
  pub read : layer_file.IsRead file p pieces
  pub are : map (λ piece. piece.figure) pieces ≡ figures

-- where there is room for three pieces and four edges a cell
pub record HasRoom (size : ℕ) (p : LayerPlace) : Type 0 where
  pub pieces : 3 * size ≤ p.room.pieces
  pub edges : 4 * size ≤ p.room.edges

-- The copper files of a made board are read, as the copper of each cell.
pub record MadeCopperIsRead : Type 0 where
  pub top : (seed size : ℕ) (p : LayerPlace) → size ≤ MOST_CELLS → HasRoom size p → IsReadAs (part_text Top seed size) p (copper Top seed size size)
  pub bottom : (seed size : ℕ) (p : LayerPlace) → size ≤ MOST_CELLS → HasRoom size p → IsReadAs (part_text Bottom seed size) p (copper Bottom seed size size)
