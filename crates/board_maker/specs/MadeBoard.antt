-- Made boards: two copper layers, a hole in each cell and a netlist, by one formula for each cell. The copper and
-- drill files count millimetres, and the netlist micrometres.
use Rattle.std.specs.Prelude.{ℕ, zero, suc, ◌+◌, ◌*◌, ◌/◌, ◌%◌, nat_lt, Bool, not, ◌&&◌, ◌==◌, if◌then◌else◌, List, [], ◌∷◌, ◌++◌, length, drop, codes, decimal}
use Rattle.std.specs.List.{concat}
use Rattle.board_maker.specs.declared.files.Part.{Part}
use Rattle.board_maker.specs.declared.files.Part.TheVariants.{Top, Bottom, Holes, Points}

-- ---- Cells

-- A cell has a round pad, a square pad beside it with a track between them, a plated hole under the round pad, and two
-- test records. Its number, from 0 to 7, says what is amiss in it.
abbrev pub cell_number : ℕ → ℕ → ℕ
cell_number seed i = (((12917 + seed % 10000) * (i + 1)) / 1000) % 8

-- 100 cells stand in a row
abbrev pub column : ℕ → ℕ
column i = i % 100

abbrev pub row : ℕ → ℕ
row i = i / 100

-- its track is missing
abbrev pub is_broken : ℕ → ℕ → Bool
is_broken seed i = cell_number seed i == 0

-- a track joins it to the next cell of its row
abbrev pub is_bridged : ℕ → ℕ → ℕ → Bool
is_bridged seed size i = (cell_number seed i == 1) && (not (column i == 99) && nat_lt (i + 1) size)

-- the texts of the cells from 0 up to a number of them
unfoldable pub cells : (ℕ → List ℕ) → ℕ → List ℕ
cells text zero = []
cells text (suc i) = cells text i ++ text i

-- ---- Copper

-- the place of a cell, in millionths of a millimetre: cells are 2.5 mm apart
abbrev pub x_of : ℕ → ℕ
x_of i = 2500000 * column i

abbrev pub y_of : ℕ → ℕ
y_of i = 2500000 * row i

-- an operation with both coordinates
abbrev pub operation : ℕ → ℕ → List ℕ → List ℕ
operation x y code = concat (codes "X" ∷ decimal x ∷ codes "Y" ∷ decimal y ∷ code ∷ codes "*\n" ∷ [])

-- an aperture is selected, and flashed, or drawn from one place to another
abbrev pub flash : List ℕ → ℕ → ℕ → List ℕ
flash aperture x y = aperture ++ (codes "*\n" ++ operation x y (codes "D03"))

abbrev pub track : List ℕ → ℕ → ℕ → ℕ → List ℕ
track aperture x y to_x = aperture ++ (codes "*\n" ++ (operation x y (codes "D02") ++ operation to_x y (codes "D01")))

-- the round pad, the square pad, and the track where the cell is not broken
abbrev pub top_cell : ℕ → ℕ → List ℕ
top_cell seed i =
    flash (codes "D10") (x_of i) (y_of i) ++ (flash (codes "D11") (x_of i + 1200000) (y_of i)
    ++ (if is_broken seed i then [] else track (codes "D12") (x_of i) (y_of i) (x_of i + 1200000)))

-- the round pad, and the track to the next cell where the cell is bridged
abbrev pub bottom_cell : ℕ → ℕ → ℕ → List ℕ
bottom_cell seed size i =
    flash (codes "D10") (x_of i) (y_of i)
    ++ (if is_bridged seed size i then track (codes "D12") (x_of i) (y_of i) (x_of i + 2500000) else [])

-- ---- Holes

-- a number of tenths, with one decimal
abbrev pub tenths : ℕ → List ℕ
tenths n = concat (decimal (n / 10) ∷ codes "." ∷ decimal (n % 10) ∷ [])

-- a hit at the place of the cell
abbrev pub hit : ℕ → List ℕ
hit i = concat (codes "X" ∷ tenths (25 * column i) ∷ codes "Y" ∷ tenths (25 * row i) ∷ codes "\n" ∷ [])

-- ---- Test points

-- a number with the zeros before it that make six digits
unfoldable pub six : ℕ → List ℕ
six n = drop (length (decimal n)) (codes "000000") ++ decimal n

-- the name of a cell's net, with the blanks behind it up to column 38
unfoldable pub name : ℕ → List ℕ
name i = codes "N" ++ (decimal i ++ drop (length (decimal i)) (codes "                                  "))

-- a place in micrometres
abbrev pub place : ℕ → ℕ → List ℕ
place x y = concat (codes "X+" ∷ six x ∷ codes "Y+" ∷ six y ∷ codes "\n" ∷ [])

-- a test record: its code, the name, the access in columns 39 to 41, and the place
abbrev pub test_record : List ℕ → ℕ → List ℕ → ℕ → ℕ → List ℕ
test_record code i access x y = concat (code ∷ name i ∷ access ∷ place x y ∷ [])

-- the round pad with its hole from both sides, and the square pad on the top layer
abbrev pub test_records : ℕ → List ℕ
test_records i =
    test_record (codes "317") i (codes "A00") (2500 * column i) (2500 * row i)
    ++ test_record (codes "327") i (codes "A01") (2500 * column i + 1200) (2500 * row i)

-- ---- The files

-- what stands before the cells of a file
abbrev pub head_of : Part → List ℕ
head_of Top = codes "%FSLAX46Y46*%\n%MOMM*%\n%ADD10C,1.0*%\n%ADD11R,0.8X0.8*%\n%ADD12C,0.2*%\n"
head_of Bottom = codes "%FSLAX46Y46*%\n%MOMM*%\n%ADD10C,1.0*%\n%ADD12C,0.2*%\n"
head_of Holes = codes "M48\nMETRIC\nT1C0.4\n%\nT1\n"
head_of Points = codes "P  UNITS CUST 1\n"

-- what a file has for each cell of the board
abbrev pub cell_of : Part → ℕ → ℕ → ℕ → List ℕ
cell_of Top seed size = top_cell seed
cell_of Bottom seed size = bottom_cell seed size
cell_of Holes seed size = hit
cell_of Points seed size = test_records

-- the end of a file
abbrev pub end_of : Part → List ℕ
end_of Top = codes "M02*\n"
end_of Bottom = codes "M02*\n"
end_of Holes = codes "M30\n"
end_of Points = codes "999\n"

-- a file of a made package: its head, its cells and its end
abbrev pub part_text : Part → ℕ → ℕ → List ℕ
part_text part seed size = (head_of part ++ cells (cell_of part seed size) size) ++ end_of part

-- ---- The manifest

-- two copper files, a drill file through both layers, and the netlist
abbrev pub manifest_text : List ℕ
manifest_text = codes "{\"copper\":[\"top.gbr\",\"bot.gbr\"],\"drills\":[{\"file\":\"pth.drl\",\"from\":1,\"to\":2}],\"netlist\":\"n.ipc\"}\n"
