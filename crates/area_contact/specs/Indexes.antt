-- What the index of a contour has.
use Rattle.std.specs.Prelude.{◌≤◌, ◌≡◌, List, length}
use Rattle.planar.specs.declared.Spot.{Spot}
use Rattle.area_contact.specs.Bands.{AreAllEdges, AreEdges, AreRuns, IsTable, band_height, lowest, tall_of}
use Rattle.area_contact.specs.declared.index.Index.{Index}
use Rattle.area_contact.specs.declared.TheConstants.{MOST_CONTOUR_POINTS}

-- its runs have all edges of the contour, no more than it can have points, with boxes about each 16 and each 1,024 of them
abbrev pub IsRunBy : List Spot → Index → Type 0
IsRunBy points index =
    AreRuns 16 points index.runs.numbers.items index.runs.boxes.items ×
    AreRuns 1_024 points index.runs.numbers.items index.runs.groups.items ×
    AreEdges points index.runs.numbers.items × AreAllEdges points index.runs.numbers.items ×
    (length index.runs.numbers.items ≤ MOST_CONTOUR_POINTS)

-- its bands are the contour's, and the edges of each stand between two starts
abbrev pub IsFiledBy : List Spot → Index → Type 0
IsFiledBy points index =
    (index.ladder.low ≡ lowest points) × (index.ladder.height ≡ band_height points) ×
    (length index.table.starts.items ≡ 65) ×
    IsTable points (lowest points) (band_height points) index.table.starts.items index.table.numbers.items

-- runs, bands and tall edges are those of the contour
abbrev pub IsIndexed : List Spot → Index → Type 0
IsIndexed points index = IsRunBy points index × IsFiledBy points index × (index.tall.items ≡ tall_of points)
