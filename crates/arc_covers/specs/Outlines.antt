-- What stands for a turned figure of any outline: above it the polygon of corners that stand for its own, and the capsules along that; below it a contour by such corners that the check makes.
use Rattle.std.specs.Prelude.{ℕ, pos, ◌≡◌, List, ◌∷◌, All}
use Rattle.planar.specs.Plane.{IsPlaced}
use Rattle.planar.specs.declared.Spot.{Spot}
use Rattle.board_shapes.specs.Figures.{Figure, filled}
use Rattle.area_contact.specs.Contour.{IsContour}
use Rattle.turned_outlines.specs.Nearest.{slack, turned_corners}
use Rattle.turned_outlines.specs.Taken.{OutlineAbove, OutlineBelow}
use Rattle.arc_covers.specs.Bounds.{capsules_of}
use Rattle.arc_covers.specs.Eighths.{frame_about}

-- the figures are the capsules of one radius along the corners, and `turned_outlines` takes both above the turned figure
abbrev pub CapsulesStand : List Spot → Spot → ℕ → List Spot → List Figure → Type 0
CapsulesStand contour about angle corners figures = (r : ℕ) × (figures ≡ capsules_of corners (pos r)) × OutlineAbove contour about angle corners r

-- a polygon, and such capsules along it
pub record OutlineStands (contour : List Spot) (about : Spot) (angle : ℕ) (figures : List Figure) : Type 0 where
  pub corners : List Spot
  pub capsules : List Figure
  pub are : figures ≡ filled corners ∷ capsules
  pub stand : CapsulesStand contour about angle corners capsules

-- a contour that is taken below the figure, with the nearest spots for its corners and `slack` for r, in the square of a metre about its spot
abbrev pub OutlineLies : List Spot → Spot → ℕ → List Spot → Type 0
OutlineLies contour about angle points = IsContour points × OutlineBelow (frame_about about) contour about angle (turned_corners contour about angle) (slack contour about) points

-- ---- words that only contracts want

-- a figure and what it is turned about are within a metre
abbrev pub IsReached : List Spot → Spot → Type 0
IsReached contour about = IsPlaced about × All IsPlaced contour
