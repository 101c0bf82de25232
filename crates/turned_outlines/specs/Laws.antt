-- Laws over the definitions.
use Rattle.std.specs.Prelude.{ℕ, List, pos, ◌⊎◌}
use Rattle.planar.specs.Plane.{Point}
use Rattle.planar.specs.declared.Frame.{Frame}
use Rattle.planar.specs.declared.Spot.{Spot}
use Rattle.area_contact.specs.Contour.{InArea, IsContour, edges_of}
use Rattle.arcs.specs.Copper.{InChain}
use Rattle.slants.specs.Cones.{PossiblyTurned, SurelyTurned}
use Rattle.turned_outlines.specs.Taken.{OutlineAbove, OutlineBelow}

-- The polygon of corners that are taken, together with the capsules along it, holds all that lies in the figure at one turn by about the angle
abbrev pub OutlineHolds : Type 0
OutlineHolds = (figure : List Spot) (about : Spot) (angle : ℕ) (corners : List Spot) (r : ℕ) (p : Point) → OutlineAbove figure about angle corners r → PossiblyTurned figure about angle p → InArea (edges_of corners) p ⊎ InChain corners (pos r) p

-- An area that is taken lies in the figure at each turn by about the angle
abbrev pub OutlineLies : Type 0
OutlineLies = (frame : Frame) (figure : List Spot) (about : Spot) (angle : ℕ) (corners : List Spot) (r : ℕ) (points : List Spot) (p : Point) → IsContour points → OutlineBelow frame figure about angle corners r points → InArea (edges_of points) p → SurelyTurned figure about angle p
