-- Figures about the origin are near it.
use Rattle.std.specs.Prelude.{Bool, true, false, ◌*◌, ◌≤◌, Option, Some, None}
use Rattle.contact.specs.declared.TheConstants.{MOST_DIAMETER}
use Rattle.planar.specs.Plane.{IsPlaced, IsReachable}
use Rattle.aperture_macros.specs.declared.images.Sketch.{Sketch}
use Rattle.aperture_macros.specs.declared.values.TheConstants.{PARTS}
use Rattle.aperture_macros.specs.declared.images.Sketch.TheVariants.{Disc, Rectangle, Regular, Stroke}

-- a disc, a stroke or a polygon of a lawful diameter and 3 to 12 corners, or a rectangle, whose points are
abbrev pub IsNear : Option Sketch → Type 0
IsNear None = Unit {0}
IsNear (Some (Disc p d)) = IsReachable p × (d ≤ MOST_DIAMETER)
IsNear (Some (Rectangle low high)) = IsReachable low × IsReachable high
IsNear (Some (Regular p d n)) = IsPlaced p × (d ≤ MOST_DIAMETER * PARTS) × (3 ≤ n) × (n ≤ 12)
IsNear (Some (Stroke p q w)) = IsReachable p × IsReachable q × (w ≤ MOST_DIAMETER)

-- a disc, or none
abbrev pub is_disc : Option Sketch → Bool
is_disc None = true
is_disc (Some (Disc p d)) = true
is_disc other = false
