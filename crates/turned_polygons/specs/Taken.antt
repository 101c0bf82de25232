-- Exactly which contours the checks take: those that bound the polygon about each corner of a square, in which its middle stays.
use Rattle.std.specs.Prelude.{ℕ, Bool, ℤ, pos, neg_ℤ, ◌+ℤ◌, if◌then◌else◌, List, [], ◌∷◌, All}
use Rattle.planar.specs.Plane.{same_spot}
use Rattle.planar.specs.declared.Spot.{Spot}
use Rattle.slants.specs.Discs.{DiscAbove}
use Rattle.slants.specs.Polygons.{PolygonBelow, PolygonsAbove}
use Rattle.slants.specs.declared.discs.TurnedDisc.{TurnedDisc}
use Rattle.slants.specs.declared.polygons.RegularPolygon.{RegularPolygon}
use Rattle.turned_outlines.specs.Nearest.{slack, turned_at}
use Rattle.turned_outlines.specs.Taken.{corner_of}
use Rattle.turned_polygons.specs.declared.TurnedPolygon.{TurnedPolygon}

-- the middle, as a disc of no radius that is turned so
abbrev pub middle_of : TurnedPolygon → TurnedDisc
middle_of a = corner_of a.polygon.centre a.about a.angle

-- a spot near which it comes
abbrev pub near_of : TurnedPolygon → Spot
near_of a = turned_at a.angle a.about a.polygon.centre

-- it is what it is turned about
abbrev pub is_still : TurnedPolygon → Bool
is_still a = same_spot a.polygon.centre a.about

-- how far off it may be
abbrev pub far_of : TurnedPolygon → ℕ
far_of a = if is_still a then 0 else slack (a.polygon.centre ∷ []) a.about

-- by the test of `slants` the middle stays so near
abbrev pub StaysNear : TurnedPolygon → Type 0
StaysNear a = DiscAbove (middle_of a) (near_of a) (far_of a)

-- the polygon about another middle, which lies so from a spot
abbrev pub about_spot : RegularPolygon → Spot → ℤ → ℤ → RegularPolygon
about_spot g s x y = record { centre = record { x = s.x +ℤ x; y = s.y +ℤ y }; corners = g.corners; diameter = g.diameter; angle = g.angle }

-- about each corner of a square round the spot
abbrev pub about_corners : RegularPolygon → Spot → ℤ → List RegularPolygon
about_corners g s far = about_spot g s (neg_ℤ far) (neg_ℤ far) ∷ about_spot g s far (neg_ℤ far) ∷ about_spot g s far far ∷ about_spot g s (neg_ℤ far) far ∷ []

abbrev pub around : TurnedPolygon → List RegularPolygon
around a = about_corners a.polygon (near_of a) (pos (far_of a))

-- the middle stays near, and the contour is taken below each of these polygons
pub record TurnedPolygonBelow (a : TurnedPolygon) (points : List Spot) : Type 0 where
  pub near : StaysNear a
  pub below : All (λ g. PolygonBelow g points) (around a)

-- and above all of them
pub record TurnedPolygonAbove (a : TurnedPolygon) (points : List Spot) : Type 0 where
  pub near : StaysNear a
  pub above : PolygonsAbove (around a) points
