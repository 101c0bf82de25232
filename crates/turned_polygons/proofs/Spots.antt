-- A spot that lies so far from another, as it is read.
use Rattle.std.proofs.Common.{◌≡◌, ℤ, ◌+ℤ◌, to_z, of_z, w64, arith, refl}
use Rattle.std.proofs.lemmas.Int.{ints}
use Rattle.planar.specs.Plane.{IsWithin}
use Rattle.planar.specs.declared.Spot.{Spot}
use Rattle.planar.specs.declared.TheConstants.{METRE, TWO_METRES}
use Rattle.slants.specs.declared.polygons.RegularPolygon.{RegularPolygon}
use Rattle.turned_polygons.specs.Taken.{about_spot}

pub read : (c z : ℤ) → IsWithin METRE c → IsWithin TWO_METRES z → to_z w64 (of_z w64 (to_z w64 (of_z w64 c) +ℤ to_z w64 (of_z w64 z))) ≡ c +ℤ z
read c z h k = omega (arith, ints, h.0, h.1, k.0, k.1)

pub about_is : (g : RegularPolygon) (s : Spot) (x y u v : ℤ) → u ≡ s.x +ℤ x → v ≡ s.y +ℤ y → ◌≡◌ {A = RegularPolygon} (record { centre = record { x = u; y = v }; corners = g.corners; diameter = g.diameter; angle = g.angle }) (about_spot g s x y)
about_is g s x y u v e f = rw (e, f) refl
