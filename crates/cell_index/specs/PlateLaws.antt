-- A box whose sides are in order holds its corner.
use Rattle.std.proofs.Common.{ℤ, ◌≤ℤ◌, arith}
use Rattle.std.proofs.lemmas.Int.{ints}
use Rattle.contact.proofs.Boxes.{box_holds}
use Rattle.contact.specs.Solid.{InBox}
use Rattle.contact.specs.declared.Bounds.{Bounds}
use Rattle.planar.specs.Plane.{Point, at}

same : (z : ℤ) → z ≤ℤ z
same z = omega (arith, ints)

-- its lower left corner is a point in it
pub corner_in : (b : Bounds) → (b.left ≤ℤ b.right) × (b.low ≤ℤ b.high) → (p : Point) × InBox b p
corner_in b h = (at (record { x = b.left; y = b.low }), (box_holds b (record { x = b.left; y = b.low })).1 ((same b.left, h.0), (same b.low, h.1)))
