-- More than coordinates of spots within a metre differ by.
use Rattle.std.proofs.Common.{ℤ, pos, ◌+ℤ◌, ◌≤ℤ◌, arith}
use Rattle.std.proofs.lemmas.Int.{ints}
use Rattle.planar.specs.declared.Spot.{Spot}
use Rattle.planar.specs.declared.TheConstants.{METRE}
use Rattle.planar.specs.Plane.{IsPlaced}
use Rattle.planar.proofs.Ring.{linear}
use Rattle.arc_regions.proofs.Shifted.{IsNarrow}

abbrev pub margin : ℤ
margin = pos METRE +ℤ pos METRE +ℤ pos 2

pub margin_from : pos 2 ≤ℤ margin
margin_from = omega (arith, ints)

pub narrow : (a b : Spot) → IsPlaced a → IsPlaced b → IsNarrow margin a b
narrow a b h k = record { right = omega (arith, linear, h.0.0, h.0.1, k.0.0, k.0.1); left = omega (arith, linear, h.0.0, h.0.1, k.0.0, k.0.1); up = omega (arith, linear, h.1.0, h.1.1, k.1.0, k.1.1); down = omega (arith, linear, h.1.0, h.1.1, k.1.0, k.1.1) }
