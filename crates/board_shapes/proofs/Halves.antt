-- Signed sums of a coordinate and half a size, as they are computed.
use Rattle.std.proofs.Common.{◌≡◌, ℕ, ◌≤◌, ℤ, ◌+ℤ◌, ◌-ℤ◌, to_z, of_z, w64, arith}
use Rattle.std.proofs.lemmas.Int.{ints}
use Rattle.planar.specs.Plane.{IsReached}
use Rattle.planar.specs.declared.TheConstants.{METRE}
use Rattle.board_shapes.specs.Rectangles.{halved}

half_reached : (n : ℕ) → n ≤ METRE → IsReached (halved n)
half_reached n h = (omega (arith, ints), omega (arith, ints))

difference : (a b : ℤ) → IsReached a → IsReached b → to_z w64 (of_z w64 (to_z w64 (of_z w64 a) -ℤ to_z w64 (of_z w64 b))) ≡ a -ℤ b
difference a b h k = omega (arith, ints)

pub sum : (a b : ℤ) → IsReached a → IsReached b → to_z w64 (of_z w64 (to_z w64 (of_z w64 a) +ℤ to_z w64 (of_z w64 b))) ≡ a +ℤ b
sum a b h k = omega (arith, ints)

pub less_half : (a u : ℤ) (n : ℕ) → IsReached a → n ≤ METRE → u ≡ halved n → to_z w64 (of_z w64 (to_z w64 (of_z w64 a) -ℤ to_z w64 (of_z w64 u))) ≡ a -ℤ halved n
less_half a u n h k e = rw e (difference a (halved n) h (half_reached n k))

pub plus_half : (a u : ℤ) (n : ℕ) → IsReached a → n ≤ METRE → u ≡ halved n → to_z w64 (of_z w64 (to_z w64 (of_z w64 a) +ℤ to_z w64 (of_z w64 u))) ≡ a +ℤ halved n
plus_half a u n h k e = rw e (sum a (halved n) h (half_reached n k))
