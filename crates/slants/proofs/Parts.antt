-- What the code's cosines and sines are: no bits are lost.
use Rattle.std.proofs.Common.{ℕ, ◌+◌, ◌*◌, ◌/◌, ◌≤◌, ◌<◌, arith}
use Rattle.std.proofs.lemmas.Nat.{div_below, mul-le}
use Rattle.slants.specs.Cones.{half_of}
use Rattle.slants.specs.declared.cones.TheConstants.{ONE, RIGHT_ANGLE}

pub half_within : (angle : ℕ) → angle < RIGHT_ANGLE → half_of angle ≤ ONE
half_within angle h = omega (arith, h)

pub product_within : (a b : ℕ) → a ≤ ONE → b ≤ ONE → a * b ≤ ONE * ONE
product_within a b h k = mul-le a b ONE ONE h k

pub share_within : (m : ℕ) → m ≤ ONE * ONE → m / ONE ≤ ONE
share_within m h = let k : m / ONE < ONE + 1 = div_below m ONE (ONE + 1) (omega arith) (omega (arith, h)) in omega (arith, k)
