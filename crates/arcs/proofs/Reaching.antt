-- Spots from which ways are measured, and what the measures read.
use Rattle.std.proofs.Common.{◌≡◌, ◌<◌, ◌^◌, false, ℕ, ℤ, pos, ◌≤ℤ◌, unsigned_abs, FitsSigned, to_z, of_z, to_z-of_z, arith, ap, ◌∙◌}
use Rattle.std.proofs.lemmas.Int.{ints}
use Rattle.std.specs.Int.{w128}
use lib.Signed.{lt_z}
use Rattle.planar.specs.declared.Spot.{Spot}
use Rattle.planar.specs.Plane.{IsPlaced, IsReachable}

pub reachable : (p : Spot) → IsPlaced p → IsReachable p
reachable p h = (omega (arith, ints, h.0), omega (arith, ints, h.1))

-- an amount, as it is read
pub small_abs : (n : ℕ) (d z : ℤ) → d ≡ z → pos 0 ≤ℤ z → FitsSigned w128 d → n ≡ unsigned_abs (to_z w128 (of_z w128 d)) → n < 2 ^ 127
small_abs n d z same from fits e = let is : n ≡ unsigned_abs d = e ∙ ap unsigned_abs (to_z-of_z fits) in omega (arith, ints)

-- a number that is not read as over 0
pub not_over : (k z : ℤ) → k ≡ z → FitsSigned w128 k → lt_z (pos 0) (to_z w128 (of_z w128 k)) ≡ false → pos 1 ≤ℤ z → ⊥
not_over k z same fits test some = let plain = rw (to_z-of_z fits, same) at test in omega (arith, ints, plain)
