-- Signed sums as they are computed.
use Rattle.std.proofs.Common.{ℕ, ◌≡◌, ◌+◌, ◌*◌, ◌<◌, arith, ℤ, pos, ◌+ℤ◌, ◌-ℤ◌, ◌≤ℤ◌, neg_ℤ, to_z, of_z, w64}
use Rattle.std.proofs.lemmas.Int.{ints}
use Rattle.planar.specs.Plane.{IsPlaced, IsReachable, IsReached, IsWithin}
use Rattle.planar.specs.declared.Spot.{Spot}
use Rattle.planar.specs.declared.TheConstants.{METRE, TWO_METRES}
use Rattle.board_shapes.proofs.Shifts.{sum_read as plus_read}
use Rattle.aperture_macros.specs.Images.{set_down}
use Rattle.aperture_macros.specs.declared.expression.TheConstants.{MOST_TERMS}
use Rattle.aperture_macros.specs.declared.primitive.Rotation.TheVariants.{Unturned, Quarter, Half, ThreeQuarters}

less_read : (a b : ℤ) → IsReached a → IsWithin TWO_METRES b → to_z w64 (of_z w64 (to_z w64 (of_z w64 a) -ℤ to_z w64 (of_z w64 b))) ≡ a +ℤ neg_ℤ b
less_read a b h k = omega (arith, ints)

pub unturned_read : (at p : Spot) → IsPlaced at → IsReachable p →
    ◌≡◌ {A = Spot} (record { x = to_z w64 (of_z w64 (to_z w64 (of_z w64 at.x) +ℤ to_z w64 (of_z w64 p.x))); y = to_z w64 (of_z w64 (to_z w64 (of_z w64 at.y) +ℤ to_z w64 (of_z w64 p.y))) }) (set_down Unturned at p)
unturned_read at p h k = rw (plus_read at.x p.x h.0 k.0, plus_read at.y p.y h.1 k.1)

pub quarter_read : (at p : Spot) → IsPlaced at → IsReachable p →
    ◌≡◌ {A = Spot} (record { x = to_z w64 (of_z w64 (to_z w64 (of_z w64 at.x) -ℤ to_z w64 (of_z w64 p.y))); y = to_z w64 (of_z w64 (to_z w64 (of_z w64 at.y) +ℤ to_z w64 (of_z w64 p.x))) }) (set_down Quarter at p)
quarter_read at p h k = rw (less_read at.x p.y h.0 k.1, plus_read at.y p.x h.1 k.0)

pub half_read : (at p : Spot) → IsPlaced at → IsReachable p →
    ◌≡◌ {A = Spot} (record { x = to_z w64 (of_z w64 (to_z w64 (of_z w64 at.x) -ℤ to_z w64 (of_z w64 p.x))); y = to_z w64 (of_z w64 (to_z w64 (of_z w64 at.y) -ℤ to_z w64 (of_z w64 p.y))) }) (set_down Half at p)
half_read at p h k = rw (less_read at.x p.x h.0 k.0, less_read at.y p.y h.1 k.1)

pub three_quarters_read : (at p : Spot) → IsPlaced at → IsReachable p →
    ◌≡◌ {A = Spot} (record { x = to_z w64 (of_z w64 (to_z w64 (of_z w64 at.x) +ℤ to_z w64 (of_z w64 p.y))); y = to_z w64 (of_z w64 (to_z w64 (of_z w64 at.y) -ℤ to_z w64 (of_z w64 p.x))) }) (set_down ThreeQuarters at p)
three_quarters_read at p h k = rw (plus_read at.x p.y h.0 k.1, less_read at.y p.x h.1 k.0)

-- a sum of at most 63 terms and one more
pub sum_read : (s u : ℤ) (k : ℕ) → pos 0 ≤ℤ (s +ℤ pos (k * METRE)) → s ≤ℤ pos (k * METRE) → k < MOST_TERMS → IsReached u → to_z w64 (of_z w64 (s +ℤ to_z w64 (of_z w64 u))) ≡ s +ℤ u
sum_read s u k low high few h = omega (arith, ints)

pub sum_low : (s u : ℤ) (k : ℕ) → pos 0 ≤ℤ (s +ℤ pos (k * METRE)) → IsReached u → pos 0 ≤ℤ ((s +ℤ u) +ℤ pos ((k + 1) * METRE))
sum_low s u k low h = omega (arith, ints)

pub sum_high : (s u : ℤ) (k : ℕ) → s ≤ℤ pos (k * METRE) → IsReached u → (s +ℤ u) ≤ℤ pos ((k + 1) * METRE)
sum_high s u k high h = omega (arith, ints)
