-- Sums and differences of coordinates.
use Rattle.std.proofs.Common.{◌≡◌, ◌≤◌, ◌*◌, ℕ, ℤ, pos, ◌+ℤ◌, ◌-ℤ◌, ◌*ℤ◌, to_z, of_z, w64, arith}
use Rattle.std.proofs.lemmas.Int.{ints}
use Rattle.planar.specs.Plane.{IsReachable, IsReached, IsWithin}
use Rattle.planar.specs.declared.Spot.{Spot}
use Rattle.board_shapes.specs.Moved.{IsShift, shifted}
use Rattle.planar.specs.declared.TheConstants.{METRE, TWO_METRES}
use Rattle.board_shapes.proofs.Halves.{sum}

pub sum_within : (a b : ℤ) → IsReached a → IsReached b → IsWithin TWO_METRES (to_z w64 (of_z w64 (to_z w64 (of_z w64 a) +ℤ to_z w64 (of_z w64 b))))
sum_within a b h k = rw (sum a b h k) (omega (arith, ints))

abbrev pub wrapped : ℤ → ℤ
wrapped z = to_z w64 (of_z w64 z)

-- ---- twice a coordinate, and a length

pub twice_less : (a b : ℤ) (n : ℕ) → IsWithin (4 * METRE) a → b ≡ pos n → n ≤ 4 * METRE → wrapped (wrapped (wrapped a +ℤ wrapped a) -ℤ wrapped b) ≡ (a +ℤ a -ℤ pos n)
twice_less a b n h is most = rw is (omega (arith, ints, h, most))

pub twice_more : (a b : ℤ) (n : ℕ) → IsWithin (4 * METRE) a → b ≡ pos n → n ≤ 4 * METRE → wrapped (wrapped (wrapped a +ℤ wrapped a) +ℤ wrapped b) ≡ (a +ℤ a +ℤ pos n)
twice_more a b n h is most = rw is (omega (arith, ints, h, most))

-- ---- a coordinate in half u, and twice a way

pub half_read : (a b : ℤ) → IsWithin TWO_METRES a → IsWithin TWO_METRES b → wrapped (wrapped a +ℤ wrapped (pos 2 *ℤ wrapped b)) ≡ a +ℤ pos 2 *ℤ b
half_read a b h k = omega (arith, ints)

pub half_shift_read : (p : Spot) (dx dy : ℤ) → IsReachable p → IsShift dx → IsShift dy →
    ◌≡◌ {A = Spot} (record { x = wrapped (wrapped p.x +ℤ wrapped (pos 2 *ℤ wrapped dx)); y = wrapped (wrapped p.y +ℤ wrapped (pos 2 *ℤ wrapped dy)) }) (shifted (pos 2 *ℤ dx) (pos 2 *ℤ dy) p)
half_shift_read p dx dy h k l = rw (half_read p.x dx h.0 k, half_read p.y dy h.1 l)
