-- The least number whose square is over another, and the greatest whose square is under it.
use Rattle.std.proofs.Common.{◌≡◌, Some, ℕ, ◌+◌, ◌-◌, ◌*◌, ◌≤◌, ◌<◌, ℤ, pos, negsuc, ◌+ℤ◌, ◌-ℤ◌, ◌≤ℤ◌, ◌^◌, arith}
use Rattle.std.proofs.lemmas.Int.{ints, clamps}
use Rattle.std.specs.Int.{int_max}
use Rattle.planar.specs.Plane.{square}
use Rattle.arcs.specs.Chains.{IsGreatestUnder, IsLeastOver, IsRing, IsRootOver, IsWidest}
use Rattle.arcs.proofs.Read.{room_read}

pub greatest_under : (low : ℤ) (n root : ℕ) → low ≡ pos n → root * root ≤ n → ((m : ℕ) → m * m ≤ n → m ≤ root) → IsGreatestUnder low (pos root)
greatest_under low n root is under greatest = record { under = rw is (omega (arith, ints, under)); greatest = each }
  where
    each : (m : ℤ) → square m ≤ℤ low → m ≤ℤ pos root
    each (pos m) h = let k : square (pos m) ≤ℤ pos n = rw is at h in let g : m ≤ root = greatest m (omega (arith, ints, k)) in omega (arith, ints, g)
    each (negsuc m) h = omega (arith, ints)

pub least_over : (high : ℤ) (n root : ℕ) → high ≡ pos n → n ≤ root * root → ((m : ℕ) → n ≤ m * m → root ≤ m) → IsLeastOver high (pos root)
least_over high n root is over least = record { over = rw is (omega (arith, ints, over)); least = each }
  where
    each : (m : ℤ) → pos 0 ≤ℤ m → high ≤ℤ square m → pos root ≤ℤ m
    each (pos m) from h = let k : pos n ≤ℤ square (pos m) = rw is at h in let g : root ≤ m = least m (omega (arith, ints, k)) in omega (arith, ints, g)
    each (negsuc m) from h = absurd (omega (arith, ints, from))

-- ---- chords between the least and the greatest distance

widest : (low high : ℤ) (least most k sub : ℕ) → IsGreatestUnder low (pos least) → IsLeastOver high (pos most) → sub ≡ most - k → IsWidest low high (pos sub) (pos (least + k)) (pos k)
widest low high least most k sub under over is = record {
  room = room_read low high least most sub k under.under over.over (omega (arith, is));
  nearest = λ n f h. let g : pos most ≤ℤ h.most = over.least h.most h.room.most_from h.room.most_is in omega (arith, ints, is, g, h.room.near_is, h.room.near_from);
  furthest = λ n f h. let g : h.least ≤ℤ pos least = under.greatest h.least h.room.least_is in omega (arith, ints, g, h.room.far_is);
}

pub ring_some : (low high : ℤ) (least most k sub : ℕ) → IsRootOver (Some most) high → IsGreatestUnder low (pos least) → sub ≡ most - k → IsRing (Some (sub, least + k)) low high (pos k)
ring_some low high least most k sub over under is = (over.0, widest low high least most k sub under over.1 is)

-- ---- the code's numbers

pub root_some : (s far more r : ℕ) (g p : ℤ) → pos far ≡ g → pos more ≡ p → s ≡ far + more → s < 2 ^ 128 → s ≤ r * r → ((m : ℕ) → s ≤ m * m → r ≤ m) → IsRootOver (Some r) (g +ℤ p)
root_some s far more r g p hf hm is fits over least =
    let e : g +ℤ p ≡ pos s = omega (arith, ints, hf, hm, is) in
    (rw e (omega (arith, ints, fits)), least_over (g +ℤ p) s r e over least)

pub inmost_root : (l s : ℤ) (n m k root : ℕ) → pos n ≡ l → pos m ≡ s → k ≡ n - m → root * root ≤ k → ((m : ℕ) → m * m ≤ k → m ≤ root) → IsGreatestUnder (int_max (l -ℤ s) (pos 0)) (pos root)
inmost_root l s n m k root hl hs is under greatest = greatest_under (int_max (l -ℤ s) (pos 0)) k root (omega (arith, ints, clamps, hl, hs, is)) under greatest
