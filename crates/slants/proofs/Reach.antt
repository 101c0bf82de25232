-- How far a regular polygon reaches: no bits are lost.
use Rattle.std.proofs.Common.{◌≡◌, ℕ, ◌+◌, ◌-◌, ◌*◌, ◌/◌, ◌%◌, ◌==◌, ◌≤◌, ◌<◌, ◌⊎◌, inl, inr, Bool, true, false, cond, ℤ, neg_ℤ, ◌+ℤ◌, unsigned_abs, FitsSigned, to_z, of_z, to_z-of_z, w64, refl, sym, subst, arith}
use Rattle.std.proofs.lemmas.Int.{ints}
use Rattle.std.proofs.lemmas.Nat.{div_below, mul-le}
use Rattle.planar.specs.Plane.{IsPlaced, IsWithin}
use Rattle.planar.specs.declared.Spot.{Spot}
use Rattle.slants.specs.Polygons.{IsRegular, place_of, quartered, reach_of}
use Rattle.slants.specs.Turned.{AreReady, back_of}
use Rattle.slants.specs.declared.cones.TheConstants.{RADIUS}
use Rattle.slants.specs.declared.polygons.RegularPolygon.{RegularPolygon}
use Rattle.slants.specs.declared.polygons.TheConstants.{PARTS}
use Rattle.slants.specs.declared.turns.Motions.{Motions}

pub inner_small : (d w : ℕ) → w ≤ RADIUS → d * w / (2 * PARTS * RADIUS) ≤ (d + (2 * PARTS - 1)) / (2 * PARTS)
inner_small d w h =
    let l : d * w ≤ d * RADIUS = mul-le d w d RADIUS (omega arith) h in
    let k : d * w / (2 * PARTS * RADIUS) < (d + (2 * PARTS - 1)) / (2 * PARTS) + 1 = div_below (d * w) (2 * PARTS * RADIUS) ((d + (2 * PARTS - 1)) / (2 * PARTS) + 1) (omega arith) (omega (arith, l)) in
    omega (arith, k)

abbrev AreWithin : ℕ → Spot → Type 0
AreWithin n p = IsWithin n p.x × IsWithin n p.y

back_within : (n : ℕ) (z : ℤ) → IsWithin n z → IsWithin n (neg_ℤ z)
back_within n z h = (omega (arith, ints, h), omega (arith, ints, h))

pub quartered_within : (n k : ℕ) (p : Spot) → AreWithin n p → AreWithin n (quartered k p)
unfolding quartered
quartered_within n k p h = by (k % 4 == 0) (k % 4 == 1) (k % 4 == 2)
  where
    by : (a b c : Bool) → AreWithin n (cond a p (cond b (record { x = neg_ℤ p.y; y = p.x }) (cond c (record { x = neg_ℤ p.x; y = neg_ℤ p.y }) (record { x = p.y; y = neg_ℤ p.x }))))
    by true b c = h
    by false true c = (back_within n p.y h.1, h.0)
    by false false true = (back_within n p.x h.0, back_within n p.y h.1)
    by false false false = (h.1, back_within n p.x h.0)

reached : (c z : ℤ) (r : ℕ) → unsigned_abs c + r < 10000000000 → IsWithin (r + 1) z → IsWithin 10000000000 (c +ℤ z)
reached c z r room h = (omega (arith, ints, room, h), omega (arith, ints, room, h))

pub placed_out : (g : RegularPolygon) (h : ℕ) (p : Spot) → IsRegular g → AreWithin (reach_of g + 1) p → IsPlaced (place_of g h p)
placed_out g h p regular within =
    let q : AreWithin (reach_of g + 1) (quartered _ p) = quartered_within (reach_of g + 1) _ p within in
    (reached g.centre.x _ (reach_of g) regular.across q.0, reached g.centre.y _ (reach_of g) regular.up q.1)

pub back_ready : (m : Motions) → AreReady m → AreReady (back_of m)
back_ready m h = record {
  first = (h.first.0, (omega (arith, ints, h.first.1), omega (arith, ints, h.first.1)));
  last = (h.last.0, (omega (arith, ints, h.last.1), omega (arith, ints, h.last.1)));
  from = h.to;
  to = h.from;
}

-- ---- a spot that is set out

abbrev read : ℤ → ℤ
read z = to_z w64 (of_z w64 z)

module _ (c z : ℤ) (r : ℕ) (room : unsigned_abs c + r < 10000000000) (h : IsWithin (r + 1) z) where
  from_fits : FitsSigned w64 c
  from_fits = omega (arith, ints, room)

  way_fits : FitsSigned w64 z
  way_fits = omega (arith, ints, room, h)

  out_fits : FitsSigned w64 (c +ℤ z)
  out_fits = omega (arith, ints, room, h)

  pub out_overflow : FitsSigned w64 (read c +ℤ read z)
  out_overflow = rw (to_z-of_z from_fits, to_z-of_z way_fits) out_fits

  pub out_read : read (read c +ℤ read z) ≡ c +ℤ z
  out_read = rw (to_z-of_z from_fits, to_z-of_z way_fits) (to_z-of_z out_fits)

pub out_is : (c q r : Spot) (x y : ℤ) → x ≡ c.x +ℤ q.x → y ≡ c.y +ℤ q.y → q ≡ r → ◌≡◌ {A = Spot} (record { x = x; y = y }) (record { x = c.x +ℤ r.x; y = c.y +ℤ r.y })
out_is c q r x y e f g = rw (e, f, g) refl

-- what is so turned is as near
pub way_within : (n k : ℕ) (p q : Spot) → q ≡ quartered k p → IsWithin n p.x → IsWithin n p.y → IsWithin n q.x × IsWithin n q.y
way_within n k p q is across up = subst (λ (s : Spot). AreWithin n s) (sym is) (quartered_within n k p (across, up))

-- ---- one number more

pub one_more : (P : ℕ → Type 0) (n : ℕ) → ((k : ℕ) → k < n → P k) → P n → (k : ℕ) → k < n + 1 → P k
one_more P n before here k below = elim (cases k n below) [
  | inl less ↦ before k less
  | inr same ↦ subst P (sym same) here
]
  where
    cases : (j i : ℕ) → j < i + 1 → (j < i) ⊎ (j ≡ i)
    cases j i h = grind arith
