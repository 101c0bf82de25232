-- Products of spots within a metre, as they are read.
use Rattle.std.proofs.Common.{◌≡◌, ◌*◌, ℤ, pos, ◌+ℤ◌, ◌-ℤ◌, ◌*ℤ◌, to_z, of_z, arith, refl, ◌∙◌}
use Rattle.std.specs.Int.{w128}
use Rattle.std.proofs.lemmas.Int.{ints}
use Rattle.planar.specs.Plane.{IsPlaced, IsWithin, cross_of, dot_of}
use Rattle.planar.specs.declared.Spot.{Spot}
use Rattle.planar.specs.declared.TheConstants.{METRE}
use Rattle.planar.proofs.Ring.{ring, linear, product_within}
use Rattle.turned_outlines.specs.Nearest.{kept}

abbrev zero_spot : Spot
zero_spot = record { x = pos 0; y = pos 0 }

along_is : (a b : Spot) → dot_of zero_spot a b ≡ a.x *ℤ b.x +ℤ a.y *ℤ b.y
along_is a b = plain a.x a.y b.x b.y
  where
    plain : (ax ay bx by : ℤ) → (ax -ℤ pos 0) *ℤ (bx -ℤ pos 0) +ℤ (ay -ℤ pos 0) *ℤ (by -ℤ pos 0) ≡ ax *ℤ bx +ℤ ay *ℤ by
    plain ax ay bx by = simp ring (omega (arith, linear))

across_is : (a b : Spot) → cross_of zero_spot a b ≡ a.x *ℤ b.y -ℤ a.y *ℤ b.x
across_is a b = plain a.x a.y b.x b.y
  where
    plain : (ax ay bx by : ℤ) → (ax -ℤ pos 0) *ℤ (by -ℤ pos 0) -ℤ (ay -ℤ pos 0) *ℤ (bx -ℤ pos 0) ≡ ax *ℤ by -ℤ ay *ℤ bx
    plain ax ay bx by = simp ring (omega (arith, linear))

pub read : (r z : ℤ) → r ≡ z → IsWithin 400000000000000000000 z → to_z w128 (of_z w128 r) ≡ z
read r z e h = rw e (omega (arith, ints, h.0, h.1))

along_within : (a b : Spot) → IsPlaced a → IsPlaced b → IsWithin 400000000000000000000 (a.x *ℤ b.x +ℤ a.y *ℤ b.y)
along_within a b h k =
    let p : IsWithin (METRE * METRE) (a.x *ℤ b.x) = product_within a.x b.x METRE METRE h.0 k.0 in
    let q : IsWithin (METRE * METRE) (a.y *ℤ b.y) = product_within a.y b.y METRE METRE h.1 k.1 in
    (omega (arith, ints, p.0, q.0), omega (arith, ints, p.1, q.1))

across_within : (a b : Spot) → IsPlaced a → IsPlaced b → IsWithin 400000000000000000000 (a.x *ℤ b.y -ℤ a.y *ℤ b.x)
across_within a b h k =
    let p : IsWithin (METRE * METRE) (a.x *ℤ b.y) = product_within a.x b.y METRE METRE h.0 k.1 in
    let q : IsWithin (METRE * METRE) (a.y *ℤ b.x) = product_within a.y b.x METRE METRE h.1 k.0 in
    (omega (arith, ints, p.0, q.1), omega (arith, ints, p.1, q.0))

pub along_read : (a b : Spot) (r : ℤ) → IsPlaced a → IsPlaced b → r ≡ dot_of zero_spot a b → to_z w128 (of_z w128 r) ≡ a.x *ℤ b.x +ℤ a.y *ℤ b.y
along_read a b r h k e = read r (a.x *ℤ b.x +ℤ a.y *ℤ b.y) (e ∙ along_is a b) (along_within a b h k)

pub along_small : (a b : Spot) (r : ℤ) → IsPlaced a → IsPlaced b → r ≡ dot_of zero_spot a b → IsWithin 400000000000000000000 (to_z w128 (of_z w128 r))
along_small a b r h k e = rw (along_read a b r h k e) (along_within a b h k)

pub across_read : (a b : Spot) (r : ℤ) → IsPlaced a → IsPlaced b → r ≡ cross_of zero_spot a b → to_z w128 (of_z w128 r) ≡ a.x *ℤ b.y -ℤ a.y *ℤ b.x
across_read a b r h k e = read r (a.x *ℤ b.y -ℤ a.y *ℤ b.x) (e ∙ across_is a b) (across_within a b h k)

pub across_small : (a b : Spot) (r : ℤ) → IsPlaced a → IsPlaced b → r ≡ cross_of zero_spot a b → IsWithin 400000000000000000000 (to_z w128 (of_z w128 r))
across_small a b r h k e = rw (across_read a b r h k e) (across_within a b h k)

pub read_sum : (r a b u v : ℤ) → r ≡ to_z w128 (of_z w128 a) +ℤ to_z w128 (of_z w128 b) → a ≡ u → b ≡ v → IsWithin 400000000000000000000 a → IsWithin 400000000000000000000 b → to_z w128 (of_z w128 r) ≡ u +ℤ v
read_sum r a b u v e p q h k = rw e (omega (arith, ints, p, q, h.0, h.1, k.0, k.1))

pub read_area : (r z : ℤ) → r ≡ z → IsWithin 800000000000000000000 r → to_z w128 (of_z w128 r) ≡ z
read_area r z e h = omega (arith, ints, e, h.0, h.1)

-- ---- a turned spot, n times

pub across_sum : (x y n ox oy sx sy : ℤ) → (ox *ℤ (n -ℤ x) +ℤ oy *ℤ y) +ℤ (sx *ℤ x -ℤ sy *ℤ y) ≡ n *ℤ ox +ℤ (x *ℤ (sx -ℤ ox) -ℤ y *ℤ (sy -ℤ oy))
across_sum x y n ox oy sx sy = simp ring (omega (arith, linear))

pub up_sum : (x y n ox oy sx sy : ℤ) → ((n -ℤ x) *ℤ oy -ℤ y *ℤ ox) +ℤ (sx *ℤ y +ℤ sy *ℤ x) ≡ n *ℤ oy +ℤ (x *ℤ (sy -ℤ oy) +ℤ y *ℤ (sx -ℤ ox))
up_sum x y n ox oy sx sy = simp ring (omega (arith, linear))

pub kept_is : (x y u v : ℤ) (s : Spot) → x ≡ u → y ≡ v → kept (record { x = x; y = y }) s ≡ kept (record { x = u; y = v }) s
kept_is x y u v s e f = rw (e, f) refl
