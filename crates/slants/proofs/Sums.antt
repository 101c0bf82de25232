-- What the code's sums and products of turned figures are: no bits are lost.
use Rattle.std.proofs.Common.{false, IsTrue, ◌≡◌, ◌↔◌, inl, inr, refl, ◌*◌, ℤ, pos, neg_ℤ, ◌+ℤ◌, ◌-ℤ◌, ◌*ℤ◌, ◌≤ℤ◌, arith, FitsSigned, to_z, of_z, to_z-of_z}
use Rattle.std.proofs.lemmas.Int.{ints}
use lib.Signed.{le_z}
use Rattle.std.specs.Int.{w128}
use Rattle.planar.specs.declared.Spot.{Spot}
use Rattle.planar.specs.declared.TheConstants.{METRE, TWO_METRES}
use Rattle.planar.specs.Plane.{IsPlaced, IsWithin, cross_of, dot_of}
use Rattle.planar.proofs.Ring.{linear, le_or_lt, mul-neg, neg-mul, product_within}
use Rattle.planar.proofs.EdgeLaw.{not_le, is_le}
use Rattle.slants.specs.Turned.{AreReady, IsBounded, IsSmall, back_of, meet_of}
use Rattle.slants.specs.declared.turns.Heading.{Heading}
use Rattle.slants.specs.declared.turns.Motions.{Motions}
use Rattle.slants.specs.declared.turns.Turn.{Turn}
use Rattle.slants.specs.declared.turns.TheConstants.{MOST_PART}

-- ---- the products of an edge and a spot

far : (z w : ℤ) → IsWithin METRE z → IsWithin METRE w → IsWithin TWO_METRES (w -ℤ z)
far z w h k = (omega (arith, ints, h, k), omega (arith, ints, h, k))

abbrev zero : Spot
zero = record { x = pos 0; y = pos 0 }

abbrev IsArea : ℤ → Type 0
IsArea z = IsWithin 800000000000000000000 z

two_areas : (a b c d : ℤ) → IsWithin TWO_METRES a → IsWithin TWO_METRES b → IsWithin TWO_METRES c → IsWithin TWO_METRES d → IsArea (a *ℤ b -ℤ c *ℤ d) × IsArea (a *ℤ b +ℤ c *ℤ d)
two_areas a b c d h k l m =
    let s : IsWithin 400000000000000000000 (a *ℤ b) = product_within a b TWO_METRES TWO_METRES h k in
    let t : IsWithin 400000000000000000000 (c *ℤ d) = product_within c d TWO_METRES TWO_METRES l m in
    ((omega (arith, ints, s, t), omega (arith, ints, s, t)), (omega (arith, ints, s, t), omega (arith, ints, s, t)))

pub cross_within : (b c q : Spot) → IsPlaced b → IsPlaced c → IsPlaced q → IsArea (cross_of b c q)
cross_within b c q h k l = (two_areas (c.x -ℤ b.x) (q.y -ℤ b.y) (c.y -ℤ b.y) (q.x -ℤ b.x) (far b.x c.x h.0 k.0) (far b.y q.y h.1 l.1) (far b.y c.y h.1 k.1) (far b.x q.x h.0 l.0)).0

pub dot_within : (b c q : Spot) → IsPlaced b → IsPlaced c → IsPlaced q → IsArea (dot_of b c q)
dot_within b c q h k l = (two_areas (c.x -ℤ b.x) (q.x -ℤ b.x) (c.y -ℤ b.y) (q.y -ℤ b.y) (far b.x c.x h.0 k.0) (far b.x q.x h.0 l.0) (far b.y c.y h.1 k.1) (far b.y q.y h.1 l.1)).1

abbrev read : ℤ → ℤ
read z = to_z w128 (of_z w128 z)

abbrev IsPart : ℤ → Type 0
IsPart z = IsWithin (4 * TWO_METRES * TWO_METRES) z

area_read : (z : ℤ) → IsArea z → read z ≡ z
area_read z h = let f : FitsSigned w128 z = omega (arith, ints, h) in to_z-of_z f

pub area_part : (a z : ℤ) → a ≡ z → IsArea z → IsPart (read a)
area_part a z e h = rw (e, area_read z h) (omega (arith, ints, h), omega (arith, ints, h))

module _ (a b z w : ℤ) (e : a ≡ z) (f : b ≡ w) (h : IsArea z) (k : IsArea w) where
  less_fits : FitsSigned w128 (z -ℤ w)
  less_fits = omega (arith, ints, h, k)

  pub less_overflow : FitsSigned w128 (read a -ℤ read b)
  less_overflow = rw (e, f, area_read z h, area_read w k) less_fits

  pub less_read : read (read a -ℤ read b) ≡ z -ℤ w
  less_read = rw (e, f, area_read z h, area_read w k) (to_z-of_z less_fits)

  pub less_part : IsPart (read (read a -ℤ read b))
  less_part = rw less_read (omega (arith, ints, h, k), omega (arith, ints, h, k))

-- ---- sums of a spot and a spot that it turns to

pub area_to : (a z : ℤ) → a ≡ z → IsArea z → z ≡ read a
area_to a z e h = rw (e, area_read z h) refl

module _ (a z : ℤ) (e : a ≡ z) (h : IsArea z) where
  twice_fits : FitsSigned w128 (z +ℤ z)
  twice_fits = omega (arith, ints, h)

  pub twice_overflow : FitsSigned w128 (read a +ℤ read a)
  twice_overflow = rw (e, area_read z h) twice_fits

  pub twice_read : read (read a +ℤ read a) ≡ z +ℤ z
  twice_read = rw (e, area_read z h) (to_z-of_z twice_fits)

  pub twice_part : IsPart (read (read a +ℤ read a))
  twice_part = rw twice_read (omega (arith, ints, h), omega (arith, ints, h))

abbrev IsSquare : ℤ → Type 0
IsSquare z = (pos 0 ≤ℤ z) × (z ≤ℤ pos 800000000000000000000)

square_read : (z : ℤ) → IsSquare z → read z ≡ z
square_read z h = let f : FitsSigned w128 z = omega (arith, ints, h) in to_z-of_z f

pub first_left_overflow : (s a : ℤ) → IsSquare s → IsSquare a → FitsSigned w128 (read s -ℤ read a)
first_left_overflow s a hs ha = let f : FitsSigned w128 (s -ℤ a) = omega (arith, ints, hs, ha) in rw (square_read s hs, square_read a ha) f

module _ (s a b : ℤ) (hs : IsSquare s) (ha : IsSquare a) (hb : IsSquare b) where
  first_left : read (read s -ℤ read a) ≡ s -ℤ a
  first_left = let f : FitsSigned w128 (s -ℤ a) = omega (arith, ints, hs, ha) in rw (square_read s hs, square_read a ha) (to_z-of_z f)

  left_fits : FitsSigned w128 ((s -ℤ a) -ℤ b)
  left_fits = omega (arith, ints, hs, ha, hb)

  pub left_overflow : FitsSigned w128 (read (read s -ℤ read a) -ℤ read b)
  left_overflow = rw (first_left, square_read b hb) left_fits

  pub left_read : read (read (read s -ℤ read a) -ℤ read b) ≡ (s -ℤ a) -ℤ b
  left_read = rw (first_left, square_read b hb) (to_z-of_z left_fits)

  pub left_part : IsPart (read (read (read s -ℤ read a) -ℤ read b))
  left_part = rw left_read (omega (arith, ints, hs, ha, hb), omega (arith, ints, hs, ha, hb))

-- ---- a heading

abbrev IsShare : ℤ → Type 0
IsShare z = IsWithin (2 * MOST_PART * MOST_PART) z

two_shares : (a b c d : ℤ) → IsWithin MOST_PART a → IsWithin MOST_PART b → IsWithin MOST_PART c → IsWithin MOST_PART d → IsShare (a *ℤ b -ℤ c *ℤ d) × IsShare (a *ℤ b +ℤ c *ℤ d)
two_shares a b c d h k l m =
    let s : IsWithin 10000000000000000 (a *ℤ b) = product_within a b MOST_PART MOST_PART h k in
    let t : IsWithin 10000000000000000 (c *ℤ d) = product_within c d MOST_PART MOST_PART l m in
    ((omega (arith, ints, s, t), omega (arith, ints, s, t)), (omega (arith, ints, s, t), omega (arith, ints, s, t)))

pub bounded : (u v : Turn) → IsSmall u → IsSmall v → IsBounded (meet_of u v)
bounded u v h k = ((two_shares u.x v.x u.y v.y h.0 k.0 h.1 k.1).0, (two_shares u.x v.y u.y v.x h.0 k.1 h.1 k.0).1, (two_shares u.x v.x u.y v.y h.0 k.0 h.1 k.1).1)

pub mirror_placed : (u : Turn) (x y : ℤ) → IsSmall u → x ≡ u.x → y ≡ neg_ℤ u.y → IsWithin METRE x × IsWithin METRE y
mirror_placed u x y h e f = rw (e, f) ((omega (arith, ints, h), omega (arith, ints, h)), (omega (arith, ints, h), omega (arith, ints, h)))

from_zero : (z : ℤ) → z -ℤ pos 0 ≡ z
from_zero z = omega (arith, ints)

module _ (u v : Turn) (a b : Spot) (ax : a.x ≡ u.x) (bx : b.x ≡ v.x) where
  pub across_is : a.y ≡ u.y → b.y ≡ neg_ℤ v.y → dot_of zero a b ≡ (meet_of u v).x
  across_is ay by = rw (from_zero a.x, from_zero a.y, from_zero b.x, from_zero b.y, ax, ay, bx, by) (minus u.x u.y v.x v.y)
    where
      minus : (ux uy vx vy : ℤ) → ux *ℤ vx +ℤ uy *ℤ neg_ℤ vy ≡ ux *ℤ vx -ℤ uy *ℤ vy
      minus ux uy vx vy = omega (arith, linear, mul-neg uy vy)

  pub up_is : a.y ≡ neg_ℤ u.y → b.y ≡ v.y → cross_of zero a b ≡ (meet_of u v).y
  up_is ay by = rw (from_zero a.x, from_zero a.y, from_zero b.x, from_zero b.y, ax, ay, bx, by) (plus u.x u.y v.x v.y)
    where
      plus : (ux uy vx vy : ℤ) → ux *ℤ vy -ℤ neg_ℤ uy *ℤ vx ≡ ux *ℤ vy +ℤ uy *ℤ vx
      plus ux uy vx vy = omega (arith, linear, neg-mul uy vx)

  pub whole_is : a.y ≡ u.y → b.y ≡ v.y → dot_of zero a b ≡ (meet_of u v).n
  whole_is ay by = rw (from_zero a.x, from_zero a.y, from_zero b.x, from_zero b.y, ax, ay, bx, by) refl

share_read : (p z : ℤ) → p ≡ z → IsShare z → read p ≡ z
share_read p z e h = let f : FitsSigned w128 z = omega (arith, ints, h) in rw e (to_z-of_z f)

abbrev heading : ℤ → ℤ → ℤ → Heading
heading x y n = record { x = x; y = y; n = n }

pub meet_read : (u v : Turn) (x y n : ℤ) → IsSmall u → IsSmall v → x ≡ (meet_of u v).x → y ≡ (meet_of u v).y → n ≡ (meet_of u v).n → heading (read x) (read y) (read n) ≡ meet_of u v
meet_read u v x y n h k e f g =
    let b : IsBounded (meet_of u v) = bounded u v h k in
    rw (share_read x (meet_of u v).x e b.0, share_read y (meet_of u v).y f b.1, share_read n (meet_of u v).n g b.2) refl

-- ---- the sum of three products

module _ (a d : ℤ) (h : IsPart a) (k : IsShare d) where
  small : IsWithin 32000000000000000000000000000000000000 (a *ℤ d)
  small = product_within a d 1600000000000000000000 20000000000000000 h k

  part_fits : FitsSigned w128 a
  part_fits = omega (arith, ints, h)

  share_fits : FitsSigned w128 d
  share_fits = omega (arith, ints, k)

  product_fits : FitsSigned w128 (a *ℤ d)
  product_fits = let s : IsWithin 32000000000000000000000000000000000000 (a *ℤ d) = small in omega (arith, ints)

  pub product_overflow : FitsSigned w128 (read a *ℤ read d)
  product_overflow =
      let f : FitsSigned w128 a = part_fits in let g : FitsSigned w128 d = share_fits in
      simp to_z-of_z product_fits

  product_read : read (read a *ℤ read d) ≡ a *ℤ d
  product_read =
      let f : FitsSigned w128 a = part_fits in let g : FitsSigned w128 d = share_fits in
      let p : FitsSigned w128 (a *ℤ d) = product_fits in
      simp to_z-of_z

module _ (a b c d e f : ℤ) (ha : IsPart a) (hb : IsPart b) (hc : IsPart c) (hd : IsShare d) (he : IsShare e) (hf : IsShare f) where
  first_fits : FitsSigned w128 (a *ℤ d +ℤ b *ℤ e)
  first_fits =
      let s : IsWithin 32000000000000000000000000000000000000 (a *ℤ d) = small a d ha hd in
      let t : IsWithin 32000000000000000000000000000000000000 (b *ℤ e) = small b e hb he in
      omega (arith, ints, s, t)

  pub first_overflow : FitsSigned w128 (read (read a *ℤ read d) +ℤ read (read b *ℤ read e))
  first_overflow = rw (product_read a d ha hd, product_read b e hb he) first_fits

  first_read : read (read (read a *ℤ read d) +ℤ read (read b *ℤ read e)) ≡ a *ℤ d +ℤ b *ℤ e
  first_read = rw (product_read a d ha hd, product_read b e hb he) (to_z-of_z first_fits)

  whole_fits : FitsSigned w128 ((a *ℤ d +ℤ b *ℤ e) +ℤ c *ℤ f)
  whole_fits =
      let s : IsWithin 32000000000000000000000000000000000000 (a *ℤ d) = small a d ha hd in
      let t : IsWithin 32000000000000000000000000000000000000 (b *ℤ e) = small b e hb he in
      let u : IsWithin 32000000000000000000000000000000000000 (c *ℤ f) = small c f hc hf in
      omega (arith, ints, s, t, u)

  pub whole_overflow : FitsSigned w128 (read (read (read a *ℤ read d) +ℤ read (read b *ℤ read e)) +ℤ read (read c *ℤ read f))
  whole_overflow = rw (first_read, product_read c f hc hf) whole_fits

  pub whole_read : read (read (read (read a *ℤ read d) +ℤ read (read b *ℤ read e)) +ℤ read (read c *ℤ read f)) ≡ (a *ℤ d +ℤ b *ℤ e) +ℤ c *ℤ f
  whole_read = rw (first_read, product_read c f hc hf) (to_z-of_z whole_fits)

-- ---- the test

-- a sign that is told by the number's bits
pub sign_read : (r z : ℤ) → r ≡ z → FitsSigned w128 r → IsTrue (le_z (pos 0) (read r)) ↔ (pos 0 ≤ℤ z)
sign_read r z e f = rw (to_z-of_z f, e) (there, λ l. rw (is_le (pos 0) z l) refl)
  where
    there : IsTrue (le_z (pos 0) z) → pos 0 ≤ℤ z
    there t = elim (le_or_lt (pos 0) z) [ inl l ↦ l | inr l ↦ (let n : le_z (pos 0) z ≡ false = not_le (pos 0) z l in cc) ]

-- ---- the motions back

pub ready_back : (m : Motions) → AreReady (back_of m) → AreReady m
ready_back m h = record {
  first = (h.first.0, (omega (arith, ints, h.first.1), omega (arith, ints, h.first.1)));
  last = (h.last.0, (omega (arith, ints, h.last.1), omega (arith, ints, h.last.1)));
  from = h.to;
  to = h.from;
}
