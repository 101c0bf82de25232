-- Which turns there are, and which are in a cone.
use Rattle.std.proofs.Common.{◌≡◌, inl, inr, ℤ, pos, neg_ℤ, ◌+ℤ◌, ◌-ℤ◌, ◌*ℤ◌, ◌≤ℤ◌, arith}
use Rattle.planar.specs.Plane.{square}
use Rattle.planar.proofs.Ring.{ring, linear, le_or_lt, over_zero, square_over, square_from_zero, square_mono, square_zero, square-neg}
use Rattle.slants.specs.Laws.{IsTold, crossed_of}
use Rattle.slants.specs.Turned.{IsBetween, IsTurn}
use Rattle.slants.specs.declared.turns.Motions.{Motions}
use Rattle.slants.specs.declared.turns.Turn.{Turn}

-- ---- half of the turn to (a, b) leads to (c + a, b)

halved_n : (a b c : ℤ) → (c +ℤ a) *ℤ (c +ℤ a) +ℤ b *ℤ b ≡ (c *ℤ c +ℤ (c *ℤ a +ℤ c *ℤ a)) +ℤ (a *ℤ a +ℤ b *ℤ b)
halved_n a b c = simp ring (omega (arith, linear))

doubled_n : (a b c : ℤ) → a *ℤ a +ℤ b *ℤ b ≡ c *ℤ c → (c +ℤ a) *ℤ (c +ℤ a) +ℤ b *ℤ b ≡ c *ℤ (c +ℤ a) +ℤ c *ℤ (c +ℤ a)
doubled_n a b c e =
    let f : c *ℤ (c +ℤ a) +ℤ c *ℤ (c +ℤ a) ≡ (c *ℤ c +ℤ (c *ℤ a +ℤ c *ℤ a)) +ℤ c *ℤ c = simp ring (omega (arith, linear)) in
    omega (arith, linear, f, halved_n a b c, e)

doubled_x : (a b c : ℤ) → a *ℤ a +ℤ b *ℤ b ≡ c *ℤ c → (c +ℤ a) *ℤ (c +ℤ a) -ℤ b *ℤ b ≡ a *ℤ (c +ℤ a) +ℤ a *ℤ (c +ℤ a)
doubled_x a b c e =
    let f : (c +ℤ a) *ℤ (c +ℤ a) -ℤ b *ℤ b ≡ (c *ℤ c +ℤ (c *ℤ a +ℤ c *ℤ a)) +ℤ (a *ℤ a -ℤ b *ℤ b) = simp ring (omega (arith, linear)) in
    let g : a *ℤ (c +ℤ a) +ℤ a *ℤ (c +ℤ a) ≡ (c *ℤ a +ℤ c *ℤ a) +ℤ (a *ℤ a +ℤ a *ℤ a) = simp ring (omega (arith, linear)) in
    omega (arith, linear, e, f, g)

swapped : (a c z : ℤ) → (a *ℤ z +ℤ a *ℤ z) *ℤ c ≡ a *ℤ (c *ℤ z +ℤ c *ℤ z)
swapped a c z = simp ring

half : (a b c : ℤ) → pos 1 ≤ℤ c → a *ℤ a +ℤ b *ℤ b ≡ c *ℤ c → pos 1 ≤ℤ (c +ℤ a) → IsTold a b c
half a b c hc e l = record {
  turn = record { x = c +ℤ a; y = b };
  some = omega (arith, linear, square_over (c +ℤ a) l, square_from_zero b);
  cosine = rw (doubled_x a b c e, doubled_n a b c e) (swapped a c (c +ℤ a));
  sine = rw (doubled_n a b c e) (across a b c);
}
  where
    across : (a b c : ℤ) → ((c +ℤ a) *ℤ b +ℤ b *ℤ (c +ℤ a)) *ℤ c ≡ b *ℤ (c *ℤ (c +ℤ a) +ℤ c *ℤ (c +ℤ a))
    across a b c = simp ring (omega (arith, linear))

-- ---- but a half turn

half_turn : (a b c : ℤ) → pos 1 ≤ℤ c → a *ℤ a +ℤ b *ℤ b ≡ c *ℤ c → (c +ℤ a) ≤ℤ pos 0 → (a ≡ neg_ℤ c) × (b ≡ pos 0)
half_turn a b c hc e l =
    let f : (c *ℤ c) ≤ℤ (neg_ℤ a *ℤ neg_ℤ a) = square_mono c (neg_ℤ a) (omega (arith, linear, hc)) (omega (arith, linear, l)) in
    let none : (b *ℤ b) ≤ℤ pos 0 = omega (arith, linear, e, f, square-neg a) in
    let g : (neg_ℤ a +ℤ neg_ℤ c) *ℤ (neg_ℤ a +ℤ c) ≡ a *ℤ a -ℤ c *ℤ c = simp ring (omega (arith, linear)) in (
      elim (le_or_lt (neg_ℤ c) a) [
        | inl k ↦ omega (arith, linear, k, l)
        | inr k ↦ absurd (omega (arith, linear, e, g, square_from_zero b, over_zero (neg_ℤ a +ℤ neg_ℤ c) (neg_ℤ a +ℤ c) (omega (arith, linear, k)) (omega (arith, linear, k, hc))))
      ],
      square_zero b none,
    )

pub each_told : (a b c : ℤ) → pos 1 ≤ℤ c → square a +ℤ square b ≡ square c → IsTold a b c
each_told a b c hc e = elim (le_or_lt (c +ℤ a) (pos 0)) [
  | inl l ↦ let k : (a ≡ neg_ℤ c) × (b ≡ pos 0) = half_turn a b c hc e l in record {
    turn = record { x = pos 0; y = pos 1 };
    some = record { le = tt };
    cosine = rw k.0 (flat c);
    sine = rw k.1 (none c);
  }
  | inr l ↦ half a b c hc e (omega (arith, linear, l))
]
  where
    flat : (c : ℤ) → (pos 0 *ℤ pos 0 -ℤ pos 1 *ℤ pos 1) *ℤ c ≡ neg_ℤ c *ℤ (pos 0 *ℤ pos 0 +ℤ pos 1 *ℤ pos 1)
    flat c = simp ring (omega (arith, linear))

    none : (c : ℤ) → (pos 0 *ℤ pos 1 +ℤ pos 1 *ℤ pos 0) *ℤ c ≡ pos 0 *ℤ (pos 0 *ℤ pos 0 +ℤ pos 1 *ℤ pos 1)
    none c = simp ring

-- ---- a way by two others

by_two_x : (tx ty ux uy vx vy : ℤ) → (ux *ℤ vy -ℤ uy *ℤ vx) *ℤ tx ≡ (tx *ℤ vy -ℤ ty *ℤ vx) *ℤ ux +ℤ (ux *ℤ ty -ℤ uy *ℤ tx) *ℤ vx
by_two_x tx ty ux uy vx vy = simp ring (omega (arith, linear))

by_two_y : (tx ty ux uy vx vy : ℤ) → (ux *ℤ vy -ℤ uy *ℤ vx) *ℤ ty ≡ (tx *ℤ vy -ℤ ty *ℤ vx) *ℤ uy +ℤ (ux *ℤ ty -ℤ uy *ℤ tx) *ℤ vy
by_two_y tx ty ux uy vx vy = simp ring (omega (arith, linear))

pub sides_tell : (m : Motions) (t : Turn) → IsTurn t → pos 1 ≤ℤ crossed_of m.first m.last → pos 0 ≤ℤ crossed_of m.first t → pos 0 ≤ℤ crossed_of t m.last → IsBetween m t
sides_tell m t some left k j = record {
  some = some;
  i = crossed_of m.first m.last;
  j = crossed_of t m.last;
  k = crossed_of m.first t;
  positive = left;
  from_first = j;
  from_last = k;
  across = by_two_x t.x t.y m.first.x m.first.y m.last.x m.last.y;
  up = by_two_y t.x t.y m.first.x m.first.y m.last.x m.last.y;
}
