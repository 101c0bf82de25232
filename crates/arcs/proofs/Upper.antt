-- A ring lies in a capsule, where its directions are those of the chord.
use Rattle.std.proofs.Common.{◌≡◌, ◌⊎◌, inl, inr, ℤ, pos, neg_ℤ, ◌+ℤ◌, ◌-ℤ◌, ◌*ℤ◌, ◌≤ℤ◌, ◌<ℤ◌, arith, refl, sym, ◌∙◌}
use Rattle.planar.specs.declared.Spot.{Spot}
use Rattle.planar.specs.Plane.{InCapsule, Point, cross_of, square}
use Rattle.planar.proofs.Ring.{ring, linear, mul_assoc, le_or_lt, times_from_zero, square_from_zero, square_mono, square_cancel, times_mono, times_cancel, one-times, times-one, times-zero, zero-times}
use Rattle.arcs.specs.Copper.{AtMostLonger, side_of}
use Rattle.arcs.proofs.Whole.{ChordHoldsRing, IsNear}
use Rattle.arcs.specs.Chains.{IsRoom}
use Rattle.arcs.proofs.Vectors.{norm, norm_from_zero, square_of_sum, square_scaled, scaled, scaled_over}
use Rattle.arcs.proofs.Along.{apart_along}
use Rattle.arcs.proofs.Ring.{is_longer_by}
use Rattle.arcs.proofs.Lower.{place, place_within, place_over}

-- ---- a point of the ring, x and y from c, n times

module _ (w k : ℤ) (hw : pos 0 ≤ℤ w) (low high least most near far : ℤ) (room : IsRoom low high least most near far k) (n d : ℤ) (some : pos 1 ≤ℤ n) (from : pos 0 ≤ℤ d)
    (not_over : AtMostLonger (n *ℤ w) d (square n *ℤ high)) (not_under : AtMostLonger (n *ℤ w) (square n *ℤ low) d) where
  hn : pos 0 ≤ℤ n
  hn = omega (arith, linear, some)

  pen : pos 0 ≤ℤ (n *ℤ w)
  pen = times_from_zero n w hn hw

  -- it is not too far away
  pub not_far : d ≤ℤ square (n *ℤ (near +ℤ (w +ℤ k)))
  not_far =
      let h : (square n *ℤ high) ≤ℤ square (n *ℤ most) = rw (square_scaled n most) (times_mono (square n) high (square most) (square_from_zero n) room.most_is) in
      let from_most : pos 0 ≤ℤ (n *ℤ most) = times_from_zero n most hn room.most_from in
      let f : d ≤ℤ (((square n *ℤ high) +ℤ square (n *ℤ w)) +ℤ ((n *ℤ w) *ℤ (n *ℤ most) +ℤ (n *ℤ w) *ℤ (n *ℤ most))) = is_longer_by (n *ℤ w) d (square n *ℤ high) (n *ℤ most) pen from_most h not_over in
      let e : n *ℤ (most +ℤ w) ≡ n *ℤ w +ℤ n *ℤ most = simp ring (omega (arith, linear)) in
      let m : (n *ℤ (most +ℤ w)) ≤ℤ (n *ℤ (near +ℤ (w +ℤ k))) = times_mono n (most +ℤ w) (near +ℤ (w +ℤ k)) hn (omega (arith, linear, room.near_is)) in
      let s : square (n *ℤ w +ℤ n *ℤ most) ≤ℤ square (n *ℤ (near +ℤ (w +ℤ k))) = square_mono (n *ℤ w +ℤ n *ℤ most) (n *ℤ (near +ℤ (w +ℤ k))) (omega (arith, linear, pen, from_most)) (omega (arith, linear, e, m)) in
      omega (arith, linear, f, h, s, square_of_sum (n *ℤ w) (n *ℤ most))

  low_over : square (n *ℤ least) ≤ℤ (square n *ℤ low)
  low_over = rw (square_scaled n least) (times_mono (square n) (square least) low (square_from_zero n) room.least_is)

  -- and not too near
  pub not_close : (far ≤ℤ (w +ℤ k)) ⊎ (square (n *ℤ (far -ℤ (w +ℤ k))) ≤ℤ d)
  not_close = elim (le_or_lt far (w +ℤ k)) [ inl l ↦ inl l | inr g ↦ inr (over g) ]
    where
      over : (w +ℤ k) <ℤ far → square (n *ℤ (far -ℤ (w +ℤ k))) ≤ℤ d
      over g = elim (le_or_lt (square (n *ℤ (far -ℤ (w +ℤ k)))) d) [ inl l ↦ l | inr h ↦ absurd (none h) ]
        where
          t : pos 0 ≤ℤ (n *ℤ (far -ℤ (w +ℤ k)))
          t = times_from_zero n (far -ℤ (w +ℤ k)) hn (omega (arith, linear, g))

          none : d <ℤ square (n *ℤ (far -ℤ (w +ℤ k))) → ⊥
          none h =
              let f : (square n *ℤ low) ≤ℤ ((d +ℤ square (n *ℤ w)) +ℤ ((n *ℤ w) *ℤ (n *ℤ (far -ℤ (w +ℤ k))) +ℤ (n *ℤ w) *ℤ (n *ℤ (far -ℤ (w +ℤ k))))) =
              is_longer_by (n *ℤ w) (square n *ℤ low) d (n *ℤ (far -ℤ (w +ℤ k))) pen t (omega (arith, linear, h)) not_under in
              let e : n *ℤ (far -ℤ (w +ℤ k)) +ℤ n *ℤ w ≡ n *ℤ (far -ℤ k) = simp ring (omega (arith, linear)) in
              let m : (n *ℤ (far -ℤ k)) ≤ℤ (n *ℤ least) = times_mono n (far -ℤ k) least hn (omega (arith, linear, room.far_is)) in
              let s : square (n *ℤ w +ℤ n *ℤ (far -ℤ (w +ℤ k))) ≤ℤ square (n *ℤ least) = square_mono (n *ℤ w +ℤ n *ℤ (far -ℤ (w +ℤ k))) (n *ℤ least) (omega (arith, linear, pen, t)) (omega (arith, linear, e, m)) in
              omega (arith, linear, f, h, s, low_over, square_of_sum (n *ℤ w) (n *ℤ (far -ℤ (w +ℤ k))))

  -- where it is c itself, the pen is as long as the radius
  pub at_centre : d ≡ pos 0 → least ≤ℤ w
  at_centre h =
      let f : (square n *ℤ low) ≤ℤ ((d +ℤ square (n *ℤ w)) +ℤ ((n *ℤ w) *ℤ pos 0 +ℤ (n *ℤ w) *ℤ pos 0)) = is_longer_by (n *ℤ w) (square n *ℤ low) d (pos 0) pen record { le = tt } (omega (arith, linear, h)) not_under in
      let g : (n *ℤ least) ≤ℤ (n *ℤ w) = square_cancel (n *ℤ least) (n *ℤ w) pen (omega (arith, linear, f, h, low_over, times-zero (n *ℤ w))) in
      times_cancel n least w some g

-- ---- the place of the chord in a direction

-- x times the cross product of a and b, by both
pub spread_x : (ax ay bx by x y : ℤ) → place ((ax *ℤ y -ℤ ay *ℤ x) -ℤ (bx *ℤ y -ℤ by *ℤ x)) (ax *ℤ y -ℤ ay *ℤ x) ax bx ≡ (ax *ℤ by -ℤ ay *ℤ bx) *ℤ x
spread_x ax ay bx by x y = simp ring (omega (arith, linear))

pub spread_y : (ax ay bx by x y : ℤ) → place ((ax *ℤ y -ℤ ay *ℤ x) -ℤ (bx *ℤ y -ℤ by *ℤ x)) (ax *ℤ y -ℤ ay *ℤ x) ay by ≡ (ax *ℤ by -ℤ ay *ℤ bx) *ℤ y
spread_y ax ay bx by x y = simp ring (omega (arith, linear))

on_line : (n m k x y : ℤ) → (n *ℤ (k *ℤ x)) *ℤ (m *ℤ y) -ℤ (n *ℤ (k *ℤ y)) *ℤ (m *ℤ x) ≡ pos 0
on_line n m k x y = simp ring (omega (arith, linear))

one_way : (n m k x y : ℤ) → pos 1 ≤ℤ n → pos 1 ≤ℤ m → pos 1 ≤ℤ k → pos 0 ≤ℤ ((n *ℤ (k *ℤ x)) *ℤ (m *ℤ x) +ℤ (n *ℤ (k *ℤ y)) *ℤ (m *ℤ y))
one_way n m k x y hn hm hk =
    let nm : pos 0 ≤ℤ (n *ℤ m) = times_from_zero n m (omega (arith, linear, hn)) (omega (arith, linear, hm)) in
    let f : pos 0 ≤ℤ ((n *ℤ m) *ℤ (k *ℤ norm x y)) = times_from_zero (n *ℤ m) (k *ℤ norm x y) nm (times_from_zero k (norm x y) (omega (arith, linear, hk)) (norm_from_zero x y)) in
    simp ring (omega (arith, linear, simp ring at f))

-- m times the point less n times the place is what InCapsule squares
pub off : (m i x n a b c : ℤ) → m *ℤ (x -ℤ n *ℤ c) -ℤ n *ℤ place m i (a -ℤ c) (b -ℤ c) ≡ m *ℤ x -ℤ n *ℤ (m *ℤ a +ℤ i *ℤ (b -ℤ a))
off m i x n a b c = simp ring (omega (arith, linear))

-- 0 times x, where k is over 0
none_left : (k x : ℤ) → pos 1 ≤ℤ k → k *ℤ x ≡ pos 0 → x ≡ pos 0
none_left k x some h =
    let z = times-zero k in
    let over : x ≤ℤ pos 0 = times_cancel k x (pos 0) some (omega (arith, linear, h, z)) in
    let under : pos 0 ≤ℤ x = times_cancel k (pos 0) x some (omega (arith, linear, h, z)) in
    omega (arith, linear, over, under)

-- a point at most r from an end lies in the capsule
by_place : (i : ℤ) (a b s : Spot) → pos 0 ≤ℤ i → i ≤ℤ pos 1 → a.x +ℤ i *ℤ (b.x -ℤ a.x) ≡ s.x → a.y +ℤ i *ℤ (b.y -ℤ a.y) ≡ s.y → (r : ℤ) (p : Point) → IsNear r s p → InCapsule a b r p
by_place i a b s from to ex ey r p h = record { i = i; m = pos 1; from_start = from; to_end = to; positive = record { le = tt }; near = rw (there p.x p.n a.x b.x s.x ex, there p.y p.n a.y b.y s.y ey, times-one p.n) h }
  where
    there : (x n a b s : ℤ) → a +ℤ i *ℤ (b -ℤ a) ≡ s → pos 1 *ℤ x -ℤ n *ℤ (pos 1 *ℤ a +ℤ i *ℤ (b -ℤ a)) ≡ x -ℤ n *ℤ s
    there x n a b s e = rw (one-times x, one-times a, e) refl

pub by_start : (a b : Spot) (r : ℤ) (p : Point) → IsNear r a p → InCapsule a b r p
by_start a b r p h = by_place (pos 0) a b a record { le = tt } record { le = tt } (here a.x b.x) (here a.y b.y) r p h
  where
    here : (a b : ℤ) → a +ℤ pos 0 *ℤ (b -ℤ a) ≡ a
    here a b = omega (arith, linear, zero-times (b -ℤ a))

-- c itself is not further from a spot than the spot from c
from_centre : (x y n ax ay cx cy far r : ℤ) → pos 1 ≤ℤ n → pos 0 ≤ℤ far → far ≤ℤ r → x -ℤ n *ℤ cx ≡ pos 0 → y -ℤ n *ℤ cy ≡ pos 0 → norm (ax -ℤ cx) (ay -ℤ cy) ≤ℤ square far → norm (x -ℤ n *ℤ ax) (y -ℤ n *ℤ ay) ≤ℤ square (n *ℤ r)
from_centre x y n ax ay cx cy far r some hf l hx hy h =
    let s : norm (neg_ℤ n *ℤ (ax -ℤ cx)) (neg_ℤ n *ℤ (ay -ℤ cy)) ≤ℤ square (neg_ℤ n *ℤ far) = scaled (neg_ℤ n) (ax -ℤ cx) (ay -ℤ cy) far h in
    let ex : neg_ℤ n *ℤ (ax -ℤ cx) ≡ x -ℤ n *ℤ ax = simp ring (omega (arith, linear, hx)) in
    let ey : neg_ℤ n *ℤ (ay -ℤ cy) ≡ y -ℤ n *ℤ ay = simp ring (omega (arith, linear, hy)) in
    let e : square (neg_ℤ n *ℤ far) ≡ square (n *ℤ far) = simp ring (omega (arith, linear)) in
    let g : square (n *ℤ far) ≤ℤ square (n *ℤ r) = square_mono (n *ℤ far) (n *ℤ r) (times_from_zero n far (omega (arith, linear, some)) hf) (times_mono n far r (omega (arith, linear, some)) l) in
    omega (arith, linear, rw (ex, ey) at s, e, g)

nothing_left : (m i a b : ℤ) → m ≡ pos 0 → i ≡ pos 0 → place m i a b ≡ pos 0
nothing_left m i a b h k = rw (h, k) (omega (arith, linear, zero-times a, zero-times (b -ℤ a)))

pub sum : (n m s t : ℤ) → m *ℤ (n *ℤ (s +ℤ t)) ≡ n *ℤ (m *ℤ s) +ℤ n *ℤ m *ℤ t
sum n m s t = simp ring (omega (arith, linear))

difference : (n m s t : ℤ) → m *ℤ (n *ℤ (s -ℤ t)) ≡ n *ℤ (m *ℤ s) -ℤ n *ℤ m *ℤ t
difference n m s t = simp ring (omega (arith, linear))

pub chord_holds_ring : ChordHoldsRing
chord_holds_ring c a b low high least most near far k w p hw room chord wedge inside = elim (le_or_lt (pos 1) m) [ inl some ↦ beside some | inr none ↦ middle (omega (arith, linear, none, wedge.0, wedge.1)) (omega (arith, linear, none, wedge.0, wedge.1)) ]
  where
    x : ℤ
    x = p.x -ℤ p.n *ℤ c.x

    y : ℤ
    y = p.y -ℤ p.n *ℤ c.y

    i : ℤ
    i = side_of c a p

    m : ℤ
    m = side_of c a p -ℤ side_of c b p

    qx : ℤ
    qx = place m i (a.x -ℤ c.x) (b.x -ℤ c.x)

    qy : ℤ
    qy = place m i (a.y -ℤ c.y) (b.y -ℤ c.y)

    ex : qx ≡ cross_of c a b *ℤ x
    ex = spread_x (a.x -ℤ c.x) (a.y -ℤ c.y) (b.x -ℤ c.x) (b.y -ℤ c.y) x y

    ey : qy ≡ cross_of c a b *ℤ y
    ey = spread_y (a.x -ℤ c.x) (a.y -ℤ c.y) (b.x -ℤ c.x) (b.y -ℤ c.y) x y

    far_off : norm x y ≤ℤ square (p.n *ℤ (near +ℤ (w +ℤ k)))
    far_off = not_far w k hw low high least most near far room p.n (norm x y) p.positive (norm_from_zero x y) inside.0 inside.1

    close_by : (far ≤ℤ (w +ℤ k)) ⊎ (square (p.n *ℤ (far -ℤ (w +ℤ k))) ≤ℤ norm x y)
    close_by = not_close w k hw low high least most near far room p.n (norm x y) p.positive (norm_from_zero x y) inside.0 inside.1

    beside : pos 1 ≤ℤ m → InCapsule a b (w +ℤ k) p
    beside some = record { i = i; m = m; from_start = wedge.0; to_end = omega (arith, linear, wedge.1); positive = some; near = rw (← (off m i p.x p.n a.x b.x c.x), ← (off m i p.y p.n a.y b.y c.y)) apart }
      where
        n : ℤ
        n = p.n

        nm : pos 0 ≤ℤ (n *ℤ m)
        nm = times_from_zero n m (omega (arith, linear, p.positive)) (omega (arith, linear, some))

        long : (s : ℤ) → pos 0 ≤ℤ s → pos 0 ≤ℤ (n *ℤ (m *ℤ s))
        long s h = times_from_zero n (m *ℤ s) (omega (arith, linear, p.positive)) (times_from_zero m s (omega (arith, linear, some)) h)

        over : ((n *ℤ (m *ℤ far)) ≤ℤ (n *ℤ m *ℤ (w +ℤ k))) ⊎ (square (n *ℤ (m *ℤ far) -ℤ n *ℤ m *ℤ (w +ℤ k)) ≤ℤ norm (m *ℤ x) (m *ℤ y))
        over = elim close_by [
          | inl l ↦ inl (rw (← (mul_assoc n m far)) (times_mono (n *ℤ m) far (w +ℤ k) nm l))
          | inr h ↦ inr (rw (← (difference n m far (w +ℤ k))) (scaled_over m x y (n *ℤ (far -ℤ (w +ℤ k))) h))
        ]

        apart : norm (m *ℤ x -ℤ n *ℤ qx) (m *ℤ y -ℤ n *ℤ qy) ≤ℤ square (n *ℤ m *ℤ (w +ℤ k))
        apart =
            apart_along (m *ℤ x) (m *ℤ y) (n *ℤ qx) (n *ℤ qy) (n *ℤ (m *ℤ near)) (n *ℤ (m *ℤ far)) (n *ℤ m *ℤ (w +ℤ k)) (long near room.near_from) (long far room.far_from) (times_from_zero (n *ℤ m) (w +ℤ k) nm (omega (arith, linear, hw, room.k_from)))
            (scaled_over n qx qy (m *ℤ near) (place_over c a b near far room.far_from chord m i wedge.0 (omega (arith, linear, wedge.1))))
            (scaled n qx qy (m *ℤ far) (place_within c a b near far room.far_from chord m i wedge.0 (omega (arith, linear, wedge.1))))
            (rw (← (sum n m near (w +ℤ k))) (scaled m x y (n *ℤ (near +ℤ (w +ℤ k))) far_off))
            over
            (rw (ex, ey) (on_line n m (cross_of c a b) x y))
            (rw (ex, ey) (one_way n m (cross_of c a b) x y p.positive some chord.left))

    middle : side_of c a p ≡ pos 0 → side_of c b p ≡ pos 0 → InCapsule a b (w +ℤ k) p
    middle h g =
        let zx : x ≡ pos 0 = none_left (cross_of c a b) x chord.left (sym ex ∙ nothing_left m i (a.x -ℤ c.x) (b.x -ℤ c.x) (omega (arith, linear, h, g)) h) in
        let zy : y ≡ pos 0 = none_left (cross_of c a b) y chord.left (sym ey ∙ nothing_left m i (a.y -ℤ c.y) (b.y -ℤ c.y) (omega (arith, linear, h, g)) h) in
        let d : norm x y ≡ pos 0 = rw (zx, zy) refl in
        let l : least ≤ℤ w = at_centre w k hw low high least most near far room p.n (norm x y) p.positive (norm_from_zero x y) inside.0 inside.1 d in
        by_start a b (w +ℤ k) p (from_centre p.x p.y p.n a.x a.y c.x c.y far (w +ℤ k) p.positive room.far_from (omega (arith, linear, l, room.far_is)) zx zy chord.first)
