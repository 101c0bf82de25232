-- Between a chord and the circle: what the disc and the triangle over the chord do not share lies in the capsule along the chord.
use Rattle.std.proofs.Common.{◌≡◌, inl, inr, ℤ, pos, ◌+ℤ◌, ◌-ℤ◌, ◌*ℤ◌, ◌≤ℤ◌, ◌<ℤ◌, arith}
use Rattle.planar.specs.declared.Spot.{Spot}
use Rattle.planar.specs.Plane.{InCapsule, Point, cross_of, square}
use Rattle.planar.proofs.Ring.{ring, linear, le_or_lt, times_from_zero, square_from_zero, square_mono, square_over, times_mono, zero-times, over_zero}
use Rattle.arcs.specs.Copper.{side_of}
use Rattle.arcs.specs.Chains.{IsChord, IsRoom}
use Rattle.arcs.proofs.Along.{sum_longer}
use Rattle.arcs.proofs.Lower.{place, place_within, place_over}
use Rattle.arcs.proofs.Upper.{off, spread_x, spread_y, sum}
use Rattle.arcs.proofs.Vectors.{norm, norm_from_zero, norm_scaled, square_scaled, scaled, scaled_over}

-- two vectors along x y, of which the second is the longer
on_line : (e f x y : ℤ) → (e *ℤ x) *ℤ (f *ℤ y -ℤ e *ℤ y) -ℤ (e *ℤ y) *ℤ (f *ℤ x -ℤ e *ℤ x) ≡ pos 0
on_line e f x y = simp ring (omega (arith, linear))

one_way : (e f x y : ℤ) → pos 0 ≤ℤ e → e ≤ℤ f → pos 0 ≤ℤ ((e *ℤ x) *ℤ (f *ℤ x -ℤ e *ℤ x) +ℤ (e *ℤ y) *ℤ (f *ℤ y -ℤ e *ℤ y))
one_way e f x y h k =
    let g : pos 0 ≤ℤ (e *ℤ ((f -ℤ e) *ℤ norm x y)) = times_from_zero e ((f -ℤ e) *ℤ norm x y) h (times_from_zero (f -ℤ e) (norm x y) (omega (arith, linear, k)) (norm_from_zero x y)) in
    let i : (e *ℤ x) *ℤ (f *ℤ x -ℤ e *ℤ x) +ℤ (e *ℤ y) *ℤ (f *ℤ y -ℤ e *ℤ y) ≡ e *ℤ ((f -ℤ e) *ℤ norm x y) = simp ring (omega (arith, linear)) in
    omega (arith, linear, g, i)

-- along x y: the shorter vector is at least l long, the longer at most l + t. So they are at most t apart
along : (e f x y l t : ℤ) → pos 0 ≤ℤ e → e ≤ℤ f → pos 0 ≤ℤ l → pos 0 ≤ℤ t → square l ≤ℤ norm (e *ℤ x) (e *ℤ y) → norm (f *ℤ x) (f *ℤ y) ≤ℤ square (l +ℤ t) → norm (f *ℤ x -ℤ e *ℤ x) (f *ℤ y -ℤ e *ℤ y) ≤ℤ square t
along e f x y l t he hf hl ht from to = elim (le_or_lt (norm (f *ℤ x -ℤ e *ℤ x) (f *ℤ y -ℤ e *ℤ y)) (square t)) [ inl h ↦ h | inr g ↦ absurd (past g) ]
  where
    past : square t <ℤ norm (f *ℤ x -ℤ e *ℤ x) (f *ℤ y -ℤ e *ℤ y) → ⊥
    past g =
        let h : square (l +ℤ t) <ℤ norm (e *ℤ x +ℤ (f *ℤ x -ℤ e *ℤ x)) (e *ℤ y +ℤ (f *ℤ y -ℤ e *ℤ y)) = sum_longer (e *ℤ x) (e *ℤ y) (f *ℤ x -ℤ e *ℤ x) (f *ℤ y -ℤ e *ℤ y) l t hl ht from g (on_line e f x y) (one_way e f x y he hf) in
        let px : e *ℤ x +ℤ (f *ℤ x -ℤ e *ℤ x) ≡ f *ℤ x = omega (arith, linear) in
        let py : e *ℤ y +ℤ (f *ℤ y -ℤ e *ℤ y) ≡ f *ℤ y = omega (arith, linear) in
        omega (arith, linear, rw (px, py) at h, to)

turned : (e f x y : ℤ) → norm (e *ℤ x -ℤ f *ℤ x) (e *ℤ y -ℤ f *ℤ y) ≡ norm (f *ℤ x -ℤ e *ℤ x) (f *ℤ y -ℤ e *ℤ y)
turned e f x y = simp ring (omega (arith, linear))

module _ (c a b : Spot) (s least most near far k : ℤ) (room : IsRoom s s least most near far k) (chord : IsChord c near far a b) (p : Point) (left : pos 0 ≤ℤ side_of c a p) (right : side_of c b p ≤ℤ pos 0) where
  abbrev x : ℤ
  x = p.x -ℤ p.n *ℤ c.x

  abbrev y : ℤ
  y = p.y -ℤ p.n *ℤ c.y

  -- p is i/m of the way from a to b in its direction, m/(n d) as far as it is, if d is the cross product of a and b
  abbrev i : ℤ
  i = side_of c a p

  abbrev m : ℤ
  m = side_of c a p -ℤ side_of c b p

  abbrev d : ℤ
  d = cross_of c a b

  abbrev qx : ℤ
  qx = place m i (a.x -ℤ c.x) (b.x -ℤ c.x)

  abbrev qy : ℤ
  qy = place m i (a.y -ℤ c.y) (b.y -ℤ c.y)

  ex : qx ≡ d *ℤ x
  ex = spread_x (a.x -ℤ c.x) (a.y -ℤ c.y) (b.x -ℤ c.x) (b.y -ℤ c.y) x y

  ey : qy ≡ d *ℤ y
  ey = spread_y (a.x -ℤ c.x) (a.y -ℤ c.y) (b.x -ℤ c.x) (b.y -ℤ c.y) x y

  n_from : pos 0 ≤ℤ p.n
  n_from = omega (arith, linear, p.positive)

  not_past : i ≤ℤ m
  not_past = omega (arith, linear, right)

  m_from : pos 0 ≤ℤ m
  m_from = omega (arith, linear, left, right)

  nm_from : pos 0 ≤ℤ (p.n *ℤ m)
  nm_from = times_from_zero p.n m n_from m_from

  nd_from : pos 0 ≤ℤ (p.n *ℤ d)
  nd_from = times_from_zero p.n d n_from (omega (arith, linear, chord.left))

  -- the chord's place, n times, as far as the line and as far as the ends
  place_long : square (p.n *ℤ (m *ℤ near)) ≤ℤ norm (p.n *ℤ qx) (p.n *ℤ qy)
  place_long = scaled_over p.n qx qy (m *ℤ near) (place_over c a b near far room.far_from chord m i left not_past)

  place_short : norm (p.n *ℤ qx) (p.n *ℤ qy) ≤ℤ square (p.n *ℤ (m *ℤ far))
  place_short = scaled p.n qx qy (m *ℤ far) (place_within c a b near far room.far_from chord m i left not_past)

  by_product : (n d z : ℤ) → n *ℤ (d *ℤ z) ≡ (n *ℤ d) *ℤ z
  by_product n d z = simp ring

  ex' : p.n *ℤ qx ≡ (p.n *ℤ d) *ℤ x
  ex' = rw ex (by_product p.n d x)

  ey' : p.n *ℤ qy ≡ (p.n *ℤ d) *ℤ y
  ey' = rw ey (by_product p.n d y)

  within : pos 1 ≤ℤ m → norm (m *ℤ x -ℤ p.n *ℤ qx) (m *ℤ y -ℤ p.n *ℤ qy) ≤ℤ square (p.n *ℤ m *ℤ k) → InCapsule a b k p
  within some h = record { i = i; m = m; from_start = left; to_end = not_past; positive = some; near = rw (← (off m i p.x p.n a.x b.x c.x), ← (off m i p.y p.n a.y b.y c.y)) h }

  -- in the disc and beyond the chord
  pub inner : norm x y ≤ℤ (square p.n *ℤ s) → (p.n *ℤ d) ≤ℤ m → InCapsule a b k p
  inner disc beyond = within (omega (arith, linear, beyond, over_zero p.n d p.positive chord.left)) (rw (ex', ey') apart)
    where
      to : norm (m *ℤ x) (m *ℤ y) ≤ℤ square (p.n *ℤ (m *ℤ near) +ℤ p.n *ℤ m *ℤ k)
      to =
          let f : (square p.n *ℤ s) ≤ℤ square (p.n *ℤ most) = rw (square_scaled p.n most) (times_mono (square p.n) s (square most) (square_from_zero p.n) room.most_is) in
          let g : square (p.n *ℤ most) ≤ℤ square (p.n *ℤ (near +ℤ k)) = square_mono (p.n *ℤ most) (p.n *ℤ (near +ℤ k)) (times_from_zero p.n most n_from room.most_from) (times_mono p.n most (near +ℤ k) n_from room.near_is) in
          rw (← (sum p.n m near k)) (scaled m x y (p.n *ℤ (near +ℤ k)) (omega (arith, linear, disc, f, g)))

      apart : norm (m *ℤ x -ℤ (p.n *ℤ d) *ℤ x) (m *ℤ y -ℤ (p.n *ℤ d) *ℤ y) ≤ℤ square (p.n *ℤ m *ℤ k)
      apart = along (p.n *ℤ d) m x y (p.n *ℤ (m *ℤ near)) (p.n *ℤ m *ℤ k) nd_from beyond (times_from_zero p.n (m *ℤ near) n_from (times_from_zero m near m_from room.near_from)) (times_from_zero (p.n *ℤ m) k nm_from room.k_from) (rw (ex', ey') at place_long) to

  -- out of the disc and on this side of the chord
  pub outer : (square p.n *ℤ s) <ℤ norm x y → m ≤ℤ (p.n *ℤ d) → InCapsule a b k p
  outer disc before = within some (rw (ex', ey', turned m (p.n *ℤ d) x y) apart)
    where
      s_from : pos 0 ≤ℤ s
      s_from = omega (arith, linear, room.least_is, square_from_zero least)

      nothing : (z : ℤ) → z ≡ pos 0 → square z ≡ pos 0
      nothing z h = rw h (zero-times (pos 0))

      some : pos 1 ≤ℤ m
      some = elim (le_or_lt (pos 1) m) [ inl l ↦ l | inr g ↦ absurd (none (omega (arith, linear, g, m_from))) ]
        where
          none : m ≡ pos 0 → ⊥
          none z =
              let f : norm qx qy ≤ℤ square (m *ℤ far) = place_within c a b near far room.far_from chord m i left not_past in
              let e : square (m *ℤ far) ≡ pos 0 = nothing (m *ℤ far) (rw z (zero-times far)) in
              let g : norm (d *ℤ x) (d *ℤ y) ≤ℤ pos 0 = omega (arith, linear, rw (ex, ey) at f, e) in
              let o : pos 1 ≤ℤ (square d *ℤ norm x y) = over_zero (square d) (norm x y) (square_over d chord.left) (omega (arith, linear, disc, times_from_zero (square p.n) s (square_from_zero p.n) s_from)) in
              omega (arith, linear, g, o, norm_scaled d x y)

      from : square (m *ℤ (p.n *ℤ least)) ≤ℤ norm (m *ℤ x) (m *ℤ y)
      from =
          let f : square (p.n *ℤ least) ≤ℤ (square p.n *ℤ s) = rw (square_scaled p.n least) (times_mono (square p.n) (square least) s (square_from_zero p.n) room.least_is) in
          scaled_over m x y (p.n *ℤ least) (omega (arith, linear, f, disc))

      same : (n m l t : ℤ) → m *ℤ (n *ℤ l) +ℤ n *ℤ m *ℤ t ≡ n *ℤ (m *ℤ (l +ℤ t))
      same n m l t = simp ring (omega (arith, linear))

      to : norm (p.n *ℤ qx) (p.n *ℤ qy) ≤ℤ square (m *ℤ (p.n *ℤ least) +ℤ p.n *ℤ m *ℤ k)
      to =
          let g : (p.n *ℤ (m *ℤ far)) ≤ℤ (p.n *ℤ (m *ℤ (least +ℤ k))) = times_mono p.n (m *ℤ far) (m *ℤ (least +ℤ k)) n_from (times_mono m far (least +ℤ k) m_from room.far_is) in
          let h : square (p.n *ℤ (m *ℤ far)) ≤ℤ square (p.n *ℤ (m *ℤ (least +ℤ k))) = square_mono (p.n *ℤ (m *ℤ far)) (p.n *ℤ (m *ℤ (least +ℤ k))) (times_from_zero p.n (m *ℤ far) n_from (times_from_zero m far m_from room.far_from)) g in
          rw (same p.n m least k) (omega (arith, linear, place_short, h))

      apart : norm ((p.n *ℤ d) *ℤ x -ℤ m *ℤ x) ((p.n *ℤ d) *ℤ y -ℤ m *ℤ y) ≤ℤ square (p.n *ℤ m *ℤ k)
      apart = along m (p.n *ℤ d) x y (m *ℤ (p.n *ℤ least)) (p.n *ℤ m *ℤ k) m_from before (times_from_zero m (p.n *ℤ least) m_from (times_from_zero p.n least n_from room.least_from)) (times_from_zero (p.n *ℤ m) k nm_from room.k_from) from (rw (ex', ey') at to)
