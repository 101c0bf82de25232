-- A capsule round a chord lies in a ring.
use Rattle.std.proofs.Common.{◌≡◌, ◌⊎◌, inl, inr, ℤ, pos, neg_ℤ, ◌+ℤ◌, ◌-ℤ◌, ◌*ℤ◌, ◌≤ℤ◌, ◌<ℤ◌, arith}
use Rattle.planar.specs.declared.Spot.{Spot}
use Rattle.planar.specs.Plane.{square}
use Rattle.planar.proofs.Ring.{ring, linear, mul_assoc, le_or_lt, times_from_zero, square_from_zero, square_mono, square-neg, times_mono, times_cancel, times-zero}
use Rattle.arcs.specs.Copper.{AtMostLonger, reach_of}
use Rattle.arcs.proofs.Whole.{RingHoldsChord}
use Rattle.arcs.specs.Chains.{IsChord, IsRoom}
use Rattle.arcs.proofs.Vectors.{norm, norm_from_zero, norm_some, lagrange, sum_within, part_over, scaled, scaled_over, square_scaled, unscaled, unscaled_over}
use Rattle.arcs.proofs.Ring.{longer_by, by_pen}

-- ---- a place of a chord: m times the way to it from c, where a and b lead from c to the ends

abbrev pub place : ℤ → ℤ → ℤ → ℤ → ℤ
place m i a b = m *ℤ a +ℤ i *ℤ (b -ℤ a)

parted : (m i a b : ℤ) → place m i a b ≡ (m -ℤ i) *ℤ a +ℤ i *ℤ b
parted m i a b = simp ring (omega (arith, linear))

-- it is not further away than both ends
pub chord_within : (m i ax ay bx by far : ℤ) → pos 0 ≤ℤ i → i ≤ℤ m → pos 0 ≤ℤ far → norm ax ay ≤ℤ square far → norm bx by ≤ℤ square far → norm (place m i ax bx) (place m i ay by) ≤ℤ square (m *ℤ far)
chord_within m i ax ay bx by far hi him hf h k =
    let both : norm ((m -ℤ i) *ℤ ax +ℤ i *ℤ bx) ((m -ℤ i) *ℤ ay +ℤ i *ℤ by) ≤ℤ square ((m -ℤ i) *ℤ far +ℤ i *ℤ far) =
    sum_within ((m -ℤ i) *ℤ ax) ((m -ℤ i) *ℤ ay) (i *ℤ bx) (i *ℤ by) ((m -ℤ i) *ℤ far) (i *ℤ far) (times_from_zero (m -ℤ i) far (omega (arith, linear)) hf) (times_from_zero i far hi hf)
    (scaled (m -ℤ i) ax ay far h) (scaled i bx by far k) in
    let e : (m -ℤ i) *ℤ far +ℤ i *ℤ far ≡ m *ℤ far = simp ring (omega (arith, linear)) in
    rw (parted m i ax bx, parted m i ay by, ← e) both

crossed : (m i ax ay bx by : ℤ) → place m i ax bx *ℤ (by -ℤ ay) -ℤ place m i ay by *ℤ (bx -ℤ ax) ≡ m *ℤ (ax *ℤ by -ℤ ay *ℤ bx)
crossed m i ax ay bx by = simp ring (omega (arith, linear))

-- and no nearer than the line
pub chord_over : (m i ax ay bx by near : ℤ) → pos 1 ≤ℤ norm (bx -ℤ ax) (by -ℤ ay) → (square near *ℤ norm (bx -ℤ ax) (by -ℤ ay)) ≤ℤ square (ax *ℤ by -ℤ ay *ℤ bx) → square (m *ℤ near) ≤ℤ norm (place m i ax bx) (place m i ay by)
chord_over m i ax ay bx by near some h =
    let l : ℤ = norm (bx -ℤ ax) (by -ℤ ay) in
    let q : ℤ = norm (place m i ax bx) (place m i ay by) in
    let k : ℤ = ax *ℤ by -ℤ ay *ℤ bx in
    let f : (square m *ℤ (square near *ℤ l)) ≤ℤ (square m *ℤ square k) = times_mono (square m) (square near *ℤ l) (square k) (square_from_zero m) h in
    let g : square (m *ℤ k) ≤ℤ (q *ℤ l) =
    omega (arith, linear, rw (crossed m i ax ay bx by) at (lagrange (place m i ax bx) (place m i ay by) (bx -ℤ ax) (by -ℤ ay)), square_from_zero (place m i ax bx *ℤ (bx -ℤ ax) +ℤ place m i ay by *ℤ (by -ℤ ay))) in
    line m near l q k some f g
  where
    line : (m near l q k : ℤ) → pos 1 ≤ℤ l → (square m *ℤ (square near *ℤ l)) ≤ℤ (square m *ℤ square k) → square (m *ℤ k) ≤ℤ (q *ℤ l) → square (m *ℤ near) ≤ℤ q
    line m near l q k some f g =
        let goal : (l *ℤ square (m *ℤ near)) ≤ℤ (l *ℤ q) = simp ring (omega (arith, linear, simp ring at f, simp ring at g)) in
        times_cancel l (square (m *ℤ near)) q some goal

-- ---- the ring

-- m times the way from c to the point, n times, is that to the place and that from the place
way : (m i x n a b c : ℤ) → m *ℤ (x -ℤ n *ℤ c) ≡ n *ℤ place m i (a -ℤ c) (b -ℤ c) +ℤ (m *ℤ x -ℤ n *ℤ (m *ℤ a +ℤ i *ℤ (b -ℤ a)))
way m i x n a b c = simp ring (omega (arith, linear))

-- ends on two sides of a line through c are apart
pub ends_apart : (ax ay bx by : ℤ) → pos 1 ≤ℤ (ax *ℤ by -ℤ ay *ℤ bx) → pos 1 ≤ℤ norm (bx -ℤ ax) (by -ℤ ay)
ends_apart ax ay bx by h = norm_some (bx -ℤ ax) (by -ℤ ay) (λ zx zy. (
    let e : ax *ℤ by -ℤ ay *ℤ bx ≡ ax *ℤ (by -ℤ ay) -ℤ ay *ℤ (bx -ℤ ax) = simp ring (omega (arith, linear)) in
    omega (arith, linear, h, rw (zx, zy) at e, times-zero ax, times-zero ay)
    ))

module _ (v k : ℤ) (hv : pos 0 ≤ℤ v) (low high least most near far : ℤ) (room : IsRoom low high least most near far k) where
  -- a point at most v from a place of the ring
  pub in_ring : (n d : ℤ) → pos 1 ≤ℤ n → pos 0 ≤ℤ d → d ≤ℤ square (n *ℤ (far +ℤ v)) → (near ≤ℤ v) ⊎ (square (n *ℤ (near -ℤ v)) ≤ℤ d) → AtMostLonger (n *ℤ (v +ℤ k)) d (square n *ℤ low) × AtMostLonger (n *ℤ (v +ℤ k)) (square n *ℤ high) d
  in_ring n d some from within over = (not_over, elim over [ inl l ↦ wide l | inr h ↦ not_under h ])
    where
      hn : pos 0 ≤ℤ n
      hn = omega (arith, linear, some)

      pen : pos 0 ≤ℤ (n *ℤ (v +ℤ k))
      pen = times_from_zero n (v +ℤ k) hn (omega (arith, linear, hv, room.k_from))

      not_over : AtMostLonger (n *ℤ (v +ℤ k)) d (square n *ℤ low)
      not_over =
          let e : n *ℤ (least +ℤ (v +ℤ k)) ≡ n *ℤ least +ℤ n *ℤ (v +ℤ k) = simp ring (omega (arith, linear)) in
          let f : (n *ℤ (far +ℤ v)) ≤ℤ (n *ℤ (least +ℤ (v +ℤ k))) = times_mono n (far +ℤ v) (least +ℤ (v +ℤ k)) hn (omega (arith, linear, room.far_is)) in
          let g : square (n *ℤ (far +ℤ v)) ≤ℤ square (n *ℤ least +ℤ n *ℤ (v +ℤ k)) = square_mono (n *ℤ (far +ℤ v)) (n *ℤ least +ℤ n *ℤ (v +ℤ k)) (times_from_zero n (far +ℤ v) hn (omega (arith, linear, hv, room.far_from))) (omega (arith, linear, e, f)) in
          longer_by (n *ℤ (v +ℤ k)) d (square n *ℤ low) (n *ℤ least) pen (times_from_zero n least hn room.least_from) (rw (square_scaled n least) (times_mono (square n) (square least) low (square_from_zero n) room.least_is)) (omega (arith, linear, within, g))

      wide : near ≤ℤ v → AtMostLonger (n *ℤ (v +ℤ k)) (square n *ℤ high) d
      wide l =
          let f : square most ≤ℤ square (v +ℤ k) = square_mono most (v +ℤ k) room.most_from (omega (arith, linear, l, room.near_is)) in
          by_pen (n *ℤ (v +ℤ k)) (square n *ℤ high) d from (rw (square_scaled n (v +ℤ k)) (times_mono (square n) high (square (v +ℤ k)) (square_from_zero n) (omega (arith, linear, f, room.most_is))))

      not_under : square (n *ℤ (near -ℤ v)) ≤ℤ d → AtMostLonger (n *ℤ (v +ℤ k)) (square n *ℤ high) d
      not_under h = elim (le_or_lt near v) [
        | inl l ↦ wide l
        | inr g ↦
            let e : n *ℤ (near -ℤ v) +ℤ n *ℤ (v +ℤ k) ≡ n *ℤ (near +ℤ k) = simp ring (omega (arith, linear)) in
            let f : square most ≤ℤ square (near +ℤ k) = square_mono most (near +ℤ k) room.most_from room.near_is in
            let s : (square n *ℤ high) ≤ℤ square (n *ℤ (near +ℤ k)) = rw (square_scaled n (near +ℤ k)) (times_mono (square n) high (square (near +ℤ k)) (square_from_zero n) (omega (arith, linear, f, room.most_is))) in
            longer_by (n *ℤ (v +ℤ k)) (square n *ℤ high) d (n *ℤ (near -ℤ v)) pen (times_from_zero n (near -ℤ v) hn (omega (arith, linear, g))) h (rw e s)
      ]

-- a point at most n m v from a place that is between n m near and n m far away; all n m times
pub near_place : (n m near far v dx dy qx qy x y : ℤ) → pos 1 ≤ℤ n → pos 1 ≤ℤ m → pos 0 ≤ℤ v → pos 0 ≤ℤ far → m *ℤ x ≡ qx +ℤ dx → m *ℤ y ≡ qy +ℤ dy
    → norm dx dy ≤ℤ square (n *ℤ m *ℤ v) → norm qx qy ≤ℤ square (n *ℤ (m *ℤ far)) → square (n *ℤ (m *ℤ near)) ≤ℤ norm qx qy
    → (norm x y ≤ℤ square (n *ℤ (far +ℤ v))) × ((near ≤ℤ v) ⊎ (square (n *ℤ (near -ℤ v)) ≤ℤ norm x y))
near_place n m near far v dx dy qx qy x y hn hm hv hf ex ey d within over = (outer, elim (le_or_lt near v) [ inl l ↦ inl l | inr g ↦ inr (inner g) ])
  where
    nm : pos 0 ≤ℤ (n *ℤ m)
    nm = times_from_zero n m (omega (arith, linear, hn)) (omega (arith, linear, hm))

    nmv : pos 0 ≤ℤ (n *ℤ m *ℤ v)
    nmv = times_from_zero (n *ℤ m) v nm hv

    outer : norm x y ≤ℤ square (n *ℤ (far +ℤ v))
    outer =
        let e : n *ℤ (m *ℤ far) +ℤ n *ℤ m *ℤ v ≡ m *ℤ (n *ℤ (far +ℤ v)) = simp ring (omega (arith, linear)) in
        let s : norm (qx +ℤ dx) (qy +ℤ dy) ≤ℤ square (n *ℤ (m *ℤ far) +ℤ n *ℤ m *ℤ v) = sum_within qx qy dx dy (n *ℤ (m *ℤ far)) (n *ℤ m *ℤ v) (rw (← (mul_assoc n m far)) (times_from_zero (n *ℤ m) far nm hf)) nmv within d in
        unscaled m x y (n *ℤ (far +ℤ v)) hm (rw (ex, ey, ← e) s)

    inner : v <ℤ near → square (n *ℤ (near -ℤ v)) ≤ℤ norm x y
    inner g =
        let e : m *ℤ (n *ℤ (near -ℤ v)) +ℤ n *ℤ m *ℤ v ≡ n *ℤ (m *ℤ near) = simp ring (omega (arith, linear)) in
        let bx : (qx +ℤ dx) +ℤ neg_ℤ dx ≡ qx = omega (arith, linear) in
        let by : (qy +ℤ dy) +ℤ neg_ℤ dy ≡ qy = omega (arith, linear) in
        let s : square (m *ℤ (n *ℤ (near -ℤ v))) ≤ℤ norm (qx +ℤ dx) (qy +ℤ dy) =
        part_over (qx +ℤ dx) (qy +ℤ dy) (neg_ℤ dx) (neg_ℤ dy) (m *ℤ (n *ℤ (near -ℤ v))) (n *ℤ m *ℤ v) (times_from_zero m (n *ℤ (near -ℤ v)) (omega (arith, linear, hm)) (times_from_zero n (near -ℤ v) (omega (arith, linear, hn)) (omega (arith, linear, g)))) nmv
        (rw (square-neg dx, square-neg dy) d) (rw (bx, by, e) over) in
        unscaled_over m x y (n *ℤ (near -ℤ v)) hm (rw (ex, ey) s)

-- what a chord's place is
module _ (c a b : Spot) (near far : ℤ) (hf : pos 0 ≤ℤ far) (chord : IsChord c near far a b) (m i : ℤ) (hi : pos 0 ≤ℤ i) (him : i ≤ℤ m) where
  pub place_within : norm (place m i (a.x -ℤ c.x) (b.x -ℤ c.x)) (place m i (a.y -ℤ c.y) (b.y -ℤ c.y)) ≤ℤ square (m *ℤ far)
  place_within = chord_within m i (a.x -ℤ c.x) (a.y -ℤ c.y) (b.x -ℤ c.x) (b.y -ℤ c.y) far hi him hf chord.first chord.last

  pub place_over : square (m *ℤ near) ≤ℤ norm (place m i (a.x -ℤ c.x) (b.x -ℤ c.x)) (place m i (a.y -ℤ c.y) (b.y -ℤ c.y))
  place_over =
      let ex : (b.x -ℤ c.x) -ℤ (a.x -ℤ c.x) ≡ b.x -ℤ a.x = omega (arith, linear) in
      let ey : (b.y -ℤ c.y) -ℤ (a.y -ℤ c.y) ≡ b.y -ℤ a.y = omega (arith, linear) in
      chord_over m i (a.x -ℤ c.x) (a.y -ℤ c.y) (b.x -ℤ c.x) (b.y -ℤ c.y) near (ends_apart (a.x -ℤ c.x) (a.y -ℤ c.y) (b.x -ℤ c.x) (b.y -ℤ c.y) chord.left) (rw (ex, ey) chord.line)

pub ring_holds_chord : RingHoldsChord
ring_holds_chord c a b low high least most near far k v p hv room chord inside =
    let i : ℤ = inside.i in let m : ℤ = inside.m in
    let hm : pos 1 ≤ℤ m = inside.positive in
    let r : (norm (p.x -ℤ p.n *ℤ c.x) (p.y -ℤ p.n *ℤ c.y) ≤ℤ square (p.n *ℤ (far +ℤ v))) × ((near ≤ℤ v) ⊎ (square (p.n *ℤ (near -ℤ v)) ≤ℤ norm (p.x -ℤ p.n *ℤ c.x) (p.y -ℤ p.n *ℤ c.y))) =
    near_place p.n m near far v (m *ℤ p.x -ℤ p.n *ℤ (m *ℤ a.x +ℤ i *ℤ (b.x -ℤ a.x))) (m *ℤ p.y -ℤ p.n *ℤ (m *ℤ a.y +ℤ i *ℤ (b.y -ℤ a.y))) (p.n *ℤ place m i (a.x -ℤ c.x) (b.x -ℤ c.x)) (p.n *ℤ place m i (a.y -ℤ c.y) (b.y -ℤ c.y))
    (p.x -ℤ p.n *ℤ c.x) (p.y -ℤ p.n *ℤ c.y) p.positive hm hv room.far_from (way m i p.x p.n a.x b.x c.x) (way m i p.y p.n a.y b.y c.y) inside.near
    (scaled p.n (place m i (a.x -ℤ c.x) (b.x -ℤ c.x)) (place m i (a.y -ℤ c.y) (b.y -ℤ c.y)) (m *ℤ far) (place_within c a b near far room.far_from chord m i inside.from_start inside.to_end))
    (scaled_over p.n (place m i (a.x -ℤ c.x) (b.x -ℤ c.x)) (place m i (a.y -ℤ c.y) (b.y -ℤ c.y)) (m *ℤ near) (place_over c a b near far room.far_from chord m i inside.from_start inside.to_end)) in
    in_ring v k hv low high least most near far room p.n (reach_of c p) p.positive (norm_from_zero (p.x -ℤ p.n *ℤ c.x) (p.y -ℤ p.n *ℤ c.y)) r.0 r.1
