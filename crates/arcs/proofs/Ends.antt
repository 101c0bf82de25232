-- A capsule round a chord lies in the copper of the draw, ends and all.
use Rattle.std.proofs.Common.{◌≡◌, ◌⊎◌, inl, inr, ℤ, pos, neg_ℤ, ◌+ℤ◌, ◌-ℤ◌, ◌*ℤ◌, ◌≤ℤ◌, ◌<ℤ◌, arith}
use Rattle.planar.specs.declared.Spot.{Spot}
use Rattle.planar.specs.Plane.{InCapsule, Point, cross_of, square}
use Rattle.planar.proofs.Ring.{ring, linear, le_or_lt, mul_assoc, neg-mul, times_from_zero, times_cancel, times_mono, times-zero, over_zero}
use Rattle.arcs.specs.Copper.{InTurn, side_of}
use Rattle.arcs.proofs.Whole.{ChordBelow, InRing, IsNear, IsRim}
use Rattle.arcs.specs.Chains.{InTurnBoth, in_less, after_start, before_end, in_half, in_whole, IsChord, IsRoom}
use Rattle.arcs.proofs.Vectors.{norm, scaled, scaled_over, unscaled}
use Rattle.arcs.proofs.Crossing.{Crossed, near_end, from_less, from_more, from_half}
use Rattle.arcs.proofs.Upper.{off}
use Rattle.arcs.proofs.Lower.{place, place_within, place_over, ring_holds_chord}

-- ---- the side of a place of the chord

mixed : (n m i u w : ℤ) → pos 1 ≤ℤ n → pos 0 ≤ℤ i → i ≤ℤ m → pos 0 ≤ℤ u → pos 0 ≤ℤ w → pos 0 ≤ℤ (n *ℤ ((m -ℤ i) *ℤ u +ℤ i *ℤ w))
mixed n m i u w some hi him hu hw =
    times_from_zero n ((m -ℤ i) *ℤ u +ℤ i *ℤ w) (omega (arith, linear, some)) (omega (arith, linear, times_from_zero (m -ℤ i) u (omega (arith, linear, him)) hu, times_from_zero i w hi hw))

place_side : (n m i sx sy ax ay bx by : ℤ) → sx *ℤ (n *ℤ place m i ay by) -ℤ sy *ℤ (n *ℤ place m i ax bx) ≡ n *ℤ ((m -ℤ i) *ℤ (sx *ℤ ay -ℤ sy *ℤ ax) +ℤ i *ℤ (sx *ℤ by -ℤ sy *ℤ bx))
place_side n m i sx sy ax ay bx by = simp ring (omega (arith, linear))

mixed_neg : (n m i u w : ℤ) → n *ℤ ((m -ℤ i) *ℤ neg_ℤ u +ℤ i *ℤ neg_ℤ w) ≡ neg_ℤ (n *ℤ ((m -ℤ i) *ℤ u +ℤ i *ℤ w))
mixed_neg n m i u w = simp ring (omega (arith, linear))

left_place : (n m i sx sy ax ay bx by : ℤ) → pos 1 ≤ℤ n → pos 0 ≤ℤ i → i ≤ℤ m → pos 0 ≤ℤ (sx *ℤ ay -ℤ sy *ℤ ax) → pos 0 ≤ℤ (sx *ℤ by -ℤ sy *ℤ bx) → pos 0 ≤ℤ (sx *ℤ (n *ℤ place m i ay by) -ℤ sy *ℤ (n *ℤ place m i ax bx))
left_place n m i sx sy ax ay bx by some hi him h k = rw (place_side n m i sx sy ax ay bx by) (mixed n m i (sx *ℤ ay -ℤ sy *ℤ ax) (sx *ℤ by -ℤ sy *ℤ bx) some hi him h k)

right_place : (n m i sx sy ax ay bx by : ℤ) → pos 1 ≤ℤ n → pos 0 ≤ℤ i → i ≤ℤ m → (sx *ℤ ay -ℤ sy *ℤ ax) ≤ℤ pos 0 → (sx *ℤ by -ℤ sy *ℤ bx) ≤ℤ pos 0 → (sx *ℤ (n *ℤ place m i ay by) -ℤ sy *ℤ (n *ℤ place m i ax bx)) ≤ℤ pos 0
right_place n m i sx sy ax ay bx by some hi him h k =
    let f : pos 0 ≤ℤ (n *ℤ ((m -ℤ i) *ℤ neg_ℤ (sx *ℤ ay -ℤ sy *ℤ ax) +ℤ i *ℤ neg_ℤ (sx *ℤ by -ℤ sy *ℤ bx))) = mixed n m i (neg_ℤ (sx *ℤ ay -ℤ sy *ℤ ax)) (neg_ℤ (sx *ℤ by -ℤ sy *ℤ bx)) some hi him (omega (arith, linear, h)) (omega (arith, linear, k)) in
    omega (arith, linear, f, mixed_neg n m i (sx *ℤ ay -ℤ sy *ℤ ax) (sx *ℤ by -ℤ sy *ℤ bx), place_side n m i sx sy ax ay bx by)

-- past a half turn from s to e a chord from the left of s to the right of e keeps out of what is between e and s
across : (n m i sx sy ex ey ax ay bx by : ℤ) → pos 1 ≤ℤ n → pos 0 ≤ℤ i → i ≤ℤ m → (sx *ℤ ey -ℤ sy *ℤ ex) <ℤ pos 0 → pos 1 ≤ℤ (ax *ℤ by -ℤ ay *ℤ bx) → pos 0 ≤ℤ (sx *ℤ ay -ℤ sy *ℤ ax) → (ex *ℤ by -ℤ ey *ℤ bx) ≤ℤ pos 0
    → (pos 0 ≤ℤ (sx *ℤ (n *ℤ place m i ay by) -ℤ sy *ℤ (n *ℤ place m i ax bx))) ⊎ ((ex *ℤ (n *ℤ place m i ay by) -ℤ ey *ℤ (n *ℤ place m i ax bx)) ≤ℤ pos 0)
across n m i sx sy ex ey ax ay bx by some hi him way turn left right = elim (le_or_lt (pos 0) (sx *ℤ by -ℤ sy *ℤ bx)) [
  | inl l ↦ inl (left_place n m i sx sy ax ay bx by some hi him left l)
  | inr sb ↦ elim (le_or_lt (ex *ℤ ay -ℤ ey *ℤ ax) (pos 0)) [
    | inl l ↦ inr (right_place n m i ex ey ax ay bx by some hi him l right)
    | inr ea ↦ elim (le_or_lt (pos 0) ((m -ℤ i) *ℤ (sx *ℤ ay -ℤ sy *ℤ ax) +ℤ i *ℤ (sx *ℤ by -ℤ sy *ℤ bx))) [
      | inl l ↦ inl (rw (place_side n m i sx sy ax ay bx by) (times_from_zero n ((m -ℤ i) *ℤ (sx *ℤ ay -ℤ sy *ℤ ax) +ℤ i *ℤ (sx *ℤ by -ℤ sy *ℤ bx)) (omega (arith, linear, some)) l))
      | inr u ↦ elim (le_or_lt ((m -ℤ i) *ℤ (ex *ℤ ay -ℤ ey *ℤ ax) +ℤ i *ℤ (ex *ℤ by -ℤ ey *ℤ bx)) (pos 0)) [
        | inl l ↦ inr (rw (place_side n m i ex ey ax ay bx by) (omega (arith, linear, times_mono n ((m -ℤ i) *ℤ (ex *ℤ ay -ℤ ey *ℤ ax) +ℤ i *ℤ (ex *ℤ by -ℤ ey *ℤ bx)) (pos 0) (omega (arith, linear, some)) l, times-zero n)))
        | inr v ↦ absurd (none (m -ℤ i) i (sx *ℤ ay -ℤ sy *ℤ ax) (sx *ℤ by -ℤ sy *ℤ bx) (ex *ℤ ay -ℤ ey *ℤ ax) (ex *ℤ by -ℤ ey *ℤ bx) (omega (arith, linear, him)) hi left sb ea right u v
            (omega (arith, linear, both, over_zero (neg_ℤ (sx *ℤ ey -ℤ sy *ℤ ex)) (ax *ℤ by -ℤ ay *ℤ bx) (omega (arith, linear, way)) turn, neg-mul (sx *ℤ ey -ℤ sy *ℤ ex) (ax *ℤ by -ℤ ay *ℤ bx))))
      ]
    ]
  ]
]
  where
    both : (sx *ℤ ay -ℤ sy *ℤ ax) *ℤ (ex *ℤ by -ℤ ey *ℤ bx) -ℤ (sx *ℤ by -ℤ sy *ℤ bx) *ℤ (ex *ℤ ay -ℤ ey *ℤ ax) ≡ (sx *ℤ ey -ℤ sy *ℤ ex) *ℤ (ax *ℤ by -ℤ ay *ℤ bx)
    both = simp ring (omega (arith, linear))

    none : (f g sa sb ea eb : ℤ) → pos 0 ≤ℤ f → pos 0 ≤ℤ g → pos 0 ≤ℤ sa → sb <ℤ pos 0 → pos 0 <ℤ ea → eb ≤ℤ pos 0 → (f *ℤ sa +ℤ g *ℤ sb) <ℤ pos 0 → pos 0 <ℤ (f *ℤ ea +ℤ g *ℤ eb) → (sa *ℤ eb -ℤ sb *ℤ ea) <ℤ pos 0 → ⊥
    none f g sa sb ea eb hf hg hsa hsb hea heb u v w =
        let a : pos 0 ≤ℤ (neg_ℤ eb *ℤ neg_ℤ (f *ℤ sa +ℤ g *ℤ sb)) = times_from_zero (neg_ℤ eb) (neg_ℤ (f *ℤ sa +ℤ g *ℤ sb)) (omega (arith, linear, heb)) (omega (arith, linear, u)) in
        let b : pos 1 ≤ℤ (neg_ℤ sb *ℤ (f *ℤ ea +ℤ g *ℤ eb)) = over_zero (neg_ℤ sb) (f *ℤ ea +ℤ g *ℤ eb) (omega (arith, linear, hsb)) (omega (arith, linear, v)) in
        let d : pos 0 ≤ℤ (f *ℤ neg_ℤ (sa *ℤ eb -ℤ sb *ℤ ea)) = times_from_zero f (neg_ℤ (sa *ℤ eb -ℤ sb *ℤ ea)) hf (omega (arith, linear, w)) in
        let e : neg_ℤ eb *ℤ neg_ℤ (f *ℤ sa +ℤ g *ℤ sb) +ℤ neg_ℤ sb *ℤ (f *ℤ ea +ℤ g *ℤ eb) ≡ neg_ℤ (f *ℤ neg_ℤ (sa *ℤ eb -ℤ sb *ℤ ea)) = simp ring (omega (arith, linear)) in
        omega (arith, linear, a, b, d, e)

-- ---- and that of m times the point

pub point_side : (m sx sy x y : ℤ) → sx *ℤ (m *ℤ y) -ℤ sy *ℤ (m *ℤ x) ≡ m *ℤ (sx *ℤ y -ℤ sy *ℤ x)
point_side m sx sy x y = simp ring (omega (arith, linear))

pub is_left : (m sx sy x y : ℤ) → pos 1 ≤ℤ m → pos 0 ≤ℤ (sx *ℤ (m *ℤ y) -ℤ sy *ℤ (m *ℤ x)) → pos 0 ≤ℤ (sx *ℤ y -ℤ sy *ℤ x)
is_left m sx sy x y some h = times_cancel m (pos 0) (sx *ℤ y -ℤ sy *ℤ x) some (omega (arith, linear, h, point_side m sx sy x y, times-zero m))

pub is_right : (m sx sy x y : ℤ) → pos 1 ≤ℤ m → (sx *ℤ (m *ℤ y) -ℤ sy *ℤ (m *ℤ x)) ≤ℤ pos 0 → (sx *ℤ y -ℤ sy *ℤ x) ≤ℤ pos 0
is_right m sx sy x y some h = times_cancel m (sx *ℤ y -ℤ sy *ℤ x) (pos 0) some (omega (arith, linear, h, point_side m sx sy x y, times-zero m))

-- ---- at an end

end_way : (m n x c s : ℤ) → m *ℤ (x -ℤ n *ℤ c) -ℤ (n *ℤ m) *ℤ (s -ℤ c) ≡ m *ℤ (x -ℤ n *ℤ s)
end_way m n x c s = simp ring (omega (arith, linear))

end_radius : (m n r : ℤ) → (n *ℤ m) *ℤ r ≡ m *ℤ (n *ℤ r)
end_radius m n r = simp ring

module _ (c s e a b : Spot) (low high least most near far k v : ℤ) (p : Point) (hv : pos 0 ≤ℤ v) (room : IsRoom low high least most near far k) (chord : IsChord c near far a b) (inside : InCapsule a b v p) where
  abbrev pub px : ℤ
  px = inside.m *ℤ (p.x -ℤ p.n *ℤ c.x)

  abbrev pub py : ℤ
  py = inside.m *ℤ (p.y -ℤ p.n *ℤ c.y)

  abbrev pub qx : ℤ
  qx = p.n *ℤ place inside.m inside.i (a.x -ℤ c.x) (b.x -ℤ c.x)

  abbrev pub qy : ℤ
  qy = p.n *ℤ place inside.m inside.i (a.y -ℤ c.y) (b.y -ℤ c.y)

  at_end : (s : Spot) → IsRim c low high s → Crossed px py qx qy (s.x -ℤ c.x) (s.y -ℤ c.y) → IsNear (v +ℤ k) s p
  at_end s rim z =
      let apart : norm (px -ℤ qx) (py -ℤ qy) ≤ℤ square (p.n *ℤ inside.m *ℤ v) = rw (off inside.m inside.i p.x p.n a.x b.x c.x, off inside.m inside.i p.y p.n a.y b.y c.y) inside.near in
      let within : norm qx qy ≤ℤ square (p.n *ℤ inside.m *ℤ far) = rw (mul_assoc p.n inside.m far) (scaled p.n (place inside.m inside.i (a.x -ℤ c.x) (b.x -ℤ c.x)) (place inside.m inside.i (a.y -ℤ c.y) (b.y -ℤ c.y)) (inside.m *ℤ far) (place_within c a b near far room.far_from chord inside.m inside.i inside.from_start inside.to_end)) in
      let over : square (p.n *ℤ inside.m *ℤ near) ≤ℤ norm qx qy = rw (mul_assoc p.n inside.m near) (scaled_over p.n (place inside.m inside.i (a.x -ℤ c.x) (b.x -ℤ c.x)) (place inside.m inside.i (a.y -ℤ c.y) (b.y -ℤ c.y)) (inside.m *ℤ near) (place_over c a b near far room.far_from chord inside.m inside.i inside.from_start inside.to_end)) in
      let n : norm (px -ℤ (p.n *ℤ inside.m) *ℤ (s.x -ℤ c.x)) (py -ℤ (p.n *ℤ inside.m) *ℤ (s.y -ℤ c.y)) ≤ℤ square ((p.n *ℤ inside.m) *ℤ (v +ℤ k)) =
      near_end (p.n *ℤ inside.m) px py qx qy (s.x -ℤ c.x) (s.y -ℤ c.y) near far least most k v (over_zero p.n inside.m p.positive inside.positive) hv room.k_from room.least_from room.most_from room.far_from room.near_is room.far_is
      (omega (arith, linear, room.least_is, rim.0)) (omega (arith, linear, room.most_is, rim.1)) apart within over z.f z.h z.from z.some z.line z.same in
      unscaled inside.m (p.x -ℤ p.n *ℤ s.x) (p.y -ℤ p.n *ℤ s.y) (p.n *ℤ (v +ℤ k)) inside.positive (rw (← (end_way inside.m p.n p.x c.x s.x), ← (end_way inside.m p.n p.y c.y s.y), ← (end_radius inside.m p.n (v +ℤ k))) n)

  left_of : (s : Spot) → pos 0 ≤ℤ cross_of c s a → pos 0 ≤ℤ cross_of c s b → pos 0 ≤ℤ ((s.x -ℤ c.x) *ℤ qy -ℤ (s.y -ℤ c.y) *ℤ qx)
  left_of s h k = left_place p.n inside.m inside.i (s.x -ℤ c.x) (s.y -ℤ c.y) (a.x -ℤ c.x) (a.y -ℤ c.y) (b.x -ℤ c.x) (b.y -ℤ c.y) p.positive inside.from_start inside.to_end h k

  right_of : (s : Spot) → cross_of c s a ≤ℤ pos 0 → cross_of c s b ≤ℤ pos 0 → ((s.x -ℤ c.x) *ℤ qy -ℤ (s.y -ℤ c.y) *ℤ qx) ≤ℤ pos 0
  right_of s h k = right_place p.n inside.m inside.i (s.x -ℤ c.x) (s.y -ℤ c.y) (a.x -ℤ c.x) (a.y -ℤ c.y) (b.x -ℤ c.x) (b.y -ℤ c.y) p.positive inside.from_start inside.to_end h k

  point_left : (s : Spot) → pos 0 ≤ℤ ((s.x -ℤ c.x) *ℤ py -ℤ (s.y -ℤ c.y) *ℤ px) → pos 0 ≤ℤ side_of c s p
  point_left s h = is_left inside.m (s.x -ℤ c.x) (s.y -ℤ c.y) (p.x -ℤ p.n *ℤ c.x) (p.y -ℤ p.n *ℤ c.y) inside.positive h

  point_right : (s : Spot) → ((s.x -ℤ c.x) *ℤ py -ℤ (s.y -ℤ c.y) *ℤ px) ≤ℤ pos 0 → side_of c s p ≤ℤ pos 0
  point_right s h = is_right inside.m (s.x -ℤ c.x) (s.y -ℤ c.y) (p.x -ℤ p.n *ℤ c.x) (p.y -ℤ p.n *ℤ c.y) inside.positive h

  here : InTurn c s e p → (InTurn c s e p × InRing (v +ℤ k) c high low p) ⊎ (IsNear (v +ℤ k) s p ⊎ IsNear (v +ℤ k) e p)
  here t = inl (t, ring_holds_chord c a b low high least most near far k v p hv room chord inside)

  module _ (first : IsRim c low high s) (last : IsRim c low high e) where
    ended : Crossed px py qx qy (s.x -ℤ c.x) (s.y -ℤ c.y) ⊎ Crossed px py qx qy (e.x -ℤ c.x) (e.y -ℤ c.y) → (InTurn c s e p × InRing (v +ℤ k) c high low p) ⊎ (IsNear (v +ℤ k) s p ⊎ IsNear (v +ℤ k) e p)
    ended (inl z) = inr (inl (at_end s first z))
    ended (inr z) = inr (inr (at_end e last z))

    more : cross_of c s e <ℤ pos 0 → (pos 0 ≤ℤ ((s.x -ℤ c.x) *ℤ qy -ℤ (s.y -ℤ c.y) *ℤ qx)) ⊎ (((e.x -ℤ c.x) *ℤ qy -ℤ (e.y -ℤ c.y) *ℤ qx) ≤ℤ pos 0) → (InTurn c s e p × InRing (v +ℤ k) c high low p) ⊎ (IsNear (v +ℤ k) s p ⊎ IsNear (v +ℤ k) e p)
    more way q = elim (from_more px py qx qy (s.x -ℤ c.x) (s.y -ℤ c.y) (e.x -ℤ c.x) (e.y -ℤ c.y) way q) [
      | inl t ↦ here (inr (inl (way, elim t [ inl l ↦ inl (point_left s l) | inr r ↦ inr (point_right e r) ])))
      | inr z ↦ ended z
    ]

    pub below : InTurnBoth c s e a b → (InTurn c s e p × InRing (v +ℤ k) c high low p) ⊎ (IsNear (v +ℤ k) s p ⊎ IsNear (v +ℤ k) e p)
    below (in_less way sa sb ea eb) = elim (from_less px py qx qy (s.x -ℤ c.x) (s.y -ℤ c.y) (e.x -ℤ c.x) (e.y -ℤ c.y) way (left_of s sa sb) (right_of e ea eb)) [
      | inl t ↦ here (inl (way, point_left s t.0, point_right e t.1))
      | inr z ↦ ended z
    ]
    below (after_start way sa sb) = more way (inl (left_of s sa sb))
    below (before_end way (inr ea) eb) = more way (inr (right_of e ea eb))
    below (before_end way (inl sa) eb) = more way (across p.n inside.m inside.i (s.x -ℤ c.x) (s.y -ℤ c.y) (e.x -ℤ c.x) (e.y -ℤ c.y) (a.x -ℤ c.x) (a.y -ℤ c.y) (b.x -ℤ c.x) (b.y -ℤ c.y) p.positive inside.from_start inside.to_end way chord.left sa eb)
    below (in_half way back sa sb) = elim (from_half px py qx qy (s.x -ℤ c.x) (s.y -ℤ c.y) (e.x -ℤ c.x) (e.y -ℤ c.y) way back (left_of s sa sb)) [
      | inl t ↦ here (inr (inr (inl (way, back, point_left s t))))
      | inr z ↦ ended z
    ]
    below (in_whole same) = here (inr (inr (inr same)))

pub chord_below : ChordBelow
chord_below c s e a b low high least most near far k v p hv room first last chord turn inside = below c s e a b low high least most near far k v p hv room chord inside first last turn
