-- Rings and ends for a pen whose radius is a whole number, and what is proved of one chord.
use Rattle.std.proofs.Common.{◌≡◌, ◌⊎◌, inl, inr, ℤ, pos, ◌+ℤ◌, ◌-ℤ◌, ◌*ℤ◌, ◌≤ℤ◌, ◌<ℤ◌, arith}
use Rattle.planar.specs.declared.Spot.{Spot}
use Rattle.planar.specs.Plane.{InCapsule, Point, dot_of, square}
use Rattle.planar.proofs.Ring.{ring, linear, le_or_lt, times_from_zero, square_from_zero, square_mono, times_mono, times_cancel, over_zero}
use Rattle.arcs.proofs.Vectors.{square_scaled}
use Rattle.arcs.specs.Copper.{AtMostLonger, InTurn, reach_of, side_of}
use Rattle.arcs.specs.Copper.{InRing as InRingBy, IsNear as IsNearBy}
use Rattle.arcs.specs.Chains.{InTurnBoth, IsChord, IsRoom}

-- the point is at most w from the spot
abbrev pub IsNear : ℤ → Spot → Point → Type 0
IsNear w a p = reach_of a p ≤ℤ square (p.n *ℤ w)

-- and at most w over the one length and w under the other from c
abbrev pub InRing : ℤ → Spot → ℤ → ℤ → Point → Type 0
InRing w c near far p = AtMostLonger (p.n *ℤ w) (reach_of c p) (square p.n *ℤ far) × AtMostLonger (p.n *ℤ w) (square p.n *ℤ near) (reach_of c p)

-- two points are at most w apart
abbrev pub AreNear : ℤ → Point → Point → Type 0
AreNear w p q = (square (q.n *ℤ p.x -ℤ p.n *ℤ q.x) +ℤ square (q.n *ℤ p.y -ℤ p.n *ℤ q.y)) ≤ℤ square (p.n *ℤ q.n *ℤ w)

-- the spot's distance from c is between those whose squares are low and high
abbrev pub IsRim : Spot → ℤ → ℤ → Spot → Type 0
IsRim c low high s = (low ≤ℤ dot_of c s s) × (dot_of c s s ≤ℤ high)

-- p's direction from c is between those of a and b, and a and b lie on two sides of it
abbrev pub InWedge : Spot → Spot → Spot → Point → Type 0
InWedge c a b p = (pos 0 ≤ℤ side_of c a p) × (side_of c b p ≤ℤ pos 0)

-- A capsule of radius v round such a chord lies in the ring of the radius v + k
abbrev pub RingHoldsChord : Type 0
RingHoldsChord = (c a b : Spot) (low high least most near far k v : ℤ) (p : Point) → pos 0 ≤ℤ v → IsRoom low high least most near far k → IsChord c near far a b
    → InCapsule a b v p → InRing (v +ℤ k) c high low p

-- In the directions of such a chord a ring of the radius w lies in the capsule of radius w + k
abbrev pub ChordHoldsRing : Type 0
ChordHoldsRing = (c a b : Spot) (low high least most near far k w : ℤ) (p : Point) → pos 0 ≤ℤ w → IsRoom low high least most near far k → IsChord c near far a b
    → InWedge c a b p → InRing w c low high p → InCapsule a b (w +ℤ k) p

-- A capsule of radius v round such a chord lies in the copper of a draw with a pen of the radius v + k
abbrev pub ChordBelow : Type 0
ChordBelow = (c s e a b : Spot) (low high least most near far k v : ℤ) (p : Point) → pos 0 ≤ℤ v → IsRoom low high least most near far k → IsRim c low high s → IsRim c low high e → IsChord c near far a b → InTurnBoth c s e a b
    → InCapsule a b v p → (InTurn c s e p × InRing (v +ℤ k) c high low p) ⊎ (IsNear (v +ℤ k) s p ⊎ IsNear (v +ℤ k) e p)

-- ---- a radius d/m in place of w

longer_scaled : (m w a b : ℤ) → square m *ℤ a -ℤ square m *ℤ b -ℤ square (m *ℤ w) ≡ square m *ℤ (a -ℤ b -ℤ square w)
longer_scaled m w a b = simp ring (omega (arith, linear))

-- a longer pen reaches further
longer_mono : (w d a b : ℤ) → pos 0 ≤ℤ w → w ≤ℤ d → pos 0 ≤ℤ b → AtMostLonger w a b → AtMostLonger d a b
longer_mono w d a b hw l hb (inl h) = inl (omega (arith, linear, h, square_mono w d hw l))
longer_mono w d a b hw l hb (inr h) = elim (le_or_lt (a -ℤ b -ℤ square d) (pos 0)) [ inl k ↦ inl k | inr k ↦ inr (by k) ]
  where
    by : pos 0 <ℤ (a -ℤ b -ℤ square d) → square (a -ℤ b -ℤ square d) ≤ℤ (square (d +ℤ d) *ℤ b)
    by k =
        let f : square (a -ℤ b -ℤ square d) ≤ℤ square (a -ℤ b -ℤ square w) = square_mono (a -ℤ b -ℤ square d) (a -ℤ b -ℤ square w) (omega (arith, linear, k)) (omega (arith, linear, square_mono w d hw l)) in
        let g : square (w +ℤ w) ≤ℤ square (d +ℤ d) = square_mono (w +ℤ w) (d +ℤ d) (omega (arith, linear, hw)) (omega (arith, linear, l)) in
        let m : (b *ℤ square (w +ℤ w)) ≤ℤ (b *ℤ square (d +ℤ d)) = times_mono b (square (w +ℤ w)) (square (d +ℤ d)) hb g in
        let e : (z : ℤ) → b *ℤ z ≡ z *ℤ b = λ z. simp ring in
        omega (arith, linear, f, h, m, e (square (w +ℤ w)), e (square (d +ℤ d)))

pub longer_by : (m w a b : ℤ) → AtMostLonger w a b → AtMostLonger (m *ℤ w) (square m *ℤ a) (square m *ℤ b)
longer_by m w a b (inl h) = inl (rw (longer_scaled m w a b) (omega (arith, linear, times_mono (square m) (a -ℤ b -ℤ square w) (pos 0) (square_from_zero m) h, none)))
  where
    none : square m *ℤ pos 0 ≡ pos 0
    none = simp ring
longer_by m w a b (inr h) =
    let f : (square (square m) *ℤ square (a -ℤ b -ℤ square w)) ≤ℤ (square (square m) *ℤ (square (w +ℤ w) *ℤ b)) = times_mono (square (square m)) (square (a -ℤ b -ℤ square w)) (square (w +ℤ w) *ℤ b) (square_from_zero (square m)) h in
    inr (rw (longer_scaled m w a b, square_scaled (square m) (a -ℤ b -ℤ square w), right m w b) f)
  where
    right : (m w b : ℤ) → square (m *ℤ w +ℤ m *ℤ w) *ℤ (square m *ℤ b) ≡ square (square m) *ℤ (square (w +ℤ w) *ℤ b)
    right m w b = simp ring (omega (arith, linear))

longer_back : (m w a b : ℤ) → pos 1 ≤ℤ m → AtMostLonger (m *ℤ w) (square m *ℤ a) (square m *ℤ b) → AtMostLonger w a b
longer_back m w a b some (inl h) = inl (times_cancel (square m) (a -ℤ b -ℤ square w) (pos 0) (over_zero m m some some) (omega (arith, linear, none, rw (longer_scaled m w a b) at h)))
  where
    none : square m *ℤ pos 0 ≡ pos 0
    none = simp ring
longer_back m w a b some (inr h) =
    let g : (square (square m) *ℤ square (a -ℤ b -ℤ square w)) ≤ℤ (square (square m) *ℤ (square (w +ℤ w) *ℤ b)) = rw (longer_scaled m w a b, square_scaled (square m) (a -ℤ b -ℤ square w), right m w b) at h in
    inr (times_cancel (square (square m)) (square (a -ℤ b -ℤ square w)) (square (w +ℤ w) *ℤ b) (over_zero (square m) (square m) (over_zero m m some some) (over_zero m m some some)) g)
  where
    right : (m w b : ℤ) → square (m *ℤ w +ℤ m *ℤ w) *ℤ (square m *ℤ b) ≡ square (square m) *ℤ (square (w +ℤ w) *ℤ b)
    right m w b = simp ring (omega (arith, linear))

module _ (m w d : ℤ) (some : pos 1 ≤ℤ m) (p : Point) where
  hn : pos 0 ≤ℤ p.n
  hn = omega (arith, linear, p.positive)

  hm : pos 0 ≤ℤ m
  hm = omega (arith, linear, some)

  moved : (n m w : ℤ) → m *ℤ (n *ℤ w) ≡ n *ℤ (m *ℤ w)
  moved n m w = simp ring

  reach_from : (c : Spot) → pos 0 ≤ℤ reach_of c p
  reach_from c = omega (arith, linear, square_from_zero (p.x -ℤ p.n *ℤ c.x), square_from_zero (p.y -ℤ p.n *ℤ c.y))

  module _ (hw : pos 0 ≤ℤ w) (l : (m *ℤ w) ≤ℤ d) where
    up : (p.n *ℤ (m *ℤ w)) ≤ℤ (p.n *ℤ d)
    up = times_mono p.n (m *ℤ w) d hn l

    from : pos 0 ≤ℤ (p.n *ℤ (m *ℤ w))
    from = times_from_zero p.n (m *ℤ w) hn (times_from_zero m w hm hw)

    longer : (a b : ℤ) → pos 0 ≤ℤ b → AtMostLonger (p.n *ℤ w) a b → AtMostLonger (p.n *ℤ d) (square m *ℤ a) (square m *ℤ b)
    longer a b hb h = longer_mono (p.n *ℤ (m *ℤ w)) (p.n *ℤ d) (square m *ℤ a) (square m *ℤ b) from up (times_from_zero (square m) b (square_from_zero m) hb) (rw (moved p.n m w) at (longer_by m (p.n *ℤ w) a b h))

    pub near_out : (a : Spot) → IsNear w a p → IsNearBy m d a p
    near_out a h =
        let f : (square m *ℤ reach_of a p) ≤ℤ (square m *ℤ square (p.n *ℤ w)) = times_mono (square m) (reach_of a p) (square (p.n *ℤ w)) (square_from_zero m) h in
        let g : square m *ℤ square (p.n *ℤ w) ≡ square (p.n *ℤ (m *ℤ w)) = simp ring in
        omega (arith, linear, f, g, square_mono (p.n *ℤ (m *ℤ w)) (p.n *ℤ d) from up)

    pub ring_out : (c : Spot) (near far : ℤ) → pos 0 ≤ℤ far → InRing w c near far p → InRingBy m d c near far p
    ring_out c near far hf h = (longer (reach_of c p) (square p.n *ℤ far) (times_from_zero (square p.n) far (square_from_zero p.n) hf) h.0, longer (square p.n *ℤ near) (reach_of c p) (reach_from c) h.1)

  module _ (hd : pos 0 ≤ℤ d) (l : d ≤ℤ (m *ℤ w)) where
    down : (p.n *ℤ d) ≤ℤ (p.n *ℤ (m *ℤ w))
    down = times_mono p.n d (m *ℤ w) hn l

    shorter : (a b : ℤ) → pos 0 ≤ℤ b → AtMostLonger (p.n *ℤ d) (square m *ℤ a) (square m *ℤ b) → AtMostLonger (p.n *ℤ w) a b
    shorter a b hb h = longer_back m (p.n *ℤ w) a b some (rw (moved p.n m w) (longer_mono (p.n *ℤ d) (p.n *ℤ (m *ℤ w)) (square m *ℤ a) (square m *ℤ b) (times_from_zero p.n d hn hd) down (times_from_zero (square m) b (square_from_zero m) hb) h))

    pub near_in : (a : Spot) → IsNearBy m d a p → IsNear w a p
    near_in a h =
        let g : square m *ℤ square (p.n *ℤ w) ≡ square (p.n *ℤ (m *ℤ w)) = simp ring in
        times_cancel (square m) (reach_of a p) (square (p.n *ℤ w)) (over_zero m m some some) (omega (arith, linear, h, g, square_mono (p.n *ℤ d) (p.n *ℤ (m *ℤ w)) (times_from_zero p.n d hn hd) down))

    pub ring_in : (c : Spot) (near far : ℤ) → pos 0 ≤ℤ far → InRingBy m d c near far p → InRing w c near far p
    ring_in c near far hf h = (shorter (reach_of c p) (square p.n *ℤ far) (times_from_zero (square p.n) far (square_from_zero p.n) hf) h.0, shorter (square p.n *ℤ near) (reach_of c p) (reach_from c) h.1)
