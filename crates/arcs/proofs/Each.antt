-- What is surely copper is that of each distance.
use Rattle.std.proofs.Common.{inl, inr, ℤ, pos, ◌+ℤ◌, ◌-ℤ◌, ◌*ℤ◌, ◌≤ℤ◌, ◌<ℤ◌, arith}
use Rattle.planar.specs.declared.Spot.{Spot}
use Rattle.planar.specs.Plane.{Point, square}
use Rattle.planar.proofs.Ring.{linear, le_or_lt, square_from_zero, square_mono, times_mono}
use Rattle.arcs.specs.Copper.{AtMostLonger, InRing, inmost, outmost, reach_of}
use Rattle.arcs.specs.Laws.{SurelyOfEach}

longer_within : (w a b a' b' : ℤ) → a' ≤ℤ a → b ≤ℤ b' → AtMostLonger w a b → AtMostLonger w a' b'
longer_within w a b a' b' h k (inl l) = inl (omega (arith, linear, h, k, l))
longer_within w a b a' b' h k (inr l) = elim (le_or_lt (a' -ℤ b' -ℤ square w) (pos 0)) [ inl o ↦ inl o | inr o ↦ inr (by o) ]
  where
    by : pos 0 <ℤ (a' -ℤ b' -ℤ square w) → square (a' -ℤ b' -ℤ square w) ≤ℤ (square (w +ℤ w) *ℤ b')
    by o =
        let f : square (a' -ℤ b' -ℤ square w) ≤ℤ square (a -ℤ b -ℤ square w) = square_mono (a' -ℤ b' -ℤ square w) (a -ℤ b -ℤ square w) (omega (arith, linear, o)) (omega (arith, linear, h, k)) in
        let g : (square (w +ℤ w) *ℤ b) ≤ℤ (square (w +ℤ w) *ℤ b') = times_mono (square (w +ℤ w)) b b' (square_from_zero (w +ℤ w)) k in
        omega (arith, linear, f, g, l)

stretched : (m n a b : ℤ) → a ≤ℤ b → (square m *ℤ (square n *ℤ a)) ≤ℤ (square m *ℤ (square n *ℤ b))
stretched m n a b h = times_mono (square m) (square n *ℤ a) (square n *ℤ b) (square_from_zero m) (times_mono (square n) a b (square_from_zero n) h)

same : (z : ℤ) → z ≤ℤ z
same z = omega (arith, linear)

-- a ring between other distances
pub ring_within : (m w : ℤ) (c : Spot) (near far near' far' : ℤ) (p : Point) → near' ≤ℤ near → far ≤ℤ far' → InRing m w c near far p → InRing m w c near' far' p
ring_within m w c near far near' far' p h k ring = (
  longer_within (p.n *ℤ w) (square m *ℤ reach_of c p) (square m *ℤ (square p.n *ℤ far)) (square m *ℤ reach_of c p) (square m *ℤ (square p.n *ℤ far')) (same (square m *ℤ reach_of c p)) (stretched m p.n far far' k) ring.0,
  longer_within (p.n *ℤ w) (square m *ℤ (square p.n *ℤ near)) (square m *ℤ reach_of c p) (square m *ℤ (square p.n *ℤ near')) (square m *ℤ reach_of c p) (stretched m p.n near' near h) (same (square m *ℤ reach_of c p)) ring.1,
)

pub surely_of_each : SurelyOfEach
surely_of_each a f p low high (inl (meant, turn, ring)) = inl (turn, ring_within (pos 2) (pos a.width) a.centre (outmost a) (inmost a) f f p high low ring)
surely_of_each a f p low high (inr ends) = inr ends
