-- The plane at k times its size.
use Rattle.std.proofs.Common.{◌≡◌, inl, inr, ℤ, pos, neg_ℤ, ◌+ℤ◌, ◌-ℤ◌, ◌*ℤ◌, ◌≤ℤ◌, ◌<ℤ◌, List, [], ◌∷◌, map, arith, ap}
use Rattle.std.proofs.lemmas.Int.{ints}
use Rattle.planar.specs.declared.Spot.{Spot}
use Rattle.planar.specs.Plane.{Point, cross_of, dot_of, square, EachFrom}
use Rattle.planar.proofs.Ring.{ring, linear, over_zero, square_from_zero, times_from_zero, times_mono}
use Rattle.arcs.specs.Copper.{InFrom, InTurn, MayTurn, reach_of, side_of}
use Rattle.arcs.specs.Copper.{InRing as InRingBy}
use Rattle.arcs.specs.Chains.{EndsAt, HasRoom, IsChord, IsRoom}
use Rattle.arcs.proofs.Whole.{InRing}
use Rattle.arcs.proofs.Chain.{walked}

abbrev pub grown : ℤ → Spot → Spot
grown k s = record { x = k *ℤ s.x; y = k *ℤ s.y }

abbrev pub grown_point : ℤ → Point → Point
grown_point k p = record { x = k *ℤ p.x; y = k *ℤ p.y; n = p.n; positive = p.positive }

module _ (k : ℤ) (some : pos 1 ≤ℤ k) where
  kk : pos 1 ≤ℤ square k
  kk = over_zero k k some some

  hk : pos 0 ≤ℤ k
  hk = omega (arith, linear, some)

  cross_grown : (c a b : Spot) → cross_of (grown k c) (grown k a) (grown k b) ≡ square k *ℤ cross_of c a b
  cross_grown c a b = simp ring (omega (arith, linear))

  dot_grown : (c a b : Spot) → dot_of (grown k c) (grown k a) (grown k b) ≡ square k *ℤ dot_of c a b
  dot_grown c a b = simp ring (omega (arith, linear))

  side_grown : (c a : Spot) (p : Point) → side_of (grown k c) (grown k a) (grown_point k p) ≡ square k *ℤ side_of c a p
  side_grown c a p = by c.x c.y p.x p.y p.n a.x a.y
    where
      by : (cx cy x y n ax ay : ℤ) → (k *ℤ ax -ℤ k *ℤ cx) *ℤ (k *ℤ y -ℤ n *ℤ (k *ℤ cy)) -ℤ (k *ℤ ay -ℤ k *ℤ cy) *ℤ (k *ℤ x -ℤ n *ℤ (k *ℤ cx)) ≡ square k *ℤ ((ax -ℤ cx) *ℤ (y -ℤ n *ℤ cy) -ℤ (ay -ℤ cy) *ℤ (x -ℤ n *ℤ cx))
      by cx cy x y n ax ay = simp ring (omega (arith, linear))

  reach_grown : (c : Spot) (p : Point) → reach_of (grown k c) (grown_point k p) ≡ square k *ℤ reach_of c p
  reach_grown c p = by p.x p.y p.n c.x c.y
    where
      by : (x y n cx cy : ℤ) → square (k *ℤ x -ℤ n *ℤ (k *ℤ cx)) +ℤ square (k *ℤ y -ℤ n *ℤ (k *ℤ cy)) ≡ square k *ℤ (square (x -ℤ n *ℤ cx) +ℤ square (y -ℤ n *ℤ cy))
      by x y n cx cy = simp ring (omega (arith, linear))

  from_zero : (z : ℤ) → pos 0 ≤ℤ z → pos 0 ≤ℤ (square k *ℤ z)
  from_zero z h = times_from_zero (square k) z (square_from_zero k) h

  to_zero : (z : ℤ) → z ≤ℤ pos 0 → (square k *ℤ z) ≤ℤ pos 0
  to_zero z h = omega (arith, linear, times_mono (square k) z (pos 0) (square_from_zero k) h, none)
    where
      none : square k *ℤ pos 0 ≡ pos 0
      none = simp ring

  over : (z : ℤ) → pos 0 <ℤ z → pos 0 <ℤ (square k *ℤ z)
  over z h = omega (arith, linear, over_zero (square k) z kk (omega (arith, linear, h)))

  under : (z : ℤ) → z <ℤ pos 0 → (square k *ℤ z) <ℤ pos 0
  under z h = omega (arith, linear, over_zero (square k) (neg_ℤ z) kk (omega (arith, linear, h)), turned)
    where
      turned : square k *ℤ neg_ℤ z ≡ neg_ℤ (square k *ℤ z)
      turned = simp ring

  flat : (z : ℤ) → z ≡ pos 0 → square k *ℤ z ≡ pos 0
  flat z h = rw h (simp ring)

  module _ (c s e : Spot) (p : Point) where
    turn_grown : InTurn c s e p → InTurn (grown k c) (grown k s) (grown k e) (grown_point k p)
    turn_grown (inl less) = inl (rw (cross_grown c s e) (over (cross_of c s e) less.0), rw (side_grown c s p) (from_zero (side_of c s p) less.1), rw (side_grown c e p) (to_zero (side_of c e p) less.2))
    turn_grown (inr (inl more)) = inr (inl (
      rw (cross_grown c s e) (under (cross_of c s e) more.0),
      elim more.1 [
        | inl h ↦ inl (rw (side_grown c s p) (from_zero (side_of c s p) h))
        | inr h ↦ inr (rw (side_grown c e p) (to_zero (side_of c e p) h))
      ],
    ))
    turn_grown (inr (inr (inl half))) = inr (inr (inl (rw (cross_grown c s e) (flat (cross_of c s e) half.0), rw (dot_grown c s e) (under (dot_of c s e) half.1), rw (side_grown c s p) (from_zero (side_of c s p) half.2))))
    turn_grown (inr (inr (inr same))) = inr (inr (inr (ap (grown k) same)))

    may_grown : MayTurn c s e p → MayTurn (grown k c) (grown k s) (grown k e) (grown_point k p)
    may_grown (inl h) = inl (turn_grown h)
    may_grown (inr h) = inr (rw (cross_grown c s e) (flat (cross_of c s e) h.0), rw (dot_grown c s e) (from_zero (dot_of c s e) h.1))

  within : (d far : ℤ) → d ≤ℤ square far → (square k *ℤ d) ≤ℤ square (k *ℤ far)
  within d far h = let e : square (k *ℤ far) ≡ square k *ℤ square far = simp ring in omega (arith, linear, e, times_mono (square k) d (square far) (square_from_zero k) h)

  beyond : (d near : ℤ) → square near ≤ℤ d → square (k *ℤ near) ≤ℤ (square k *ℤ d)
  beyond d near h = let e : square (k *ℤ near) ≡ square k *ℤ square near = simp ring in omega (arith, linear, e, times_mono (square k) (square near) d (square_from_zero k) h)

  line_grown : (near d u : ℤ) → (square near *ℤ d) ≤ℤ square u → (square (k *ℤ near) *ℤ (square k *ℤ d)) ≤ℤ square (square k *ℤ u)
  line_grown near d u h =
      let f : square (k *ℤ near) *ℤ (square k *ℤ d) ≡ square (square k) *ℤ (square near *ℤ d) = simp ring in
      let g : square (square k *ℤ u) ≡ square (square k) *ℤ square u = simp ring in
      omega (arith, linear, f, g, times_mono (square (square k)) (square near *ℤ d) (square u) (square_from_zero (square k)) h)

  chord_grown : (c : Spot) (near far : ℤ) (a b : Spot) → IsChord c near far a b → IsChord (grown k c) (k *ℤ near) (k *ℤ far) (grown k a) (grown k b)
  chord_grown c near far a b h = record {
    left = rw (cross_grown c a b) (over_zero (square k) (cross_of c a b) kk h.left);
    first = rw (dot_grown c a a) (within (dot_of c a a) far h.first);
    last = rw (dot_grown c b b) (within (dot_of c b b) far h.last);
    line = rw (dot_grown a b b, cross_grown c a b) (line_grown near (dot_of a b b) (cross_of c a b) h.line);
  }

  each_grown : (c : Spot) (near far : ℤ) (a : Spot) (rest : List Spot) → EachFrom (IsChord c near far) a rest → EachFrom (IsChord (grown k c) (k *ℤ near) (k *ℤ far)) (grown k a) (map (grown k) rest)
  each_grown c near far a [] all = all
  each_grown c near far a (b ∷ rest) all = (chord_grown c near far a b all.0, each_grown c near far b rest all.1)

  end_grown : (e a : Spot) (rest : List Spot) → EndsAt e a rest → EndsAt (grown k e) (grown k a) (map (grown k) rest)
  end_grown e a [] same = ap (grown k) same
  end_grown e a (b ∷ rest) more = end_grown e b rest more

  room_grown : (low high near far r : ℤ) → HasRoom low high near far r → HasRoom (square k *ℤ low) (square k *ℤ high) (k *ℤ near) (k *ℤ far) (k *ℤ r)
  room_grown low high near far r h = record { least = k *ℤ h.least; most = k *ℤ h.most; room = by h.least h.most h.room }
    where
      spread : (u v : ℤ) → k *ℤ (u +ℤ v) ≡ k *ℤ u +ℤ k *ℤ v
      spread u v = simp ring (omega (arith, linear))

      by : (least most : ℤ) → IsRoom low high least most near far r → IsRoom (square k *ℤ low) (square k *ℤ high) (k *ℤ least) (k *ℤ most) (k *ℤ near) (k *ℤ far) (k *ℤ r)
      by least most o = record {
        least_from = times_from_zero k least hk o.least_from;
        most_from = times_from_zero k most hk o.most_from;
        near_from = times_from_zero k near hk o.near_from;
        far_from = times_from_zero k far hk o.far_from;
        k_from = times_from_zero k r hk o.k_from;
        least_is = beyond low least o.least_is;
        most_is = within high most o.most_is;
        near_is = rw (← (spread near r)) (times_mono k most (near +ℤ r) hk o.near_is);
        far_is = rw (← (spread least r)) (times_mono k far (least +ℤ r) hk o.far_is);
      }

  ring_grown : (c : Spot) (low high : ℤ) (p : Point) → InRingBy k (pos 1) c low high p → InRing (pos 1) (grown k c) (square k *ℤ low) (square k *ℤ high) (grown_point k p)
  ring_grown c low high p h = rw (reach_grown c p, swap p.n low, swap p.n high) h
    where
      swap : (n z : ℤ) → square n *ℤ (square k *ℤ z) ≡ square k *ℤ (square n *ℤ z)
      swap n z = simp ring

-- a chain from the start to the end, seen at k times its size: it holds each place of the turn that is at most 1/k off
module _ (k : ℤ) (some : pos 1 ≤ℤ k) (c s e : Spot) (low high near far r : ℤ) (room : HasRoom low high near far r) (a b : Spot) (rest : List Spot) (start : a ≡ s) (all : EachFrom (IsChord c near far) a (b ∷ rest)) (last : EndsAt e a (b ∷ rest)) where
  pub place_held : (z : Point) → MayTurn c s e z → InRingBy k (pos 1) c low high z → InFrom (grown k a) (map (grown k) (b ∷ rest)) (pos 1 +ℤ k *ℤ r) (grown_point k z)
  place_held z turn ring =
      walked (grown k c) (grown k s) (grown k e) (square k *ℤ low) (square k *ℤ high) (k *ℤ near) (k *ℤ far) (k *ℤ r) (pos 1) (omega (arith, ints)) (room_grown k some low high near far r room) (grown_point k z) (ring_grown k some c low high z ring)
      (grown k a) (grown k b) (map (grown k) rest) (ap (grown k) start) (each_grown k some c near far a (b ∷ rest) all) (end_grown k some e a (b ∷ rest) last) (may_grown k some c s e z turn)
