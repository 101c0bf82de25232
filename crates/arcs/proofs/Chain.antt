-- Chains against the copper of an arc.
use Rattle.std.proofs.Common.{◌≡◌, ◌⊎◌, inl, inr, ℕ, ℤ, pos, ◌+◌, ◌-◌, ◌≤◌, neg_ℤ, ◌+ℤ◌, ◌-ℤ◌, ◌*ℤ◌, ◌≤ℤ◌, ◌<ℤ◌, List, [], ◌∷◌, arith, subst, sym}
use Rattle.std.proofs.lemmas.Int.{ints}
use Rattle.planar.specs.declared.Spot.{Spot}
use Rattle.planar.specs.Plane.{InCapsule, Point, cross_of, dot_of, EachFrom}
use Rattle.planar.proofs.Ring.{ring, linear, le_or_lt, mul_comm, neg-mul, mul-neg, over_zero, times_cancel, times_from_zero, times-zero, zero-times}
use Rattle.planar.proofs.SpotWithin.{whole_from_zero}
use Rattle.arcs.specs.declared.Arc.{Arc}
use Rattle.arcs.specs.Copper.{InChain, InFrom, InTurn, IsMeant, MayTurn, Surely, inmost, outmost, side_of}
use Rattle.arcs.specs.Chains.{EndsAt, HasRoom, IsChord, IsInner}
use Rattle.arcs.proofs.Whole.{InRing, IsNear, IsRim, near_out, ring_out}
use Rattle.arcs.proofs.Radii.{end_over, end_under, inmost_from, start_over, start_under}
use Rattle.arcs.proofs.Vectors.{norm, norm_some}
use Rattle.arcs.proofs.Ends.{chord_below}
use Rattle.arcs.proofs.Upper.{chord_holds_ring}

-- ---- below

module _ (c s e : Spot) (low high near far k v : ℤ) (hv : pos 0 ≤ℤ v) (h : HasRoom low high near far k) (first : IsRim c low high s) (last : IsRim c low high e) (p : Point) where
  each_below : (a : Spot) (rest : List Spot) → EachFrom (IsInner c s e near far) a rest → InFrom a rest v p → (InTurn c s e p × InRing (v +ℤ k) c high low p) ⊎ (IsNear (v +ℤ k) s p ⊎ IsNear (v +ℤ k) e p)
  each_below a [] all none = absurd none
  each_below a (b ∷ rest) all (inl inside) = chord_below c s e a b low high h.least h.most near far k v p hv h.room first last all.0.0.0 all.0.1 inside
  each_below a (b ∷ rest) all (inr more) = each_below b rest all.1 more

rim_start : (a : Arc) → IsRim a.centre (inmost a) (outmost a) a.start
rim_start a = (start_over a, start_under a)

rim_end : (a : Arc) → IsRim a.centre (inmost a) (outmost a) a.end
rim_end a = (end_over a, end_under a)

pub below_read : (arc : Arc) (chain : List Spot) (r half : ℕ) (near far : ℤ) (a : Spot) (rest : List Spot) → half + half ≤ arc.width → r ≤ half → HasRoom (inmost arc) (outmost arc) near far (pos (half - r)) → chain ≡ a ∷ rest → IsMeant arc
    → EachFrom (IsInner arc.centre arc.start arc.end near far) a rest → (p : Point) → InChain chain (pos r) p → Surely arc p
below_read arc chain r half near far a rest wide l h e meant all p inside =
    let i : InFrom a rest (pos r) p = subst (λ (xs : List Spot). InChain xs (pos r) p) e inside in
    let w : pos r +ℤ pos (half - r) ≡ pos half = omega (arith, ints, l) in
    by (subst (λ (z : ℤ). (InTurn arc.centre arc.start arc.end p × InRing z arc.centre (outmost arc) (inmost arc) p) ⊎ (IsNear z arc.start p ⊎ IsNear z arc.end p)) w
    (each_below arc.centre arc.start arc.end (inmost arc) (outmost arc) near far (pos (half - r)) (pos r) (omega (arith, ints)) h (rim_start arc) (rim_end arc) p a rest all i))
  where
    from : pos 0 ≤ℤ pos half
    from = omega (arith, ints)

    one : pos 1 ≤ℤ pos 2
    one = omega (arith, ints)

    twice : (pos 2 *ℤ pos half) ≤ℤ pos arc.width
    twice = omega (arith, ints, wide)

    by : (InTurn arc.centre arc.start arc.end p × InRing (pos half) arc.centre (outmost arc) (inmost arc) p) ⊎ (IsNear (pos half) arc.start p ⊎ IsNear (pos half) arc.end p) → Surely arc p
    by (inl (turn, ring)) = inl (meant, turn, ring_out (pos 2) (pos half) (pos arc.width) one p from twice arc.centre (outmost arc) (inmost arc) (inmost_from arc) ring)
    by (inr (inl h)) = inr (inl (near_out (pos 2) (pos half) (pos arc.width) one p from twice arc.start h))
    by (inr (inr h)) = inr (inr (near_out (pos 2) (pos half) (pos arc.width) one p from twice arc.end h))

-- ---- a chain round the centre has a chord in each direction of the turn

-- a cross product by two others and the sides of p
three : (sx sy ax ay bx by x y : ℤ) → (sx *ℤ by -ℤ sy *ℤ bx) *ℤ (ax *ℤ y -ℤ ay *ℤ x) ≡ (sx *ℤ ay -ℤ sy *ℤ ax) *ℤ (bx *ℤ y -ℤ by *ℤ x) +ℤ (ax *ℤ by -ℤ ay *ℤ bx) *ℤ (sx *ℤ y -ℤ sy *ℤ x)
three sx sy ax ay bx by x y = simp ring (omega (arith, linear))

-- k times u is over 0, and u is not under it
over_of : (k u : ℤ) → pos 1 ≤ℤ (k *ℤ u) → pos 0 ≤ℤ u → pos 1 ≤ℤ k
over_of k u h hu = elim (le_or_lt (pos 1) k) [ inl l ↦ l | inr l ↦ absurd (omega (arith, linear, h, neg-mul k u, times_from_zero (neg_ℤ k) u (omega (arith, linear, l)) hu)) ]

under_of : (k u : ℤ) → (k *ℤ u) <ℤ pos 0 → u ≤ℤ pos 0 → pos 1 ≤ℤ k
under_of k u h hu = elim (le_or_lt (pos 1) k) [ inl l ↦ l | inr l ↦ absurd (omega (arith, linear, h, neg-mul k (neg_ℤ u), mul-neg k u, times_from_zero (neg_ℤ k) (neg_ℤ u) (omega (arith, linear, l)) (omega (arith, linear, hu)))) ]

-- what is on the right of s is on the right of e, where e is in the same direction
one_way : (sx sy ex ey x y : ℤ) → sx *ℤ ey -ℤ sy *ℤ ex ≡ pos 0 → pos 0 ≤ℤ (sx *ℤ ex +ℤ sy *ℤ ey) → (sx *ℤ y -ℤ sy *ℤ x) <ℤ pos 0 → (ex *ℤ y -ℤ ey *ℤ x) ≤ℤ pos 0
one_way sx sy ex ey x y flat way h =
    let id : norm sx sy *ℤ (ex *ℤ y -ℤ ey *ℤ x) ≡ (sx *ℤ ex +ℤ sy *ℤ ey) *ℤ (sx *ℤ y -ℤ sy *ℤ x) -ℤ pos 0 *ℤ (sx *ℤ x +ℤ sy *ℤ y) = rw flat at seen in
    let f : pos 0 ≤ℤ ((sx *ℤ ex +ℤ sy *ℤ ey) *ℤ neg_ℤ (sx *ℤ y -ℤ sy *ℤ x)) = times_from_zero (sx *ℤ ex +ℤ sy *ℤ ey) (neg_ℤ (sx *ℤ y -ℤ sy *ℤ x)) way (omega (arith, linear, h)) in
    times_cancel (norm sx sy) (ex *ℤ y -ℤ ey *ℤ x) (pos 0) some (omega (arith, linear, id, f, mul-neg (sx *ℤ ex +ℤ sy *ℤ ey) (sx *ℤ y -ℤ sy *ℤ x), zero-times (sx *ℤ x +ℤ sy *ℤ y), times-zero (norm sx sy)))
  where
    seen : norm sx sy *ℤ (ex *ℤ y -ℤ ey *ℤ x) ≡ (sx *ℤ ex +ℤ sy *ℤ ey) *ℤ (sx *ℤ y -ℤ sy *ℤ x) -ℤ (sx *ℤ ey -ℤ sy *ℤ ex) *ℤ (sx *ℤ x +ℤ sy *ℤ y)
    seen = simp ring (omega (arith, linear))

    some : pos 1 ≤ℤ norm sx sy
    some = norm_some sx sy (λ zero_x zero_y. (let b : (pos 0 *ℤ y -ℤ pos 0 *ℤ x) <ℤ pos 0 = rw (zero_x, zero_y) at h in omega (arith, linear, b, zero-times x, zero-times y)))

pub flat_self : (c s e : Spot) → s ≡ e → cross_of c s e ≡ pos 0
flat_self c s e same = subst (λ (z : Spot). cross_of c s z ≡ pos 0) same (omega (arith, linear, mul_comm (s.x -ℤ c.x) (s.y -ℤ c.y)))

pub not_back : (c s e : Spot) → s ≡ e → pos 0 ≤ℤ dot_of c s e
not_back c s e same = subst (λ (z : Spot). pos 0 ≤ℤ dot_of c s z) same (whole_from_zero c s)

module _ (c s : Spot) (p : Point) where
  -- a is s, or on the left of s
  abbrev Seen : Spot → Type 0
  Seen a = (a ≡ s) ⊎ (pos 1 ≤ℤ cross_of c s a)

  -- p is on the left of all so far
  left_on : (a b : Spot) → Seen a → pos 1 ≤ℤ cross_of c a b → pos 0 ≤ℤ side_of c s p → pos 0 ≤ℤ side_of c a p → pos 0 <ℤ side_of c b p → pos 1 ≤ℤ cross_of c s b
  left_on a b (inl same) turn hs ha hb = subst (λ (z : Spot). pos 1 ≤ℤ cross_of c z b) same turn
  left_on a b (inr seen) turn hs ha hb =
      let id = three (s.x -ℤ c.x) (s.y -ℤ c.y) (a.x -ℤ c.x) (a.y -ℤ c.y) (b.x -ℤ c.x) (b.y -ℤ c.y) (p.x -ℤ p.n *ℤ c.x) (p.y -ℤ p.n *ℤ c.y) in
      let f : pos 1 ≤ℤ (cross_of c s a *ℤ side_of c b p) = over_zero (cross_of c s a) (side_of c b p) seen (omega (arith, linear, hb)) in
      let g : pos 0 ≤ℤ (cross_of c a b *ℤ side_of c s p) = times_from_zero (cross_of c a b) (side_of c s p) (omega (arith, linear, turn)) hs in
      over_of (cross_of c s b) (side_of c a p) (omega (arith, linear, id, f, g)) ha

  -- or on the right
  right_on : (a b : Spot) → Seen a → pos 1 ≤ℤ cross_of c a b → side_of c s p <ℤ pos 0 → side_of c a p <ℤ pos 0 → side_of c b p ≤ℤ pos 0 → pos 1 ≤ℤ cross_of c s b
  right_on a b (inl same) turn hs ha hb = subst (λ (z : Spot). pos 1 ≤ℤ cross_of c z b) same turn
  right_on a b (inr seen) turn hs ha hb =
      let id = three (s.x -ℤ c.x) (s.y -ℤ c.y) (a.x -ℤ c.x) (a.y -ℤ c.y) (b.x -ℤ c.x) (b.y -ℤ c.y) (p.x -ℤ p.n *ℤ c.x) (p.y -ℤ p.n *ℤ c.y) in
      let f : pos 0 ≤ℤ (cross_of c s a *ℤ neg_ℤ (side_of c b p)) = times_from_zero (cross_of c s a) (neg_ℤ (side_of c b p)) (omega (arith, linear, seen)) (omega (arith, linear, hb)) in
      let g : pos 1 ≤ℤ (cross_of c a b *ℤ neg_ℤ (side_of c s p)) = over_zero (cross_of c a b) (neg_ℤ (side_of c s p)) turn (omega (arith, linear, hs)) in
      under_of (cross_of c s b) (side_of c a p) (omega (arith, linear, id, f, g, mul-neg (cross_of c s a) (side_of c b p), mul-neg (cross_of c a b) (side_of c s p))) (omega (arith, linear, ha))

module _ (c s e : Spot) (low high near far k w : ℤ) (hw : pos 0 ≤ℤ w) (room : HasRoom low high near far k) (p : Point) (inside : InRing w c low high p) where
  here : (a b : Spot) → IsChord c near far a b → pos 0 ≤ℤ side_of c a p → side_of c b p ≤ℤ pos 0 → InCapsule a b (w +ℤ k) p
  here a b chord left right = chord_holds_ring c a b low high room.least room.most near far k w p hw room.room chord (left, right) inside

  -- from a spot that p is not before to the end, which p is not past
  to_end : (a b : Spot) (rest : List Spot) → EachFrom (IsChord c near far) a (b ∷ rest) → EndsAt e a (b ∷ rest) → pos 0 ≤ℤ side_of c a p → side_of c e p ≤ℤ pos 0 → InFrom a (b ∷ rest) (w +ℤ k) p
  to_end a b [] all last left right = inl (here a b all.0 left (subst (λ (z : Spot). side_of c z p ≤ℤ pos 0) (sym last) right))
  to_end a b (d ∷ rest) all last left right = elim (le_or_lt (pos 0) (side_of c b p)) [
    | inl l ↦ inr (to_end b d rest all.1 last l right)
    | inr l ↦ inl (here a b all.0 left (omega (arith, linear, l)))
  ]

  module _ (way : cross_of c s e ≤ℤ pos 0) where
    no_further : (b : Spot) → b ≡ e → pos 1 ≤ℤ cross_of c s b → ⊥
    no_further b last h = let l : pos 1 ≤ℤ cross_of c s e = subst (λ (z : Spot). pos 1 ≤ℤ cross_of c s z) last h in omega (arith, linear, l, way)

    -- where p is on the left of s, some spot has it on the right
    by_left : (a b : Spot) (rest : List Spot) → Seen c s p a → EachFrom (IsChord c near far) a (b ∷ rest) → EndsAt e a (b ∷ rest) → pos 0 ≤ℤ side_of c s p → pos 0 ≤ℤ side_of c a p → InFrom a (b ∷ rest) (w +ℤ k) p
    by_left a b [] seen all last hs left = elim (le_or_lt (side_of c b p) (pos 0)) [
      | inl l ↦ inl (here a b all.0 left l)
      | inr l ↦ absurd (no_further b last (left_on c s p a b seen all.0.left hs left l))
    ]
    by_left a b (d ∷ rest) seen all last hs left = elim (le_or_lt (side_of c b p) (pos 0)) [
      | inl l ↦ inl (here a b all.0 left l)
      | inr l ↦ inr (by_left b d rest (inr (left_on c s p a b seen all.0.left hs left l)) all.1 last hs (omega (arith, linear, l)))
    ]

    -- where it is on the right of s and of e, some spot has it on the left
    by_right : (a b : Spot) (rest : List Spot) → Seen c s p a → EachFrom (IsChord c near far) a (b ∷ rest) → EndsAt e a (b ∷ rest) → side_of c s p <ℤ pos 0 → side_of c a p <ℤ pos 0 → side_of c e p ≤ℤ pos 0 → InFrom a (b ∷ rest) (w +ℤ k) p
    by_right a b [] seen all last hs left right = absurd (no_further b last (right_on c s p a b seen all.0.left hs left (subst (λ (z : Spot). side_of c z p ≤ℤ pos 0) (sym last) right)))
    by_right a b (d ∷ rest) seen all last hs left right = elim (le_or_lt (pos 0) (side_of c b p)) [
      | inl l ↦ inr (to_end b d rest all.1 last l right)
      | inr l ↦ inr (by_right b d rest (inr (right_on c s p a b seen all.0.left hs left (omega (arith, linear, l)))) all.1 last hs l right)
    ]

  module _ (a b : Spot) (rest : List Spot) (start : a ≡ s) (all : EachFrom (IsChord c near far) a (b ∷ rest)) (last : EndsAt e a (b ∷ rest)) where
    at_first : pos 0 ≤ℤ side_of c s p → pos 0 ≤ℤ side_of c a p
    at_first h = subst (λ (z : Spot). pos 0 ≤ℤ side_of c z p) (sym start) h

    from_left : cross_of c s e ≤ℤ pos 0 → pos 0 ≤ℤ side_of c s p → InFrom a (b ∷ rest) (w +ℤ k) p
    from_left way h = by_left way a b rest (inl start) all last h (at_first h)

    from_right : cross_of c s e ≤ℤ pos 0 → side_of c e p ≤ℤ pos 0 → InFrom a (b ∷ rest) (w +ℤ k) p
    from_right way h = elim (le_or_lt (pos 0) (side_of c s p)) [
      | inl l ↦ from_left way l
      | inr l ↦ by_right way a b rest (inl start) all last l (subst (λ (z : Spot). side_of c z p <ℤ pos 0) (sym start) l) h
    ]

    -- a loop
    round : cross_of c s e ≡ pos 0 → pos 0 ≤ℤ dot_of c s e → InFrom a (b ∷ rest) (w +ℤ k) p
    round flat way = elim (le_or_lt (pos 0) (side_of c s p)) [
      | inl l ↦ from_left (omega (arith, linear, flat)) l
      | inr l ↦ from_right (omega (arith, linear, flat)) (one_way (s.x -ℤ c.x) (s.y -ℤ c.y) (e.x -ℤ c.x) (e.y -ℤ c.y) (p.x -ℤ p.n *ℤ c.x) (p.y -ℤ p.n *ℤ c.y) flat way l)
    ]

    whole : s ≡ e → InFrom a (b ∷ rest) (w +ℤ k) p
    whole same = round (flat_self c s e same) (not_back c s e same)

    pub walked : MayTurn c s e p → InFrom a (b ∷ rest) (w +ℤ k) p
    walked (inl (inl less)) = to_end a b rest all last (at_first less.1) less.2
    walked (inl (inr (inl more))) = elim more.1 [ inl h ↦ from_left (omega (arith, linear, more.0)) h | inr h ↦ from_right (omega (arith, linear, more.0)) h ]
    walked (inl (inr (inr (inl half)))) = from_left (omega (arith, linear, half.0)) half.2
    walked (inl (inr (inr (inr same)))) = whole same
    walked (inr way) = round way.0 way.1
