-- A pen on a place: what is near a place of a capsule lies in a greater one. And a chain is closed: what lies in each somewhat greater chain lies in it.
use Rattle.std.proofs.Common.{◌≡◌, ◌⊎◌, inl, inr, ℕ, ℤ, pos, ◌+◌, ◌-◌, ◌≤◌, neg_ℤ, ◌+ℤ◌, ◌-ℤ◌, ◌*ℤ◌, ◌≤ℤ◌, ◌<ℤ◌, List, [], ◌∷◌, map, arith, refl, subst, sym}
use Rattle.std.proofs.lemmas.Int.{ints}
use Rattle.planar.specs.declared.Spot.{Spot}
use Rattle.planar.specs.Plane.{InCapsule, Point, square, EachFrom}
use Rattle.planar.proofs.Near.{Near, before_start, at_start, beside, at_foot, turn}
use Rattle.planar.proofs.Ends.{same_near}
use Rattle.planar.proofs.Ring.{ring, linear, le_or_lt, over_zero, square_from_zero, square_mono, times_cancel, times_from_zero, times_mono}
use Rattle.arcs.specs.declared.Arc.{Arc}
use Rattle.arcs.specs.Copper.{HasPlace, InChain, InFrom, IsMeant, Possibly, inmost, outmost}
use Rattle.arcs.specs.Copper.{AreNear as AreNearBy}
use Rattle.arcs.specs.Chains.{EndsAt, HasRoom, IsChord}
use Rattle.arcs.proofs.Vectors.{norm, scaled, sum_within, unscaled}
use Rattle.arcs.proofs.Whole.{AreNear}
use Rattle.arcs.proofs.Grown.{grown, grown_point, place_held}

-- where the one of two near points lies in a capsule, the other lies in a greater one
moved : (a b : Spot) (r w : ℤ) (q p : Point) → pos 0 ≤ℤ r → pos 0 ≤ℤ w → AreNear w q p → InCapsule a b r q → InCapsule a b (r +ℤ w) p
moved a b r w q p hr hw close inside = record {
  i = inside.i;
  m = inside.m;
  from_start = inside.from_start;
  to_end = inside.to_end;
  positive = inside.positive;
  near = by inside.i inside.m inside.positive inside.near;
}
  where
    way : (m x n x' n' e : ℤ) → n *ℤ (m *ℤ x' -ℤ n' *ℤ e) ≡ n' *ℤ (m *ℤ x -ℤ n *ℤ e) +ℤ neg_ℤ m *ℤ (n' *ℤ x -ℤ n *ℤ x')
    way m x n x' n' e = simp ring (omega (arith, linear))

    radius : (m n n' r w : ℤ) → n' *ℤ (n *ℤ m *ℤ r) +ℤ m *ℤ (n *ℤ n' *ℤ w) ≡ n *ℤ (n' *ℤ m *ℤ (r +ℤ w))
    radius m n n' r w = simp ring (omega (arith, linear))

    by : (i m : ℤ) → pos 1 ≤ℤ m → norm (m *ℤ q.x -ℤ q.n *ℤ (m *ℤ a.x +ℤ i *ℤ (b.x -ℤ a.x))) (m *ℤ q.y -ℤ q.n *ℤ (m *ℤ a.y +ℤ i *ℤ (b.y -ℤ a.y))) ≤ℤ square (q.n *ℤ m *ℤ r)
        → norm (m *ℤ p.x -ℤ p.n *ℤ (m *ℤ a.x +ℤ i *ℤ (b.x -ℤ a.x))) (m *ℤ p.y -ℤ p.n *ℤ (m *ℤ a.y +ℤ i *ℤ (b.y -ℤ a.y))) ≤ℤ square (p.n *ℤ m *ℤ (r +ℤ w))
    by i m some h =
        let hm : pos 0 ≤ℤ m = omega (arith, linear, some) in
        let hn : pos 0 ≤ℤ q.n = omega (arith, linear, q.positive) in
        let hp : pos 0 ≤ℤ p.n = omega (arith, linear, p.positive) in
        let ex : ℤ = m *ℤ a.x +ℤ i *ℤ (b.x -ℤ a.x) in let ey : ℤ = m *ℤ a.y +ℤ i *ℤ (b.y -ℤ a.y) in
        let flip : square (neg_ℤ m *ℤ (q.n *ℤ p.n *ℤ w)) ≡ square (m *ℤ (q.n *ℤ p.n *ℤ w)) = simp ring (omega (arith, linear)) in
        let step : norm (neg_ℤ m *ℤ (p.n *ℤ q.x -ℤ q.n *ℤ p.x)) (neg_ℤ m *ℤ (p.n *ℤ q.y -ℤ q.n *ℤ p.y)) ≤ℤ square (m *ℤ (q.n *ℤ p.n *ℤ w)) = rw (← flip) (scaled (neg_ℤ m) (p.n *ℤ q.x -ℤ q.n *ℤ p.x) (p.n *ℤ q.y -ℤ q.n *ℤ p.y) (q.n *ℤ p.n *ℤ w) close) in
        let both : norm (p.n *ℤ (m *ℤ q.x -ℤ q.n *ℤ ex) +ℤ neg_ℤ m *ℤ (p.n *ℤ q.x -ℤ q.n *ℤ p.x)) (p.n *ℤ (m *ℤ q.y -ℤ q.n *ℤ ey) +ℤ neg_ℤ m *ℤ (p.n *ℤ q.y -ℤ q.n *ℤ p.y)) ≤ℤ square (p.n *ℤ (q.n *ℤ m *ℤ r) +ℤ m *ℤ (q.n *ℤ p.n *ℤ w)) =
        sum_within (p.n *ℤ (m *ℤ q.x -ℤ q.n *ℤ ex)) (p.n *ℤ (m *ℤ q.y -ℤ q.n *ℤ ey)) (neg_ℤ m *ℤ (p.n *ℤ q.x -ℤ q.n *ℤ p.x)) (neg_ℤ m *ℤ (p.n *ℤ q.y -ℤ q.n *ℤ p.y)) (p.n *ℤ (q.n *ℤ m *ℤ r)) (m *ℤ (q.n *ℤ p.n *ℤ w))
        (times_from_zero p.n (q.n *ℤ m *ℤ r) hp (times_from_zero (q.n *ℤ m) r (times_from_zero q.n m hn hm) hr)) (times_from_zero m (q.n *ℤ p.n *ℤ w) hm (times_from_zero (q.n *ℤ p.n) w (times_from_zero q.n p.n hn hp) hw))
        (scaled p.n (m *ℤ q.x -ℤ q.n *ℤ ex) (m *ℤ q.y -ℤ q.n *ℤ ey) (q.n *ℤ m *ℤ r) h) step in
        unscaled q.n (m *ℤ p.x -ℤ p.n *ℤ ex) (m *ℤ p.y -ℤ p.n *ℤ ey) (p.n *ℤ m *ℤ (r +ℤ w)) q.positive (rw (way m q.x q.n p.x p.n ex, way m q.y q.n p.y p.n ey, ← (radius m q.n p.n r w)) both)

pub moved_along : (a : Spot) (rest : List Spot) (r w : ℤ) (q p : Point) → pos 0 ≤ℤ r → pos 0 ≤ℤ w → AreNear w q p → InFrom a rest r q → InFrom a rest (r +ℤ w) p
moved_along a [] r w q p hr hw close none = absurd none
moved_along a (b ∷ rest) r w q p hr hw close (inl h) = inl (moved a b r w q p hr hw close h)
moved_along a (b ∷ rest) r w q p hr hw close (inr h) = inr (moved_along b rest r w q p hr hw close h)

-- ---- in somewhat greater capsules

-- from some number on it never holds
pub record Away (P : ℤ → Type 0) : Type 0 where
  pub bound : ℤ
  pub some : pos 1 ≤ℤ bound
  pub none : (k : ℤ) → bound ≤ℤ k → P k → ⊥

-- what is over the square of f is over that of f + t/k from some k on; all times s
outgrown : (a f t s k : ℤ) → pos 0 ≤ℤ f → pos 0 ≤ℤ t → pos 1 ≤ℤ s → (square f *ℤ s) <ℤ a → (s *ℤ ((f *ℤ t +ℤ f *ℤ t) +ℤ square t) +ℤ pos 1) ≤ℤ k → (square (k *ℤ f +ℤ t) *ℤ s) <ℤ (square k *ℤ a)
outgrown a f t s k hf ht hs over from =
    let tt0 : pos 0 ≤ℤ (s *ℤ square t) = times_from_zero s (square t) (omega (arith, linear, hs)) (square_from_zero t) in
    let ft0 : pos 0 ≤ℤ (s *ℤ (f *ℤ t)) = times_from_zero s (f *ℤ t) (omega (arith, linear, hs)) (times_from_zero f t hf ht) in
    let u : s *ℤ ((f *ℤ t +ℤ f *ℤ t) +ℤ square t) ≡ (s *ℤ (f *ℤ t) +ℤ s *ℤ (f *ℤ t)) +ℤ s *ℤ square t = simp ring (omega (arith, linear)) in
    let hk : pos 1 ≤ℤ k = omega (arith, linear, from, u, tt0, ft0) in
    let grow : (k *ℤ (((s *ℤ (f *ℤ t) +ℤ s *ℤ (f *ℤ t)) +ℤ s *ℤ square t) +ℤ pos 1)) ≤ℤ (k *ℤ k) = times_mono k (((s *ℤ (f *ℤ t) +ℤ s *ℤ (f *ℤ t)) +ℤ s *ℤ square t) +ℤ pos 1) k (omega (arith, linear, hk)) (omega (arith, linear, from, u)) in
    let spread : k *ℤ (((s *ℤ (f *ℤ t) +ℤ s *ℤ (f *ℤ t)) +ℤ s *ℤ square t) +ℤ pos 1) ≡ ((k *ℤ (s *ℤ (f *ℤ t)) +ℤ k *ℤ (s *ℤ (f *ℤ t))) +ℤ k *ℤ (s *ℤ square t)) +ℤ k = simp ring (omega (arith, linear)) in
    let more : pos 0 ≤ℤ ((k -ℤ pos 1) *ℤ (s *ℤ square t)) = times_from_zero (k -ℤ pos 1) (s *ℤ square t) (omega (arith, linear, hk)) tt0 in
    let more_is : (k -ℤ pos 1) *ℤ (s *ℤ square t) ≡ k *ℤ (s *ℤ square t) -ℤ s *ℤ square t = simp ring (omega (arith, linear)) in
    let left : square (k *ℤ f +ℤ t) *ℤ s ≡ square k *ℤ (square f *ℤ s) +ℤ ((k *ℤ (s *ℤ (f *ℤ t)) +ℤ k *ℤ (s *ℤ (f *ℤ t))) +ℤ s *ℤ square t) = simp ring (omega (arith, linear)) in
    let right : (square k *ℤ (square f *ℤ s +ℤ pos 1)) ≤ℤ (square k *ℤ a) = times_mono (square k) (square f *ℤ s +ℤ pos 1) a (square_from_zero k) (omega (arith, linear, over)) in
    let right_is : square k *ℤ (square f *ℤ s +ℤ pos 1) ≡ square k *ℤ (square f *ℤ s) +ℤ k *ℤ k = simp ring (omega (arith, linear)) in
    omega (arith, linear, left, right, right_is, grow, spread, more, more_is, hk)

least_bound : (f t s : ℤ) → pos 0 ≤ℤ f → pos 0 ≤ℤ t → pos 1 ≤ℤ s → pos 1 ≤ℤ (s *ℤ ((f *ℤ t +ℤ f *ℤ t) +ℤ square t) +ℤ pos 1)
least_bound f t s hf ht hs = omega (arith, linear, times_from_zero s ((f *ℤ t +ℤ f *ℤ t) +ℤ square t) (omega (arith, linear, hs)) (omega (arith, linear, times_from_zero f t hf ht, square_from_zero t)))

module _ (f t : ℤ) (hf : pos 0 ≤ℤ f) (ht : pos 0 ≤ℤ t) where
  -- w is before the start
  at_first : (vx vy wx wy : ℤ) → (wx *ℤ vx +ℤ wy *ℤ vy) ≤ℤ pos 0 → Near vx vy wx wy f ⊎ Away (λ k. Near (k *ℤ vx) (k *ℤ vy) (k *ℤ wx) (k *ℤ wy) (k *ℤ f +ℤ t))
  at_first vx vy wx wy back = elim (le_or_lt (square wx +ℤ square wy) (square f)) [
    | inl l ↦ inl (at_start vx vy wx wy f l)
    | inr l ↦ inr (record { bound = pos 1 *ℤ ((f *ℤ t +ℤ f *ℤ t) +ℤ square t) +ℤ pos 1; some = least_bound f t (pos 1) hf ht one; none = none l })
  ]
    where
      one : pos 1 ≤ℤ pos 1
      one = omega (arith, ints)

      seen : (k : ℤ) → (k *ℤ wx) *ℤ (k *ℤ vx) +ℤ (k *ℤ wy) *ℤ (k *ℤ vy) ≡ square k *ℤ (wx *ℤ vx +ℤ wy *ℤ vy)
      seen k = simp ring (omega (arith, linear))

      lengths : (k : ℤ) → square (k *ℤ wx) +ℤ square (k *ℤ wy) ≡ square k *ℤ (square wx +ℤ square wy)
      lengths k = simp ring (omega (arith, linear))

      none_of : (k : ℤ) → square k *ℤ pos 0 ≡ pos 0
      none_of k = simp ring

      once : (z : ℤ) → z *ℤ pos 1 ≡ z
      once z = simp ring

      none : square f <ℤ (square wx +ℤ square wy) → (k : ℤ) → (pos 1 *ℤ ((f *ℤ t +ℤ f *ℤ t) +ℤ square t) +ℤ pos 1) ≤ℤ k → Near (k *ℤ vx) (k *ℤ vy) (k *ℤ wx) (k *ℤ wy) (k *ℤ f +ℤ t) → ⊥
      none l k from h =
          let g : (square (k *ℤ wx) +ℤ square (k *ℤ wy)) ≤ℤ square (k *ℤ f +ℤ t) = before_start (k *ℤ vx) (k *ℤ vy) (k *ℤ wx) (k *ℤ wy) (k *ℤ f +ℤ t) (omega (arith, linear, seen k, times_mono (square k) (wx *ℤ vx +ℤ wy *ℤ vy) (pos 0) (square_from_zero k) back, none_of k)) h in
          let o : (square (k *ℤ f +ℤ t) *ℤ pos 1) <ℤ (square k *ℤ (square wx +ℤ square wy)) = outgrown (square wx +ℤ square wy) f t (pos 1) k hf ht one (omega (arith, linear, l, once (square f))) from in
          omega (arith, linear, g, o, lengths k, once (square (k *ℤ f +ℤ t)))

  at_last : (vx vy wx wy : ℤ) → (square vx +ℤ square vy) ≤ℤ (wx *ℤ vx +ℤ wy *ℤ vy) → Near vx vy wx wy f ⊎ Away (λ k. Near (k *ℤ vx) (k *ℤ vy) (k *ℤ wx) (k *ℤ wy) (k *ℤ f +ℤ t))
  at_last vx vy wx wy past = elim (at_first (neg_ℤ vx) (neg_ℤ vy) (wx -ℤ vx) (wy -ℤ vy) (behind wx wy vx vy past)) [
    | inl h ↦ inl (same_near (omega (arith, linear)) (omega (arith, linear)) (omega (arith, linear)) (omega (arith, linear)) (turn (neg_ℤ vx) (neg_ℤ vy) (wx -ℤ vx) (wy -ℤ vy) f h))
    | inr w ↦ inr (record { bound = w.bound; some = w.some; none = λ k from h. w.none k from (same_near (flip k vx) (flip k vy) (minus k wx vx) (minus k wy vy) (turn (k *ℤ vx) (k *ℤ vy) (k *ℤ wx) (k *ℤ wy) (k *ℤ f +ℤ t) h)) })
  ]
    where
      behind : (wx wy ux uy : ℤ) → (square ux +ℤ square uy) ≤ℤ (wx *ℤ ux +ℤ wy *ℤ uy) → ((wx -ℤ ux) *ℤ neg_ℤ ux +ℤ (wy -ℤ uy) *ℤ neg_ℤ uy) ≤ℤ pos 0
      behind wx wy ux uy k = simp ring (omega (arith, linear, k))

      flip : (k v : ℤ) → neg_ℤ (k *ℤ v) ≡ k *ℤ neg_ℤ v
      flip k v = simp ring

      minus : (k w v : ℤ) → k *ℤ w -ℤ k *ℤ v ≡ k *ℤ (w -ℤ v)
      minus k w v = simp ring (omega (arith, linear))

  -- beside it
  between : (vx vy wx wy : ℤ) → pos 0 <ℤ (wx *ℤ vx +ℤ wy *ℤ vy) → (wx *ℤ vx +ℤ wy *ℤ vy) <ℤ (square vx +ℤ square vy) → Near vx vy wx wy f ⊎ Away (λ k. Near (k *ℤ vx) (k *ℤ vy) (k *ℤ wx) (k *ℤ wy) (k *ℤ f +ℤ t))
  between vx vy wx wy from to = elim (le_or_lt (square (vx *ℤ wy -ℤ vy *ℤ wx)) (square f *ℤ (square vx +ℤ square vy))) [
    | inl l ↦ inl (at_foot vx vy wx wy f (omega (arith, linear, from)) (omega (arith, linear, to)) some l)
    | inr l ↦ inr (record { bound = (square vx +ℤ square vy) *ℤ ((f *ℤ t +ℤ f *ℤ t) +ℤ square t) +ℤ pos 1; some = least_bound f t (square vx +ℤ square vy) hf ht some; none = none l })
  ]
    where
      some : pos 1 ≤ℤ (square vx +ℤ square vy)
      some = omega (arith, linear, from, to)

      seen : (k : ℤ) → square ((k *ℤ vx) *ℤ (k *ℤ wy) -ℤ (k *ℤ vy) *ℤ (k *ℤ wx)) ≡ square k *ℤ (square k *ℤ square (vx *ℤ wy -ℤ vy *ℤ wx))
      seen k = by k (vx *ℤ wy -ℤ vy *ℤ wx) ((k *ℤ vx) *ℤ (k *ℤ wy) -ℤ (k *ℤ vy) *ℤ (k *ℤ wx)) (simp ring (omega (arith, linear)))
        where
          by : (k u z : ℤ) → z ≡ k *ℤ (k *ℤ u) → square z ≡ square k *ℤ (square k *ℤ square u)
          by k u z e = rw e (simp ring)

      lengths : (k g : ℤ) → square g *ℤ (square (k *ℤ vx) +ℤ square (k *ℤ vy)) ≡ square k *ℤ (square g *ℤ (square vx +ℤ square vy))
      lengths k g = simp ring (omega (arith, linear))

      none : (square f *ℤ (square vx +ℤ square vy)) <ℤ square (vx *ℤ wy -ℤ vy *ℤ wx) → (k : ℤ) → ((square vx +ℤ square vy) *ℤ ((f *ℤ t +ℤ f *ℤ t) +ℤ square t) +ℤ pos 1) ≤ℤ k → Near (k *ℤ vx) (k *ℤ vy) (k *ℤ wx) (k *ℤ wy) (k *ℤ f +ℤ t) → ⊥
      none l k least h =
          let hk : pos 1 ≤ℤ k = omega (arith, linear, least, least_bound f t (square vx +ℤ square vy) hf ht some) in
          let g : square ((k *ℤ vx) *ℤ (k *ℤ wy) -ℤ (k *ℤ vy) *ℤ (k *ℤ wx)) ≤ℤ (square (k *ℤ f +ℤ t) *ℤ (square (k *ℤ vx) +ℤ square (k *ℤ vy))) = beside (k *ℤ vx) (k *ℤ vy) (k *ℤ wx) (k *ℤ wy) (k *ℤ f +ℤ t) h in
          let c : (square k *ℤ square (vx *ℤ wy -ℤ vy *ℤ wx)) ≤ℤ (square (k *ℤ f +ℤ t) *ℤ (square vx +ℤ square vy)) = times_cancel (square k) (square k *ℤ square (vx *ℤ wy -ℤ vy *ℤ wx)) (square (k *ℤ f +ℤ t) *ℤ (square vx +ℤ square vy)) (over_zero k k hk hk) (rw (seen k, lengths k (k *ℤ f +ℤ t)) at g) in
          let o : (square (k *ℤ f +ℤ t) *ℤ (square vx +ℤ square vy)) <ℤ (square k *ℤ square (vx *ℤ wy -ℤ vy *ℤ wx)) = outgrown (square (vx *ℤ wy -ℤ vy *ℤ wx)) f t (square vx +ℤ square vy) k hf ht some l least in
          omega (arith, linear, c, o)

  near_closed : (vx vy wx wy : ℤ) → Near vx vy wx wy f ⊎ Away (λ k. Near (k *ℤ vx) (k *ℤ vy) (k *ℤ wx) (k *ℤ wy) (k *ℤ f +ℤ t))
  near_closed vx vy wx wy = elim (le_or_lt (wx *ℤ vx +ℤ wy *ℤ vy) (pos 0)) [
    | inl l ↦ at_first vx vy wx wy l
    | inr g ↦ elim (le_or_lt (square vx +ℤ square vy) (wx *ℤ vx +ℤ wy *ℤ vy)) [ inl l ↦ at_last vx vy wx wy l | inr k ↦ between vx vy wx wy g k ]
  ]

-- a capsule, by ways from its start
way : (m x n a b i : ℤ) → m *ℤ (x -ℤ n *ℤ a) -ℤ i *ℤ (n *ℤ (b -ℤ a)) ≡ m *ℤ x -ℤ n *ℤ (m *ℤ a +ℤ i *ℤ (b -ℤ a))
way m x n a b i = simp ring (omega (arith, linear))

radius : (m n r : ℤ) → m *ℤ (n *ℤ r) ≡ n *ℤ m *ℤ r
radius m n r = simp ring

by_ways : (a b : Spot) (r : ℤ) (p : Point) → InCapsule a b r p → Near (p.n *ℤ (b.x -ℤ a.x)) (p.n *ℤ (b.y -ℤ a.y)) (p.x -ℤ p.n *ℤ a.x) (p.y -ℤ p.n *ℤ a.y) (p.n *ℤ r)
by_ways a b r p h = record { j = h.i; m = h.m; from_start = h.from_start; to_end = h.to_end; positive = h.positive; near = rw (way h.m p.x p.n a.x b.x h.i, way h.m p.y p.n a.y b.y h.i, radius h.m p.n r) h.near }

from_ways : (a b : Spot) (r : ℤ) (p : Point) → Near (p.n *ℤ (b.x -ℤ a.x)) (p.n *ℤ (b.y -ℤ a.y)) (p.x -ℤ p.n *ℤ a.x) (p.y -ℤ p.n *ℤ a.y) (p.n *ℤ r) → InCapsule a b r p
from_ways a b r p h = record { i = h.j; m = h.m; from_start = h.from_start; to_end = h.to_end; positive = h.positive; near = rw (way h.m p.x p.n a.x b.x h.j, way h.m p.y p.n a.y b.y h.j, radius h.m p.n r) at h.near }

near_of : {vx vy wx wy r ux uy zx zy q : ℤ} → vx ≡ ux → vy ≡ uy → wx ≡ zx → wy ≡ zy → r ≡ q → Near vx vy wx wy r → Near ux uy zx zy q
near_of p q s t u n = rw (← p, ← q, ← s, ← t, ← u) n

module _ (r : ℤ) (hr : pos 0 ≤ℤ r) (p : Point) where
  capsule_closed : (a b : Spot) → InCapsule a b r p ⊎ Away (λ k. InCapsule (grown k a) (grown k b) (k *ℤ r +ℤ pos 2) (grown_point k p))
  capsule_closed a b = elim (near_closed (p.n *ℤ r) (p.n *ℤ pos 2) (times_from_zero p.n r hn hr) (times_from_zero p.n (pos 2) hn (omega (arith, ints))) (p.n *ℤ (b.x -ℤ a.x)) (p.n *ℤ (b.y -ℤ a.y)) (p.x -ℤ p.n *ℤ a.x) (p.y -ℤ p.n *ℤ a.y)) [
    | inl h ↦ inl (from_ways a b r p h)
    | inr w ↦ inr (record { bound = w.bound; some = w.some; none = λ k from h. w.none k from (near_of (along k p.n b.x a.x) (along k p.n b.y a.y) (there k p.x p.n a.x) (there k p.y p.n a.y) (wide k p.n r) (by_ways (grown k a) (grown k b) (k *ℤ r +ℤ pos 2) (grown_point k p) h)) })
  ]
    where
      hn : pos 0 ≤ℤ p.n
      hn = omega (arith, linear, p.positive)

      along : (k n b a : ℤ) → n *ℤ (k *ℤ b -ℤ k *ℤ a) ≡ k *ℤ (n *ℤ (b -ℤ a))
      along k n b a = simp ring (omega (arith, linear))

      there : (k x n a : ℤ) → k *ℤ x -ℤ n *ℤ (k *ℤ a) ≡ k *ℤ (x -ℤ n *ℤ a)
      there k x n a = simp ring (omega (arith, linear))

      wide : (k n r : ℤ) → n *ℤ (k *ℤ r +ℤ pos 2) ≡ k *ℤ (n *ℤ r) +ℤ n *ℤ pos 2
      wide k n r = simp ring (omega (arith, linear))

  chain_closed : (a : Spot) (rest : List Spot) → InFrom a rest r p ⊎ Away (λ k. InFrom (grown k a) (map (grown k) rest) (k *ℤ r +ℤ pos 2) (grown_point k p))
  chain_closed a [] = inr (record { bound = pos 1; some = omega (arith, ints); none = λ k from none. absurd none })
  chain_closed a (b ∷ rest) = elim (capsule_closed a b) [
    | inl h ↦ inl (inl h)
    | inr w ↦ elim (chain_closed b rest) [ inl h ↦ inl (inr h) | inr v ↦ inr (record { bound = w.bound +ℤ v.bound; some = omega (arith, linear, w.some, v.some); none = λ k from. neither k (w.none k (omega (arith, linear, from, v.some))) (v.none k (omega (arith, linear, from, w.some))) }) ]
  ]
    where
      neither : (k : ℤ) → (InCapsule (grown k a) (grown k b) (k *ℤ r +ℤ pos 2) (grown_point k p) → ⊥) → (InFrom (grown k b) (map (grown k) rest) (k *ℤ r +ℤ pos 2) (grown_point k p) → ⊥) → InFrom (grown k a) (map (grown k) (b ∷ rest)) (k *ℤ r +ℤ pos 2) (grown_point k p) → ⊥
      neither k first later (inl h) = first h
      neither k first later (inr h) = later h

  closed : (a : Spot) (rest : List Spot) → ((k : ℤ) → pos 1 ≤ℤ k → InFrom (grown k a) (map (grown k) rest) (k *ℤ r +ℤ pos 2) (grown_point k p)) → InFrom a rest r p
  closed a rest each = elim (chain_closed a rest) [ inl h ↦ h | inr w ↦ absurd (w.none w.bound (omega (arith, linear)) (each w.bound w.some)) ]

-- ---- above

-- half a pen and 1/k, seen at k times its size
near_grown : (k half width : ℤ) (z p : Point) → pos 1 ≤ℤ k → pos 0 ≤ℤ width → width ≤ℤ (half +ℤ half) → AreNearBy (pos 2 *ℤ k) (k *ℤ width +ℤ pos 2) z p → AreNear (k *ℤ half +ℤ pos 1) (grown_point k z) (grown_point k p)
near_grown k half width z p some from wide h = by z.x z.y z.n p.x p.y p.n z.positive p.positive h
  where
    hk : pos 0 ≤ℤ k
    hk = omega (arith, linear, some)

    left : (x y n x' y' m : ℤ) → square (pos 2 *ℤ k) *ℤ (square (m *ℤ x -ℤ n *ℤ x') +ℤ square (m *ℤ y -ℤ n *ℤ y')) ≡ pos 4 *ℤ (square (m *ℤ (k *ℤ x) -ℤ n *ℤ (k *ℤ x')) +ℤ square (m *ℤ (k *ℤ y) -ℤ n *ℤ (k *ℤ y')))
    left x y n x' y' m = twice (m *ℤ x -ℤ n *ℤ x') (m *ℤ y -ℤ n *ℤ y') (m *ℤ (k *ℤ x) -ℤ n *ℤ (k *ℤ x')) (m *ℤ (k *ℤ y) -ℤ n *ℤ (k *ℤ y')) (out m n x x') (out m n y y')
      where
        out : (m n x x' : ℤ) → m *ℤ (k *ℤ x) -ℤ n *ℤ (k *ℤ x') ≡ k *ℤ (m *ℤ x -ℤ n *ℤ x')
        out m n x x' = simp ring (omega (arith, linear))

        four : square (pos 2 *ℤ k) ≡ pos 4 *ℤ square k
        four = rw (doubled k) (omega (arith, linear, doubled_square k, times_four (square k)))
          where
            doubled : (k : ℤ) → pos 2 *ℤ k ≡ k +ℤ k
            doubled k = omega (arith, ints)

            times_four : (z : ℤ) → pos 4 *ℤ z ≡ ((z +ℤ z) +ℤ z) +ℤ z
            times_four z = omega (arith, ints)

            doubled_square : (k : ℤ) → square (k +ℤ k) ≡ ((square k +ℤ square k) +ℤ square k) +ℤ square k
            doubled_square k = simp ring (omega (arith, linear))

        twice : (u v u' v' : ℤ) → u' ≡ k *ℤ u → v' ≡ k *ℤ v → square (pos 2 *ℤ k) *ℤ (square u +ℤ square v) ≡ pos 4 *ℤ (square u' +ℤ square v')
        twice u v u' v' e f = rw (e, f, four) (simp ring (omega (arith, linear)))

    by : (x y n x' y' m : ℤ) → pos 1 ≤ℤ n → pos 1 ≤ℤ m → (square (pos 2 *ℤ k) *ℤ (square (m *ℤ x -ℤ n *ℤ x') +ℤ square (m *ℤ y -ℤ n *ℤ y'))) ≤ℤ square (n *ℤ m *ℤ (k *ℤ width +ℤ pos 2))
        → (square (m *ℤ (k *ℤ x) -ℤ n *ℤ (k *ℤ x')) +ℤ square (m *ℤ (k *ℤ y) -ℤ n *ℤ (k *ℤ y'))) ≤ℤ square (n *ℤ m *ℤ (k *ℤ half +ℤ pos 1))
    by x y n x' y' m hn hm h =
        let nm : pos 0 ≤ℤ (n *ℤ m) = times_from_zero n m (omega (arith, linear, hn)) (omega (arith, linear, hm)) in
        let kw : pos 0 ≤ℤ (k *ℤ width) = times_from_zero k width hk from in
        let l : (k *ℤ width) ≤ℤ (k *ℤ (half +ℤ half)) = times_mono k width (half +ℤ half) hk wide in
        let e : k *ℤ (half +ℤ half) ≡ k *ℤ half +ℤ k *ℤ half = simp ring in
        let two : pos 2 ≡ pos 1 +ℤ pos 1 = omega (arith, ints) in
        let f : (n *ℤ m *ℤ (k *ℤ width +ℤ pos 2)) ≤ℤ (n *ℤ m *ℤ ((k *ℤ half +ℤ pos 1) +ℤ (k *ℤ half +ℤ pos 1))) = times_mono (n *ℤ m) (k *ℤ width +ℤ pos 2) ((k *ℤ half +ℤ pos 1) +ℤ (k *ℤ half +ℤ pos 1)) nm (omega (arith, linear, l, e, two)) in
        let g : square (n *ℤ m *ℤ (k *ℤ width +ℤ pos 2)) ≤ℤ square (n *ℤ m *ℤ ((k *ℤ half +ℤ pos 1) +ℤ (k *ℤ half +ℤ pos 1))) = square_mono (n *ℤ m *ℤ (k *ℤ width +ℤ pos 2)) (n *ℤ m *ℤ ((k *ℤ half +ℤ pos 1) +ℤ (k *ℤ half +ℤ pos 1))) (times_from_zero (n *ℤ m) (k *ℤ width +ℤ pos 2) nm (omega (arith, linear, kw, two))) f in
        let s : square (n *ℤ m *ℤ ((k *ℤ half +ℤ pos 1) +ℤ (k *ℤ half +ℤ pos 1))) ≡ pos 4 *ℤ square (n *ℤ m *ℤ (k *ℤ half +ℤ pos 1)) = quadruple (n *ℤ m) (k *ℤ half +ℤ pos 1) in
        times_cancel (pos 4) (square (m *ℤ (k *ℤ x) -ℤ n *ℤ (k *ℤ x')) +ℤ square (m *ℤ (k *ℤ y) -ℤ n *ℤ (k *ℤ y'))) (square (n *ℤ m *ℤ (k *ℤ half +ℤ pos 1))) (omega (arith, ints)) (omega (arith, linear, h, g, s, left x y n x' y' m))
      where
        quadruple : (u v : ℤ) → square (u *ℤ (v +ℤ v)) ≡ pos 4 *ℤ square (u *ℤ v)
        quadruple u v = omega (arith, linear, times_four (square (u *ℤ v)), spread u v)
          where
            times_four : (z : ℤ) → pos 4 *ℤ z ≡ ((z +ℤ z) +ℤ z) +ℤ z
            times_four z = omega (arith, ints)

            spread : (u v : ℤ) → square (u *ℤ (v +ℤ v)) ≡ ((square (u *ℤ v) +ℤ square (u *ℤ v)) +ℤ square (u *ℤ v)) +ℤ square (u *ℤ v)
            spread u v = simp ring (omega (arith, linear))

pub above_read : (arc : Arc) (chain : List Spot) (r half : ℕ) (near far : ℤ) (b : Spot) (rest : List Spot) → arc.width ≤ half + half → half ≤ r → HasRoom (inmost arc) (outmost arc) near far (pos (r - half)) → chain ≡ arc.start ∷ b ∷ rest → IsMeant arc
    → EachFrom (IsChord arc.centre near far) arc.start (b ∷ rest) → EndsAt arc.end b rest → (p : Point) → Possibly arc p → InChain chain (pos r) p
above_read arc chain r half near far b rest wide l room e meant all last p h =
    subst (λ (xs : List Spot). InChain xs (pos r) p) (sym e) (closed (pos r) (omega (arith, ints)) p arc.start (b ∷ rest) each)
  where
    sum : (k r h : ℤ) → (pos 1 +ℤ k *ℤ r) +ℤ (k *ℤ h +ℤ pos 1) ≡ k *ℤ (r +ℤ h) +ℤ pos 2
    sum k r h = let two : pos 2 ≡ pos 1 +ℤ pos 1 = omega (arith, ints) in let e : k *ℤ (r +ℤ h) ≡ k *ℤ r +ℤ k *ℤ h = simp ring in omega (arith, linear, two, e)

    each : (k : ℤ) → pos 1 ≤ℤ k → InFrom (grown k arc.start) (map (grown k) (b ∷ rest)) (k *ℤ pos r +ℤ pos 2) (grown_point k p)
    each k some =
        let q : HasPlace arc k p = h meant k some in
        let hk : pos 0 ≤ℤ k = omega (arith, linear, some) in
        let on : InFrom (grown k arc.start) (map (grown k) (b ∷ rest)) (pos 1 +ℤ k *ℤ pos (r - half)) (grown_point k q.place) = place_held k some arc.centre arc.start arc.end (inmost arc) (outmost arc) near far (pos (r - half)) room arc.start b rest refl all last q.place q.turn q.ring in
        let close : AreNear (k *ℤ pos half +ℤ pos 1) (grown_point k q.place) (grown_point k p) = near_grown k (pos half) (pos arc.width) q.place p some (omega (arith, ints)) (omega (arith, ints, wide)) q.near in
        let w : pos (r - half) +ℤ pos half ≡ pos r = omega (arith, ints, l) in
        subst (λ (z : ℤ). InFrom (grown k arc.start) (map (grown k) (b ∷ rest)) (k *ℤ z +ℤ pos 2) (grown_point k p)) w
        (subst (λ (z : ℤ). InFrom (grown k arc.start) (map (grown k) (b ∷ rest)) z (grown_point k p)) (sum k (pos (r - half)) (pos half))
        (moved_along (grown k arc.start) (map (grown k) (b ∷ rest)) (pos 1 +ℤ k *ℤ pos (r - half)) (k *ℤ pos half +ℤ pos 1) (grown_point k q.place) (grown_point k p)
        (omega (arith, linear, times_from_zero k (pos (r - half)) hk (omega (arith, ints)))) (omega (arith, linear, times_from_zero k (pos half) hk (omega (arith, ints)))) close on))
