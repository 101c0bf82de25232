-- Where both ends are at one distance, what is possible is sure.
use Rattle.std.proofs.Common.{◌≡◌, ◌⊎◌, inl, inr, ℤ, pos, neg_ℤ, ◌+ℤ◌, ◌-ℤ◌, ◌*ℤ◌, ◌≤ℤ◌, ◌<ℤ◌, arith, refl, sym, ap, ◌∙◌, subst}
use Rattle.std.proofs.lemmas.Int.{ints}
use Rattle.planar.specs.declared.Spot.{Spot}
use Rattle.planar.specs.Plane.{Point, cross_of, dot_of, square}
use Rattle.planar.proofs.Ring.{ring, linear, le_or_lt, mul_assoc, over_zero, square_cancel, square_from_zero, square_mono, times_cancel, times_from_zero, times_mono, times-zero}
use Rattle.planar.proofs.SpotWithin.{whole_from_zero}
use Rattle.arcs.specs.declared.Arc.{Arc}
use Rattle.arcs.specs.Copper.{AreNear, AtMostLonger, HasPlace, InRing, InTurn, IsMeant, IsNear, MayTurn, Possibly, Surely, apart, inmost, outmost, reach_of, side_of, unlike}
use Rattle.arcs.specs.Laws.{PossiblyIsSurely}
use Rattle.arcs.proofs.Closed.{Away}
use Rattle.arcs.proofs.Crossing.{Crossed, near_end, from_less, from_more, from_half}
use Rattle.arcs.proofs.Ends.{is_left, is_right, point_side}
use Rattle.arcs.proofs.Places.{Root, root_of}
use Rattle.arcs.proofs.Radii.{end_is, inmost_is, outmost_is}
use Rattle.arcs.proofs.Ring.{is_longer_by, only_pen}
use Rattle.arcs.proofs.Ring.{longer_by as longer_of}
use Rattle.arcs.proofs.Whole.{longer_by}
use Rattle.arcs.proofs.Vectors.{lagrange, norm, norm_from_zero, norm_none, norm_scaled, scaled, scaled_over, square_scaled, sum_within, part_over, unscaled, unscaled_over}

-- ---- a length that is at most w + m/k longer, for each k

module _ (w m a b : ℤ) (hw : pos 0 ≤ℤ w) (hm : pos 0 ≤ℤ m) (hb : pos 0 ≤ℤ b) where
  abbrev G : ℤ
  G = a -ℤ b -ℤ square w

  abbrev D : ℤ
  D = (w *ℤ m +ℤ w *ℤ m) +ℤ square m

  d0 : pos 0 ≤ℤ D
  d0 = omega (arith, linear, times_from_zero w m hw hm, square_from_zero m)

  abbrev bound : ℤ
  bound = D *ℤ ((G +ℤ G) +ℤ ((b +ℤ b) +ℤ (b +ℤ b))) +ℤ (D +ℤ pos 1)

  module _ (over : pos 1 ≤ℤ G) (long : (square (w +ℤ w) *ℤ b) <ℤ square G) where
    some : pos 1 ≤ℤ bound
    some = omega (arith, linear, d0, times_from_zero D ((G +ℤ G) +ℤ ((b +ℤ b) +ℤ (b +ℤ b))) d0 (omega (arith, linear, over, hb)))

    none : (k : ℤ) → bound ≤ℤ k → AtMostLonger (k *ℤ w +ℤ m) (square k *ℤ a) (square k *ℤ b) → ⊥
    none k from h = by G D over d0 gap wide long from h
      where
        dG : pos 0 ≤ℤ (D *ℤ ((G +ℤ G) +ℤ ((b +ℤ b) +ℤ (b +ℤ b))))
        dG = times_from_zero D ((G +ℤ G) +ℤ ((b +ℤ b) +ℤ (b +ℤ b))) d0 (omega (arith, linear, over, hb))

        hk : pos 1 ≤ℤ k
        hk = omega (arith, linear, from, d0, dG)

        more : square m ≤ℤ (k *ℤ square m)
        more = let f : pos 0 ≤ℤ ((k -ℤ pos 1) *ℤ square m) = times_from_zero (k -ℤ pos 1) (square m) (omega (arith, linear, hk)) (square_from_zero m) in let e : (k -ℤ pos 1) *ℤ square m ≡ k *ℤ square m -ℤ square m = simp ring (omega (arith, linear)) in omega (arith, linear, f, e)

        -- the pen's square
        pen : square (k *ℤ w +ℤ m) ≤ℤ (square k *ℤ square w +ℤ k *ℤ D)
        pen = let e : square (k *ℤ w +ℤ m) ≡ square k *ℤ square w +ℤ ((k *ℤ (w *ℤ m) +ℤ k *ℤ (w *ℤ m)) +ℤ square m) = simp ring (omega (arith, linear)) in let f : k *ℤ D ≡ (k *ℤ (w *ℤ m) +ℤ k *ℤ (w *ℤ m)) +ℤ k *ℤ square m = simp ring (omega (arith, linear)) in omega (arith, linear, e, f, more)

        gap : (k *ℤ (k *ℤ G -ℤ D)) ≤ℤ (square k *ℤ a -ℤ square k *ℤ b -ℤ square (k *ℤ w +ℤ m))
        gap = let e : k *ℤ (k *ℤ G -ℤ D) ≡ square k *ℤ a -ℤ square k *ℤ b -ℤ (square k *ℤ square w +ℤ k *ℤ D) = plain k a b (square w) D in omega (arith, linear, e, pen)
          where
            plain : (k a b s d : ℤ) → k *ℤ (k *ℤ (a -ℤ b -ℤ s) -ℤ d) ≡ square k *ℤ a -ℤ square k *ℤ b -ℤ (square k *ℤ s +ℤ k *ℤ d)
            plain k a b s d = simp ring (omega (arith, linear))

        wide : (square ((k *ℤ w +ℤ m) +ℤ (k *ℤ w +ℤ m)) *ℤ (square k *ℤ b)) ≤ℤ (square k *ℤ (square k *ℤ (square (w +ℤ w) *ℤ b) +ℤ k *ℤ (D *ℤ ((b +ℤ b) +ℤ (b +ℤ b)))))
        wide =
            let e : square ((k *ℤ w +ℤ m) +ℤ (k *ℤ w +ℤ m)) *ℤ (square k *ℤ b) ≡ (square k *ℤ ((b +ℤ b) +ℤ (b +ℤ b))) *ℤ square (k *ℤ w +ℤ m) = first (k *ℤ w +ℤ m) k b in
            let f : ((square k *ℤ ((b +ℤ b) +ℤ (b +ℤ b))) *ℤ square (k *ℤ w +ℤ m)) ≤ℤ ((square k *ℤ ((b +ℤ b) +ℤ (b +ℤ b))) *ℤ (square k *ℤ square w +ℤ k *ℤ D)) = times_mono (square k *ℤ ((b +ℤ b) +ℤ (b +ℤ b))) (square (k *ℤ w +ℤ m)) (square k *ℤ square w +ℤ k *ℤ D) (times_from_zero (square k) ((b +ℤ b) +ℤ (b +ℤ b)) (square_from_zero k) (omega (arith, linear, hb))) pen in
            omega (arith, linear, e, f, last k b w D)
          where
            first : (u k b : ℤ) → square (u +ℤ u) *ℤ (square k *ℤ b) ≡ (square k *ℤ ((b +ℤ b) +ℤ (b +ℤ b))) *ℤ square u
            first u k b = simp ring (omega (arith, linear))

            last : (k b w d : ℤ) → (square k *ℤ ((b +ℤ b) +ℤ (b +ℤ b))) *ℤ (square k *ℤ square w +ℤ k *ℤ d) ≡ square k *ℤ (square k *ℤ (square (w +ℤ w) *ℤ b) +ℤ k *ℤ (d *ℤ ((b +ℤ b) +ℤ (b +ℤ b))))
            last k b w d = simp ring (omega (arith, linear))

        by : (g d : ℤ) → pos 1 ≤ℤ g → pos 0 ≤ℤ d → (k *ℤ (k *ℤ g -ℤ d)) ≤ℤ (square k *ℤ a -ℤ square k *ℤ b -ℤ square (k *ℤ w +ℤ m))
            → (square ((k *ℤ w +ℤ m) +ℤ (k *ℤ w +ℤ m)) *ℤ (square k *ℤ b)) ≤ℤ (square k *ℤ (square k *ℤ (square (w +ℤ w) *ℤ b) +ℤ k *ℤ (d *ℤ ((b +ℤ b) +ℤ (b +ℤ b)))))
            → (square (w +ℤ w) *ℤ b) <ℤ square g → (d *ℤ ((g +ℤ g) +ℤ ((b +ℤ b) +ℤ (b +ℤ b))) +ℤ (d +ℤ pos 1)) ≤ℤ k → AtMostLonger (k *ℤ w +ℤ m) (square k *ℤ a) (square k *ℤ b) → ⊥
        by g d hg hd gap wide long from h = elim h [
          | inl l ↦ omega (arith, linear, l, gap, over_zero k (k *ℤ g -ℤ d) hk left)
          | inr l ↦ (
              let f : square (k *ℤ (k *ℤ g -ℤ d)) ≤ℤ square (square k *ℤ a -ℤ square k *ℤ b -ℤ square (k *ℤ w +ℤ m)) = square_mono (k *ℤ (k *ℤ g -ℤ d)) (square k *ℤ a -ℤ square k *ℤ b -ℤ square (k *ℤ w +ℤ m)) (omega (arith, linear, over_zero k (k *ℤ g -ℤ d) hk left)) gap in
              let e : square (k *ℤ (k *ℤ g -ℤ d)) ≡ square k *ℤ (square k *ℤ square g -ℤ k *ℤ (d *ℤ (g +ℤ g)) +ℤ square d) = opened k g d in
              let c : (square k *ℤ square g -ℤ k *ℤ (d *ℤ (g +ℤ g)) +ℤ square d) ≤ℤ (square k *ℤ (square (w +ℤ w) *ℤ b) +ℤ k *ℤ (d *ℤ ((b +ℤ b) +ℤ (b +ℤ b)))) = times_cancel (square k) (square k *ℤ square g -ℤ k *ℤ (d *ℤ (g +ℤ g)) +ℤ square d) (square k *ℤ (square (w +ℤ w) *ℤ b) +ℤ k *ℤ (d *ℤ ((b +ℤ b) +ℤ (b +ℤ b)))) (over_zero k k hk hk) (omega (arith, linear, f, e, l, wide)) in
              let o : (square k *ℤ (square (w +ℤ w) *ℤ b +ℤ pos 1)) ≤ℤ (square k *ℤ square g) = times_mono (square k) (square (w +ℤ w) *ℤ b +ℤ pos 1) (square g) (square_from_zero k) (omega (arith, linear, long)) in
              let i : square k *ℤ (square (w +ℤ w) *ℤ b +ℤ pos 1) ≡ square k *ℤ (square (w +ℤ w) *ℤ b) +ℤ k *ℤ k = one_more (square (w +ℤ w) *ℤ b) k in
              let t : (k *ℤ (d *ℤ ((g +ℤ g) +ℤ ((b +ℤ b) +ℤ (b +ℤ b))) +ℤ pos 1)) ≤ℤ (k *ℤ k) = times_mono k (d *ℤ ((g +ℤ g) +ℤ ((b +ℤ b) +ℤ (b +ℤ b))) +ℤ pos 1) k (omega (arith, linear, hk)) (omega (arith, linear, from, hd)) in
              let j : k *ℤ (d *ℤ ((g +ℤ g) +ℤ ((b +ℤ b) +ℤ (b +ℤ b))) +ℤ pos 1) ≡ (k *ℤ (d *ℤ (g +ℤ g)) +ℤ k *ℤ (d *ℤ ((b +ℤ b) +ℤ (b +ℤ b)))) +ℤ k = parts k g d b in
              omega (arith, linear, c, o, i, t, j, hk, square_from_zero d)
              )
        ]
          where
            left : pos 1 ≤ℤ (k *ℤ g -ℤ d)
            left =
                let f : (k *ℤ pos 1) ≤ℤ (k *ℤ g) = times_mono k (pos 1) g (omega (arith, linear, hk)) hg in
                let e : k *ℤ pos 1 ≡ k = simp ring in
                omega (arith, linear, f, e, from, times_from_zero d ((g +ℤ g) +ℤ ((b +ℤ b) +ℤ (b +ℤ b))) hd (omega (arith, linear, hg, hb)))

            opened : (k g d : ℤ) → square (k *ℤ (k *ℤ g -ℤ d)) ≡ square k *ℤ (square k *ℤ square g -ℤ k *ℤ (d *ℤ (g +ℤ g)) +ℤ square d)
            opened k g d = simp ring (omega (arith, linear))

            one_more : (z k : ℤ) → square k *ℤ (z +ℤ pos 1) ≡ square k *ℤ z +ℤ k *ℤ k
            one_more z k = simp ring (omega (arith, linear))

            parts : (k g d b : ℤ) → k *ℤ (d *ℤ ((g +ℤ g) +ℤ ((b +ℤ b) +ℤ (b +ℤ b))) +ℤ pos 1) ≡ (k *ℤ (d *ℤ (g +ℤ g)) +ℤ k *ℤ (d *ℤ ((b +ℤ b) +ℤ (b +ℤ b)))) +ℤ k
            parts k g d b = simp ring (omega (arith, linear))

  pub longer_away : AtMostLonger w a b ⊎ Away (λ k. AtMostLonger (k *ℤ w +ℤ m) (square k *ℤ a) (square k *ℤ b))
  longer_away = elim (le_or_lt G (pos 0)) [
    | inl l ↦ inl (inl l)
    | inr l ↦ elim (le_or_lt (square G) (square (w +ℤ w) *ℤ b)) [
      | inl o ↦ inl (inr o)
      | inr o ↦ inr (record { bound = bound; some = some (omega (arith, linear, l)) o; none = none (omega (arith, linear, l)) o })
    ]
  ]

  pub longer_closed : ((k : ℤ) → pos 1 ≤ℤ k → AtMostLonger (k *ℤ w +ℤ m) (square k *ℤ a) (square k *ℤ b)) → AtMostLonger w a b
  longer_closed each = elim longer_away [ inl h ↦ h | inr far ↦ absurd (far.none far.bound (omega (arith, linear)) (each far.bound far.some)) ]

-- ---- from a place of the turn the point lies in the turn, or the way to it crosses the ray through an end

module _ (c s e : Spot) (z p : Point) where
  abbrev px : ℤ
  px = z.n *ℤ (p.x -ℤ p.n *ℤ c.x)

  abbrev py : ℤ
  py = z.n *ℤ (p.y -ℤ p.n *ℤ c.y)

  abbrev qx : ℤ
  qx = p.n *ℤ (z.x -ℤ z.n *ℤ c.x)

  abbrev qy : ℤ
  qy = p.n *ℤ (z.y -ℤ z.n *ℤ c.y)

  n0 : pos 0 ≤ℤ p.n
  n0 = omega (arith, linear, p.positive)

  q_left : (s : Spot) → pos 0 ≤ℤ side_of c s z → pos 0 ≤ℤ ((s.x -ℤ c.x) *ℤ qy -ℤ (s.y -ℤ c.y) *ℤ qx)
  q_left s h = rw (point_side p.n (s.x -ℤ c.x) (s.y -ℤ c.y) (z.x -ℤ z.n *ℤ c.x) (z.y -ℤ z.n *ℤ c.y)) (times_from_zero p.n (side_of c s z) n0 h)

  q_right : (s : Spot) → side_of c s z ≤ℤ pos 0 → ((s.x -ℤ c.x) *ℤ qy -ℤ (s.y -ℤ c.y) *ℤ qx) ≤ℤ pos 0
  q_right s h = rw (point_side p.n (s.x -ℤ c.x) (s.y -ℤ c.y) (z.x -ℤ z.n *ℤ c.x) (z.y -ℤ z.n *ℤ c.y)) (omega (arith, linear, times_mono p.n (side_of c s z) (pos 0) n0 h, times-zero p.n))

  p_left : (s : Spot) → pos 0 ≤ℤ ((s.x -ℤ c.x) *ℤ py -ℤ (s.y -ℤ c.y) *ℤ px) → pos 0 ≤ℤ side_of c s p
  p_left s h = is_left z.n (s.x -ℤ c.x) (s.y -ℤ c.y) (p.x -ℤ p.n *ℤ c.x) (p.y -ℤ p.n *ℤ c.y) z.positive h

  p_right : (s : Spot) → ((s.x -ℤ c.x) *ℤ py -ℤ (s.y -ℤ c.y) *ℤ px) ≤ℤ pos 0 → side_of c s p ≤ℤ pos 0
  p_right s h = is_right z.n (s.x -ℤ c.x) (s.y -ℤ c.y) (p.x -ℤ p.n *ℤ c.x) (p.y -ℤ p.n *ℤ c.y) z.positive h

  crossing : InTurn c s e z → InTurn c s e p ⊎ (Crossed px py qx qy (s.x -ℤ c.x) (s.y -ℤ c.y) ⊎ Crossed px py qx qy (e.x -ℤ c.x) (e.y -ℤ c.y))
  crossing (inl less) = elim (from_less px py qx qy (s.x -ℤ c.x) (s.y -ℤ c.y) (e.x -ℤ c.x) (e.y -ℤ c.y) less.0 (q_left s less.1) (q_right e less.2)) [
    | inl t ↦ inl (inl (less.0, p_left s t.0, p_right e t.1))
    | inr o ↦ inr o
  ]
  crossing (inr (inl more)) = elim (from_more px py qx qy (s.x -ℤ c.x) (s.y -ℤ c.y) (e.x -ℤ c.x) (e.y -ℤ c.y) more.0 (elim more.1 [ inl h ↦ inl (q_left s h) | inr h ↦ inr (q_right e h) ])) [
    | inl t ↦ inl (inr (inl (more.0, elim t [ inl l ↦ inl (p_left s l) | inr r ↦ inr (p_right e r) ])))
    | inr o ↦ inr o
  ]
  crossing (inr (inr (inl half))) = elim (from_half px py qx qy (s.x -ℤ c.x) (s.y -ℤ c.y) (e.x -ℤ c.x) (e.y -ℤ c.y) half.0 half.1 (q_left s half.2)) [
    | inl t ↦ inl (inr (inr (inl (half.0, half.1, p_left s t))))
    | inr o ↦ inr o
  ]
  crossing (inr (inr (inr same))) = inl (inr (inr (inr same)))

-- ---- how far the point is from an end, and from the circle

swap : (k n x : ℤ) → k *ℤ (n *ℤ x) ≡ n *ℤ (k *ℤ x)
swap k n x = simp ring

-- by vectors: P and Z are n and N times the ways from the centre to the point and the place
module _ (g k w n N Px Py Zx Zy f R near : ℤ) (hg : pos 1 ≤ℤ g) (hk : pos 1 ≤ℤ k) (hw : pos 0 ≤ℤ w) (hn : pos 1 ≤ℤ n) (hN : pos 1 ≤ℤ N) (hR : pos 0 ≤ℤ R)
    (under : square R ≤ℤ (square (g *ℤ k) *ℤ f)) (over : (square (g *ℤ k) *ℤ f) ≤ℤ square (R +ℤ pos 1)) (hnear : pos 0 ≤ℤ near) (near_is : (R -ℤ g) ≤ℤ near)
    (within : norm ((g *ℤ k) *ℤ Zx) ((g *ℤ k) *ℤ Zy) ≤ℤ square (N *ℤ ((R +ℤ pos 1) +ℤ g))) (beyond : square (N *ℤ near) ≤ℤ norm ((g *ℤ k) *ℤ Zx) ((g *ℤ k) *ℤ Zy))
    (close : norm ((g *ℤ k) *ℤ (N *ℤ Px) -ℤ (g *ℤ k) *ℤ (n *ℤ Zx)) ((g *ℤ k) *ℤ (N *ℤ Py) -ℤ (g *ℤ k) *ℤ (n *ℤ Zy)) ≤ℤ square (N *ℤ n *ℤ (k *ℤ w +ℤ g))) where
  kw : pos 0 ≤ℤ (k *ℤ w)
  kw = times_from_zero k w (omega (arith, linear, hk)) hw

  Nn : pos 1 ≤ℤ (N *ℤ n)
  Nn = over_zero N n hN hn

  v0 : pos 0 ≤ℤ (k *ℤ w +ℤ g)
  v0 = omega (arith, linear, kw, hg)

  far0 : pos 0 ≤ℤ ((R +ℤ pos 1) +ℤ g)
  far0 = omega (arith, linear, hR, hg)

  radius : (far : ℤ) → n *ℤ (N *ℤ far) ≡ N *ℤ n *ℤ far
  radius far = simp ring

  place_within : norm ((g *ℤ k) *ℤ (n *ℤ Zx)) ((g *ℤ k) *ℤ (n *ℤ Zy)) ≤ℤ square (N *ℤ n *ℤ ((R +ℤ pos 1) +ℤ g))
  place_within = rw (swap (g *ℤ k) n Zx, swap (g *ℤ k) n Zy, ← (radius ((R +ℤ pos 1) +ℤ g))) (scaled n ((g *ℤ k) *ℤ Zx) ((g *ℤ k) *ℤ Zy) (N *ℤ ((R +ℤ pos 1) +ℤ g)) within)

  place_beyond : square (N *ℤ n *ℤ near) ≤ℤ norm ((g *ℤ k) *ℤ (n *ℤ Zx)) ((g *ℤ k) *ℤ (n *ℤ Zy))
  place_beyond = rw (swap (g *ℤ k) n Zx, swap (g *ℤ k) n Zy, ← (radius near)) (scaled_over n ((g *ℤ k) *ℤ Zx) ((g *ℤ k) *ℤ Zy) (N *ℤ near) beyond)

  pub by_end : (sx sy : ℤ) → norm sx sy ≡ f → Crossed (N *ℤ Px) (N *ℤ Py) (n *ℤ Zx) (n *ℤ Zy) sx sy → (square (g *ℤ k) *ℤ norm (Px -ℤ n *ℤ sx) (Py -ℤ n *ℤ sy)) ≤ℤ square (n *ℤ ((k *ℤ w +ℤ g) +ℤ (g +ℤ pos 1)))
  by_end sx sy is o =
      let s_over : square R ≤ℤ norm ((g *ℤ k) *ℤ sx) ((g *ℤ k) *ℤ sy) = rw (norm_scaled (g *ℤ k) sx sy, is) under in
      let s_within : norm ((g *ℤ k) *ℤ sx) ((g *ℤ k) *ℤ sy) ≤ℤ square (R +ℤ pos 1) = rw (norm_scaled (g *ℤ k) sx sy, is) over in
      let h : norm ((g *ℤ k) *ℤ (N *ℤ Px) -ℤ (N *ℤ n) *ℤ ((g *ℤ k) *ℤ sx)) ((g *ℤ k) *ℤ (N *ℤ Py) -ℤ (N *ℤ n) *ℤ ((g *ℤ k) *ℤ sy)) ≤ℤ square ((N *ℤ n) *ℤ ((k *ℤ w +ℤ g) +ℤ (g +ℤ pos 1))) =
      near_end (N *ℤ n) ((g *ℤ k) *ℤ (N *ℤ Px)) ((g *ℤ k) *ℤ (N *ℤ Py)) ((g *ℤ k) *ℤ (n *ℤ Zx)) ((g *ℤ k) *ℤ (n *ℤ Zy)) ((g *ℤ k) *ℤ sx) ((g *ℤ k) *ℤ sy) near ((R +ℤ pos 1) +ℤ g) R (R +ℤ pos 1) (g +ℤ pos 1) (k *ℤ w +ℤ g)
      Nn v0 (omega (arith, linear, hg)) hR (omega (arith, linear, hR)) far0 (omega (arith, linear, near_is)) (omega (arith, linear)) s_over s_within close place_within place_beyond o.f o.h o.from o.some
      (lined (g *ℤ k) sx sy o.f o.h (N *ℤ Px) (N *ℤ Py) (n *ℤ Zx) (n *ℤ Zy) o.line) (same_way (g *ℤ k) sx sy o.f o.h (N *ℤ Px) (N *ℤ Py) (n *ℤ Zx) (n *ℤ Zy) o.same) in
      rw (← (norm_scaled (g *ℤ k) (Px -ℤ n *ℤ sx) (Py -ℤ n *ℤ sy))) (unscaled N ((g *ℤ k) *ℤ (Px -ℤ n *ℤ sx)) ((g *ℤ k) *ℤ (Py -ℤ n *ℤ sy)) (n *ℤ ((k *ℤ w +ℤ g) +ℤ (g +ℤ pos 1))) hN
      (rw (← (drawn (g *ℤ k) N n Px sx), ← (drawn (g *ℤ k) N n Py sy), ← (mul_assoc N n ((k *ℤ w +ℤ g) +ℤ (g +ℤ pos 1)))) h))
    where
      drawn : (K N n x s : ℤ) → K *ℤ (N *ℤ x) -ℤ (N *ℤ n) *ℤ (K *ℤ s) ≡ N *ℤ (K *ℤ (x -ℤ n *ℤ s))
      drawn K N n x s = simp ring (omega (arith, linear))

      lined : (K sx sy f h px py qx qy : ℤ) → sx *ℤ (h *ℤ qy +ℤ f *ℤ py) -ℤ sy *ℤ (h *ℤ qx +ℤ f *ℤ px) ≡ pos 0 → (K *ℤ sx) *ℤ (h *ℤ (K *ℤ qy) +ℤ f *ℤ (K *ℤ py)) -ℤ (K *ℤ sy) *ℤ (h *ℤ (K *ℤ qx) +ℤ f *ℤ (K *ℤ px)) ≡ pos 0
      lined K sx sy f h px py qx qy e =
          let i : (K *ℤ sx) *ℤ (h *ℤ (K *ℤ qy) +ℤ f *ℤ (K *ℤ py)) -ℤ (K *ℤ sy) *ℤ (h *ℤ (K *ℤ qx) +ℤ f *ℤ (K *ℤ px)) ≡ square K *ℤ (sx *ℤ (h *ℤ qy +ℤ f *ℤ py) -ℤ sy *ℤ (h *ℤ qx +ℤ f *ℤ px)) = simp ring (omega (arith, linear)) in
          i ∙ (ap (λ (z : ℤ). square K *ℤ z) e ∙ times-zero (square K))

      same_way : (K sx sy f h px py qx qy : ℤ) → pos 0 ≤ℤ (sx *ℤ (h *ℤ qx +ℤ f *ℤ px) +ℤ sy *ℤ (h *ℤ qy +ℤ f *ℤ py)) → pos 0 ≤ℤ ((K *ℤ sx) *ℤ (h *ℤ (K *ℤ qx) +ℤ f *ℤ (K *ℤ px)) +ℤ (K *ℤ sy) *ℤ (h *ℤ (K *ℤ qy) +ℤ f *ℤ (K *ℤ py)))
      same_way K sx sy f h px py qx qy e =
          let i : (K *ℤ sx) *ℤ (h *ℤ (K *ℤ qx) +ℤ f *ℤ (K *ℤ px)) +ℤ (K *ℤ sy) *ℤ (h *ℤ (K *ℤ qy) +ℤ f *ℤ (K *ℤ py)) ≡ square K *ℤ (sx *ℤ (h *ℤ qx +ℤ f *ℤ px) +ℤ sy *ℤ (h *ℤ qy +ℤ f *ℤ py)) = simp ring (omega (arith, linear)) in
          rw i (times_from_zero (square K) (sx *ℤ (h *ℤ qx +ℤ f *ℤ px) +ℤ sy *ℤ (h *ℤ qy +ℤ f *ℤ py)) (square_from_zero K) e)

  -- the point is not much further away than the circle
  pub not_further : (square (g *ℤ k) *ℤ norm Px Py) ≤ℤ square (n *ℤ (((R +ℤ pos 1) +ℤ g) +ℤ (k *ℤ w +ℤ g)))
  not_further =
      let both = sum_within ((g *ℤ k) *ℤ (n *ℤ Zx)) ((g *ℤ k) *ℤ (n *ℤ Zy)) ((g *ℤ k) *ℤ (N *ℤ Px) -ℤ (g *ℤ k) *ℤ (n *ℤ Zx)) ((g *ℤ k) *ℤ (N *ℤ Py) -ℤ (g *ℤ k) *ℤ (n *ℤ Zy)) (N *ℤ n *ℤ ((R +ℤ pos 1) +ℤ g)) (N *ℤ n *ℤ (k *ℤ w +ℤ g))
      (times_from_zero (N *ℤ n) ((R +ℤ pos 1) +ℤ g) (omega (arith, linear, Nn)) far0) (times_from_zero (N *ℤ n) (k *ℤ w +ℤ g) (omega (arith, linear, Nn)) v0) place_within close in
      rw (← (norm_scaled (g *ℤ k) Px Py)) (unscaled N ((g *ℤ k) *ℤ Px) ((g *ℤ k) *ℤ Py) (n *ℤ (((R +ℤ pos 1) +ℤ g) +ℤ (k *ℤ w +ℤ g))) hN
      (rw (← (swap (g *ℤ k) N Px), ← (swap (g *ℤ k) N Py), ← (spread_out N n ((R +ℤ pos 1) +ℤ g) (k *ℤ w +ℤ g)), ← (whole ((g *ℤ k) *ℤ (n *ℤ Zx)) ((g *ℤ k) *ℤ (N *ℤ Px))), ← (whole ((g *ℤ k) *ℤ (n *ℤ Zy)) ((g *ℤ k) *ℤ (N *ℤ Py)))) both))
    where
      whole : (a b : ℤ) → a +ℤ (b -ℤ a) ≡ b
      whole a b = omega (arith, linear)

      spread_out : (N n a b : ℤ) → N *ℤ n *ℤ a +ℤ N *ℤ n *ℤ b ≡ N *ℤ (n *ℤ (a +ℤ b))
      spread_out N n a b = simp ring (omega (arith, linear))

  -- and not much nearer
  pub not_nearer : ((k *ℤ w +ℤ g) ≤ℤ near) → square (n *ℤ (near -ℤ (k *ℤ w +ℤ g))) ≤ℤ (square (g *ℤ k) *ℤ norm Px Py)
  not_nearer l =
      let turned : norm ((g *ℤ k) *ℤ (n *ℤ Zx) -ℤ (g *ℤ k) *ℤ (N *ℤ Px)) ((g *ℤ k) *ℤ (n *ℤ Zy) -ℤ (g *ℤ k) *ℤ (N *ℤ Py)) ≡ norm ((g *ℤ k) *ℤ (N *ℤ Px) -ℤ (g *ℤ k) *ℤ (n *ℤ Zx)) ((g *ℤ k) *ℤ (N *ℤ Py) -ℤ (g *ℤ k) *ℤ (n *ℤ Zy)) = back ((g *ℤ k) *ℤ (n *ℤ Zx)) ((g *ℤ k) *ℤ (n *ℤ Zy)) ((g *ℤ k) *ℤ (N *ℤ Px)) ((g *ℤ k) *ℤ (N *ℤ Py)) in
      let part : square (N *ℤ n *ℤ (near -ℤ (k *ℤ w +ℤ g))) ≤ℤ norm ((g *ℤ k) *ℤ (N *ℤ Px)) ((g *ℤ k) *ℤ (N *ℤ Py)) =
      part_over ((g *ℤ k) *ℤ (N *ℤ Px)) ((g *ℤ k) *ℤ (N *ℤ Py)) ((g *ℤ k) *ℤ (n *ℤ Zx) -ℤ (g *ℤ k) *ℤ (N *ℤ Px)) ((g *ℤ k) *ℤ (n *ℤ Zy) -ℤ (g *ℤ k) *ℤ (N *ℤ Py)) (N *ℤ n *ℤ (near -ℤ (k *ℤ w +ℤ g))) (N *ℤ n *ℤ (k *ℤ w +ℤ g))
      (times_from_zero (N *ℤ n) (near -ℤ (k *ℤ w +ℤ g)) (omega (arith, linear, Nn)) (omega (arith, linear, l))) (times_from_zero (N *ℤ n) (k *ℤ w +ℤ g) (omega (arith, linear, Nn)) v0) (omega (arith, linear, turned, close))
      (rw (whole ((g *ℤ k) *ℤ (N *ℤ Px)) ((g *ℤ k) *ℤ (n *ℤ Zx)), whole ((g *ℤ k) *ℤ (N *ℤ Py)) ((g *ℤ k) *ℤ (n *ℤ Zy)), joined (N *ℤ n) near (k *ℤ w +ℤ g)) place_beyond) in
      rw (← (norm_scaled (g *ℤ k) Px Py)) (unscaled_over N ((g *ℤ k) *ℤ Px) ((g *ℤ k) *ℤ Py) (n *ℤ (near -ℤ (k *ℤ w +ℤ g))) hN (rw (← (swap (g *ℤ k) N Px), ← (swap (g *ℤ k) N Py), ← (mul_assoc N n (near -ℤ (k *ℤ w +ℤ g)))) part))
    where
      whole : (a b : ℤ) → a +ℤ (b -ℤ a) ≡ b
      whole a b = omega (arith, linear)

      back : (a b c d : ℤ) → norm (a -ℤ c) (b -ℤ d) ≡ norm (c -ℤ a) (d -ℤ b)
      back a b c d = simp ring (omega (arith, linear))

      joined : (m a b : ℤ) → m *ℤ (a -ℤ b) +ℤ m *ℤ b ≡ m *ℤ a
      joined m a b = simp ring (omega (arith, linear))

-- ---- the place's distance from the centre, by whole numbers

module _ (g k N f R d : ℤ) (hg : pos 1 ≤ℤ g) (hk : pos 1 ≤ℤ k) (hN : pos 1 ≤ℤ N) (hR : pos 0 ≤ℤ R) where
  pen : ℤ
  pen = g *ℤ (N *ℤ pos 1)

  regrouped : (z : ℤ) → square g *ℤ (square k *ℤ z) ≡ square (g *ℤ k) *ℤ z
  regrouped z = simp ring

  circle : (z : ℤ) → square g *ℤ (square k *ℤ (square N *ℤ z)) ≡ square N *ℤ (square (g *ℤ k) *ℤ z)
  circle z = simp ring

  pen_is : g *ℤ (N *ℤ pos 1) ≡ N *ℤ g
  pen_is = simp ring

  pen0 : pos 0 ≤ℤ (N *ℤ g)
  pen0 = times_from_zero N g (omega (arith, linear, hN)) (omega (arith, linear, hg))

  up : AtMostLonger (N *ℤ pos 1) (square k *ℤ d) (square k *ℤ (square N *ℤ f)) → AtMostLonger (N *ℤ g) (square (g *ℤ k) *ℤ d) (square N *ℤ (square (g *ℤ k) *ℤ f))
  up h = rw (← (regrouped d), ← (circle f), ← pen_is) (longer_by g (N *ℤ pos 1) (square k *ℤ d) (square k *ℤ (square N *ℤ f)) h)

  down : AtMostLonger (N *ℤ pos 1) (square k *ℤ (square N *ℤ f)) (square k *ℤ d) → AtMostLonger (N *ℤ g) (square N *ℤ (square (g *ℤ k) *ℤ f)) (square (g *ℤ k) *ℤ d)
  down h = rw (← (regrouped d), ← (circle f), ← pen_is) (longer_by g (N *ℤ pos 1) (square k *ℤ (square N *ℤ f)) (square k *ℤ d) h)

  far_is : AtMostLonger (N *ℤ pos 1) (square k *ℤ d) (square k *ℤ (square N *ℤ f)) → (square (g *ℤ k) *ℤ f) ≤ℤ square (R +ℤ pos 1) → (square (g *ℤ k) *ℤ d) ≤ℤ square (N *ℤ ((R +ℤ pos 1) +ℤ g))
  far_is h over =
      let b : (square N *ℤ (square (g *ℤ k) *ℤ f)) ≤ℤ square (N *ℤ (R +ℤ pos 1)) = rw (square_scaled N (R +ℤ pos 1)) (times_mono (square N) (square (g *ℤ k) *ℤ f) (square (R +ℤ pos 1)) (square_from_zero N) over) in
      let r0 : pos 0 ≤ℤ (N *ℤ (R +ℤ pos 1)) = times_from_zero N (R +ℤ pos 1) (omega (arith, linear, hN)) (omega (arith, linear, hR)) in
      let l = is_longer_by (N *ℤ g) (square (g *ℤ k) *ℤ d) (square N *ℤ (square (g *ℤ k) *ℤ f)) (N *ℤ (R +ℤ pos 1)) pen0 r0 b (up h) in
      omega (arith, linear, l, b, sum N (R +ℤ pos 1) g)
    where
      sum : (N r g : ℤ) → square (N *ℤ (r +ℤ g)) ≡ (square (N *ℤ r) +ℤ square (N *ℤ g)) +ℤ ((N *ℤ g) *ℤ (N *ℤ r) +ℤ (N *ℤ g) *ℤ (N *ℤ r))
      sum N r g = simp ring (omega (arith, linear))

  near_over : AtMostLonger (N *ℤ pos 1) (square k *ℤ (square N *ℤ f)) (square k *ℤ d) → square R ≤ℤ (square (g *ℤ k) *ℤ f) → g ≤ℤ R → square (N *ℤ (R -ℤ g)) ≤ℤ (square (g *ℤ k) *ℤ d)
  near_over h under l = elim (le_or_lt (square (N *ℤ (R -ℤ g))) (square (g *ℤ k) *ℤ d)) [ inl o ↦ o | inr o ↦ absurd (none o) ]
    where
      sum : (N r g : ℤ) → square (N *ℤ r) ≡ (square (N *ℤ (r -ℤ g)) +ℤ square (N *ℤ g)) +ℤ ((N *ℤ g) *ℤ (N *ℤ (r -ℤ g)) +ℤ (N *ℤ g) *ℤ (N *ℤ (r -ℤ g)))
      sum N r g = simp ring (omega (arith, linear))

      none : (square (g *ℤ k) *ℤ d) <ℤ square (N *ℤ (R -ℤ g)) → ⊥
      none o =
          let b : square (N *ℤ R) ≤ℤ (square N *ℤ (square (g *ℤ k) *ℤ f)) = rw (square_scaled N R) (times_mono (square N) (square R) (square (g *ℤ k) *ℤ f) (square_from_zero N) under) in
          let r0 : pos 0 ≤ℤ (N *ℤ (R -ℤ g)) = times_from_zero N (R -ℤ g) (omega (arith, linear, hN)) (omega (arith, linear, l)) in
          let i = is_longer_by (N *ℤ g) (square N *ℤ (square (g *ℤ k) *ℤ f)) (square (g *ℤ k) *ℤ d) (N *ℤ (R -ℤ g)) pen0 r0 (omega (arith, linear, o)) (down h) in
          omega (arith, linear, i, b, o, sum N R g)

-- ---- ends in one direction at one distance

one_spot : (c s e : Spot) → dot_of c s s ≡ dot_of c e e → cross_of c s e ≡ pos 0 → pos 0 ≤ℤ dot_of c s e → s ≡ e
one_spot c s e len flat way = ap (λ (x : ℤ). record { x = x; y = s.y }) same_x ∙ ap (λ (y : ℤ). record { x = e.x; y = y }) same_y
  where
    plain : (ux uy vx vy : ℤ) → norm (ux -ℤ vx) (uy -ℤ vy) ≡ (norm ux uy +ℤ norm vx vy) -ℤ ((ux *ℤ vx +ℤ uy *ℤ vy) +ℤ (ux *ℤ vx +ℤ uy *ℤ vy))
    plain ux uy vx vy = simp ring (omega (arith, linear))

    dot_is : dot_of c s s ≤ℤ dot_of c s e
    dot_is =
        let id = lagrange (s.x -ℤ c.x) (s.y -ℤ c.y) (e.x -ℤ c.x) (e.y -ℤ c.y) in
        let one : square (cross_of c s e) ≡ pos 0 = ap square flat in
        let two : dot_of c s s *ℤ dot_of c e e ≡ dot_of c s s *ℤ dot_of c s s = ap (λ (z : ℤ). dot_of c s s *ℤ z) (sym len) in
        square_cancel (dot_of c s s) (dot_of c s e) way (omega (arith, linear, id, one, two))

    none : norm ((s.x -ℤ c.x) -ℤ (e.x -ℤ c.x)) ((s.y -ℤ c.y) -ℤ (e.y -ℤ c.y)) ≤ℤ pos 0
    none = omega (arith, linear, plain (s.x -ℤ c.x) (s.y -ℤ c.y) (e.x -ℤ c.x) (e.y -ℤ c.y), dot_is, len)

    zeros : ((s.x -ℤ c.x) -ℤ (e.x -ℤ c.x) ≡ pos 0) × ((s.y -ℤ c.y) -ℤ (e.y -ℤ c.y) ≡ pos 0)
    zeros = norm_none ((s.x -ℤ c.x) -ℤ (e.x -ℤ c.x)) ((s.y -ℤ c.y) -ℤ (e.y -ℤ c.y)) none

    same_x : s.x ≡ e.x
    same_x = omega (arith, linear, zeros.0)

    same_y : s.y ≡ e.y
    same_y = omega (arith, linear, zeros.1)

-- ---- one place for each k

-- by numbers: w is the pen's width, g is 2
module _ (g w f : ℤ) (c s e : Spot) (p : Point) (hg : pos 1 ≤ℤ g) (hw : pos 0 ≤ℤ w) (hf : pos 0 ≤ℤ f) (s_is : dot_of c s s ≡ f) (e_is : dot_of c e e ≡ f) where
  abbrev reach : ℤ
  reach = square g *ℤ reach_of c p

  abbrev circle_is : ℤ
  circle_is = square g *ℤ (square p.n *ℤ f)

  abbrev more : ℤ
  more = p.n *ℤ (g +ℤ (g +ℤ pos 1))

  abbrev NearEnd : ℤ → Spot → Type 0
  NearEnd k s = AtMostLonger (k *ℤ (p.n *ℤ w) +ℤ more) (square k *ℤ (square g *ℤ reach_of s p)) (square k *ℤ pos 0)

  abbrev InCircle : ℤ → Type 0
  InCircle k = AtMostLonger (k *ℤ (p.n *ℤ w) +ℤ more) (square k *ℤ reach) (square k *ℤ circle_is) × AtMostLonger (k *ℤ (p.n *ℤ w) +ℤ more) (square k *ℤ circle_is) (square k *ℤ reach)

  module _ (k : ℤ) (hk : pos 1 ≤ℤ k) (z : Point) (turn : InTurn c s e z) (ring_of : InRing k (pos 1) c f f z) (close_by : AreNear (g *ℤ k) (k *ℤ w +ℤ g) z p) (R near : ℤ) (hR : pos 0 ≤ℤ R) (under : square R ≤ℤ (square (g *ℤ k) *ℤ f)) (over : (square (g *ℤ k) *ℤ f) ≤ℤ square (R +ℤ pos 1))
      (hnear : pos 0 ≤ℤ near) (near_is : (R -ℤ g) ≤ℤ near) (beyond : square (z.n *ℤ near) ≤ℤ (square (g *ℤ k) *ℤ reach_of c z)) where
    within : norm ((g *ℤ k) *ℤ (z.x -ℤ z.n *ℤ c.x)) ((g *ℤ k) *ℤ (z.y -ℤ z.n *ℤ c.y)) ≤ℤ square (z.n *ℤ ((R +ℤ pos 1) +ℤ g))
    within = rw (norm_scaled (g *ℤ k) (z.x -ℤ z.n *ℤ c.x) (z.y -ℤ z.n *ℤ c.y)) (far_is g k z.n f R (reach_of c z) hg hk z.positive hR ring_of.0 over)

    past : square (z.n *ℤ near) ≤ℤ norm ((g *ℤ k) *ℤ (z.x -ℤ z.n *ℤ c.x)) ((g *ℤ k) *ℤ (z.y -ℤ z.n *ℤ c.y))
    past = rw (norm_scaled (g *ℤ k) (z.x -ℤ z.n *ℤ c.x) (z.y -ℤ z.n *ℤ c.y)) beyond

    close : norm ((g *ℤ k) *ℤ (z.n *ℤ (p.x -ℤ p.n *ℤ c.x)) -ℤ (g *ℤ k) *ℤ (p.n *ℤ (z.x -ℤ z.n *ℤ c.x))) ((g *ℤ k) *ℤ (z.n *ℤ (p.y -ℤ p.n *ℤ c.y)) -ℤ (g *ℤ k) *ℤ (p.n *ℤ (z.y -ℤ z.n *ℤ c.y))) ≤ℤ square (z.n *ℤ p.n *ℤ (k *ℤ w +ℤ g))
    close = rw (flip (g *ℤ k) p.n z.n p.x z.x c.x, flip (g *ℤ k) p.n z.n p.y z.y c.y, negs (g *ℤ k) (p.n *ℤ z.x -ℤ z.n *ℤ p.x) (p.n *ℤ z.y -ℤ z.n *ℤ p.y)) close_by
      where
        flip : (K n N x u c : ℤ) → K *ℤ (N *ℤ (x -ℤ n *ℤ c)) -ℤ K *ℤ (n *ℤ (u -ℤ N *ℤ c)) ≡ neg_ℤ (K *ℤ (n *ℤ u -ℤ N *ℤ x))
        flip K n N x u c = simp ring (omega (arith, linear))

        negs : (K a b : ℤ) → square (neg_ℤ (K *ℤ a)) +ℤ square (neg_ℤ (K *ℤ b)) ≡ square K *ℤ (square a +ℤ square b)
        negs K a b = simp ring (omega (arith, linear))

    pen_out : (b : ℤ) → p.n *ℤ (b +ℤ ((k *ℤ w +ℤ g) +ℤ (g +ℤ pos 1))) ≡ p.n *ℤ b +ℤ (k *ℤ (p.n *ℤ w) +ℤ p.n *ℤ (g +ℤ (g +ℤ pos 1)))
    pen_out b = by p.n b k w g
      where
        by : (n b k w g : ℤ) → n *ℤ (b +ℤ ((k *ℤ w +ℤ g) +ℤ (g +ℤ pos 1))) ≡ n *ℤ b +ℤ (k *ℤ (n *ℤ w) +ℤ n *ℤ (g +ℤ (g +ℤ pos 1)))
        by n b k w g = simp ring (omega (arith, linear))

    split : (v : ℤ) → square (g *ℤ k) *ℤ v ≡ square k *ℤ (square g *ℤ v)
    split v = simp ring

    at_end : (s : Spot) → dot_of c s s ≡ f → Crossed (z.n *ℤ (p.x -ℤ p.n *ℤ c.x)) (z.n *ℤ (p.y -ℤ p.n *ℤ c.y)) (p.n *ℤ (z.x -ℤ z.n *ℤ c.x)) (p.n *ℤ (z.y -ℤ z.n *ℤ c.y)) (s.x -ℤ c.x) (s.y -ℤ c.y) → NearEnd k s
    at_end s is o =
        let h = by_end g k w p.n z.n (p.x -ℤ p.n *ℤ c.x) (p.y -ℤ p.n *ℤ c.y) (z.x -ℤ z.n *ℤ c.x) (z.y -ℤ z.n *ℤ c.y) f R near hg hk hw p.positive z.positive hR under over hnear near_is within past close (s.x -ℤ c.x) (s.y -ℤ c.y) is o in
        let i : (square (g *ℤ k) *ℤ reach_of s p) ≤ℤ square (p.n *ℤ ((k *ℤ w +ℤ g) +ℤ (g +ℤ pos 1))) = rw (from_end p.x p.n c.x s.x, from_end p.y p.n c.y s.y) at h in
        let j : p.n *ℤ ((k *ℤ w +ℤ g) +ℤ (g +ℤ pos 1)) ≡ k *ℤ (p.n *ℤ w) +ℤ p.n *ℤ (g +ℤ (g +ℤ pos 1)) = by p.n k w g in
        let l : (square k *ℤ (square g *ℤ reach_of s p)) ≤ℤ square (k *ℤ (p.n *ℤ w) +ℤ p.n *ℤ (g +ℤ (g +ℤ pos 1))) = rw (← (split (reach_of s p)), ← j) i in
        inl (omega (arith, linear, l, times-zero (square k)))
      where
        from_end : (x n c s : ℤ) → (x -ℤ n *ℤ c) -ℤ n *ℤ (s -ℤ c) ≡ x -ℤ n *ℤ s
        from_end x n c s = simp ring (omega (arith, linear))

        by : (n k w g : ℤ) → n *ℤ ((k *ℤ w +ℤ g) +ℤ (g +ℤ pos 1)) ≡ k *ℤ (n *ℤ w) +ℤ n *ℤ (g +ℤ (g +ℤ pos 1))
        by n k w g = simp ring (omega (arith, linear))

    n0' : pos 0 ≤ℤ p.n
    n0' = omega (arith, linear, p.positive)

    pen0' : pos 0 ≤ℤ (k *ℤ (p.n *ℤ w) +ℤ p.n *ℤ (g +ℤ (g +ℤ pos 1)))
    pen0' = omega (arith, linear, times_from_zero k (p.n *ℤ w) (omega (arith, linear, hk)) (times_from_zero p.n w n0' hw), times_from_zero p.n (g +ℤ (g +ℤ pos 1)) n0' (omega (arith, linear, hg)))

    circled : square k *ℤ (square g *ℤ (square p.n *ℤ f)) ≡ square p.n *ℤ (square (g *ℤ k) *ℤ f)
    circled = by k g p.n f
      where
        by : (k g n f : ℤ) → square k *ℤ (square g *ℤ (square n *ℤ f)) ≡ square n *ℤ (square (g *ℤ k) *ℤ f)
        by k g n f = simp ring

    in_circle : InCircle k
    in_circle = (first, second)
      where
        first : AtMostLonger (k *ℤ (p.n *ℤ w) +ℤ p.n *ℤ (g +ℤ (g +ℤ pos 1))) (square k *ℤ (square g *ℤ reach_of c p)) (square k *ℤ (square g *ℤ (square p.n *ℤ f)))
        first =
            let h = not_further g k w p.n z.n (p.x -ℤ p.n *ℤ c.x) (p.y -ℤ p.n *ℤ c.y) (z.x -ℤ z.n *ℤ c.x) (z.y -ℤ z.n *ℤ c.y) f R near hg hk hw p.positive z.positive hR under over hnear near_is within past close in
            let i : p.n *ℤ (((R +ℤ pos 1) +ℤ g) +ℤ (k *ℤ w +ℤ g)) ≡ p.n *ℤ R +ℤ (k *ℤ (p.n *ℤ w) +ℤ p.n *ℤ (g +ℤ (g +ℤ pos 1))) = by p.n R k w g in
            let r : square (p.n *ℤ R) ≤ℤ (square p.n *ℤ (square (g *ℤ k) *ℤ f)) = rw (square_scaled p.n R) (times_mono (square p.n) (square R) (square (g *ℤ k) *ℤ f) (square_from_zero p.n) under) in
            longer_of (k *ℤ (p.n *ℤ w) +ℤ p.n *ℤ (g +ℤ (g +ℤ pos 1))) (square k *ℤ (square g *ℤ reach_of c p)) (square k *ℤ (square g *ℤ (square p.n *ℤ f))) (p.n *ℤ R) pen0' (times_from_zero p.n R n0' hR) (rw circled r) (rw (← (split (reach_of c p)), ← i) h)
          where
            by : (n R k w g : ℤ) → n *ℤ (((R +ℤ pos 1) +ℤ g) +ℤ (k *ℤ w +ℤ g)) ≡ n *ℤ R +ℤ (k *ℤ (n *ℤ w) +ℤ n *ℤ (g +ℤ (g +ℤ pos 1)))
            by n R k w g = simp ring (omega (arith, linear))

        top : (square p.n *ℤ (square (g *ℤ k) *ℤ f)) ≤ℤ square (p.n *ℤ (R +ℤ pos 1))
        top = rw (square_scaled p.n (R +ℤ pos 1)) (times_mono (square p.n) (square (g *ℤ k) *ℤ f) (square (R +ℤ pos 1)) (square_from_zero p.n) over)

        second : AtMostLonger (k *ℤ (p.n *ℤ w) +ℤ p.n *ℤ (g +ℤ (g +ℤ pos 1))) (square k *ℤ (square g *ℤ (square p.n *ℤ f))) (square k *ℤ (square g *ℤ reach_of c p))
        second = elim (le_or_lt (k *ℤ w +ℤ g) near) [ inl l ↦ long l | inr l ↦ short l ]
          where
            rises : (far : ℤ) → (R +ℤ pos 1) ≤ℤ far → square (p.n *ℤ (R +ℤ pos 1)) ≤ℤ square (p.n *ℤ far)
            rises far l = square_mono (p.n *ℤ (R +ℤ pos 1)) (p.n *ℤ far) (times_from_zero p.n (R +ℤ pos 1) n0' (omega (arith, linear, hR))) (times_mono p.n (R +ℤ pos 1) far n0' l)

            long : (k *ℤ w +ℤ g) ≤ℤ near → AtMostLonger (k *ℤ (p.n *ℤ w) +ℤ p.n *ℤ (g +ℤ (g +ℤ pos 1))) (square k *ℤ (square g *ℤ (square p.n *ℤ f))) (square k *ℤ (square g *ℤ reach_of c p))
            long l =
                let h = not_nearer g k w p.n z.n (p.x -ℤ p.n *ℤ c.x) (p.y -ℤ p.n *ℤ c.y) (z.x -ℤ z.n *ℤ c.x) (z.y -ℤ z.n *ℤ c.y) f R near hg hk hw p.positive z.positive hR under over hnear near_is within past close l in
                let o = rises (near +ℤ (g +ℤ pos 1)) (omega (arith, linear, near_is)) in
                let i : p.n *ℤ (near +ℤ (g +ℤ pos 1)) ≡ p.n *ℤ (near -ℤ (k *ℤ w +ℤ g)) +ℤ (k *ℤ (p.n *ℤ w) +ℤ p.n *ℤ (g +ℤ (g +ℤ pos 1))) = by p.n near k w g in
                longer_of (k *ℤ (p.n *ℤ w) +ℤ p.n *ℤ (g +ℤ (g +ℤ pos 1))) (square k *ℤ (square g *ℤ (square p.n *ℤ f))) (square k *ℤ (square g *ℤ reach_of c p)) (p.n *ℤ (near -ℤ (k *ℤ w +ℤ g))) pen0' (times_from_zero p.n (near -ℤ (k *ℤ w +ℤ g)) n0' (omega (arith, linear, l)))
                (rw (← (split (reach_of c p))) h) (rw (circled, ← i) (omega (arith, linear, top, o)))
              where
                by : (n near k w g : ℤ) → n *ℤ (near +ℤ (g +ℤ pos 1)) ≡ n *ℤ (near -ℤ (k *ℤ w +ℤ g)) +ℤ (k *ℤ (n *ℤ w) +ℤ n *ℤ (g +ℤ (g +ℤ pos 1)))
                by n near k w g = simp ring (omega (arith, linear))

            short : near <ℤ (k *ℤ w +ℤ g) → AtMostLonger (k *ℤ (p.n *ℤ w) +ℤ p.n *ℤ (g +ℤ (g +ℤ pos 1))) (square k *ℤ (square g *ℤ (square p.n *ℤ f))) (square k *ℤ (square g *ℤ reach_of c p))
            short l =
                let o = rises ((k *ℤ w +ℤ g) +ℤ (g +ℤ pos 1)) (omega (arith, linear, near_is, l)) in
                let i : p.n *ℤ ((k *ℤ w +ℤ g) +ℤ (g +ℤ pos 1)) ≡ pos 0 +ℤ (k *ℤ (p.n *ℤ w) +ℤ p.n *ℤ (g +ℤ (g +ℤ pos 1))) = by p.n k w g in
                longer_of (k *ℤ (p.n *ℤ w) +ℤ p.n *ℤ (g +ℤ (g +ℤ pos 1))) (square k *ℤ (square g *ℤ (square p.n *ℤ f))) (square k *ℤ (square g *ℤ reach_of c p)) (pos 0) pen0' record { le = tt }
                (times_from_zero (square k) (square g *ℤ reach_of c p) (square_from_zero k) (times_from_zero (square g) (reach_of c p) (square_from_zero g) (norm_from_zero (p.x -ℤ p.n *ℤ c.x) (p.y -ℤ p.n *ℤ c.y)))) (rw (circled, ← i) (omega (arith, linear, top, o)))
              where
                by : (n k w g : ℤ) → n *ℤ ((k *ℤ w +ℤ g) +ℤ (g +ℤ pos 1)) ≡ pos 0 +ℤ (k *ℤ (n *ℤ w) +ℤ n *ℤ (g +ℤ (g +ℤ pos 1)))
                by n k w g = simp ring (omega (arith, linear))

    pub one_place : InCircle k × (InTurn c s e p ⊎ (NearEnd k s ⊎ NearEnd k e))
    one_place = (in_circle, elim (crossing c s e z p turn) [ inl t ↦ inl t | inr (inl o) ↦ inr (inl (at_end s s_is o)) | inr (inr o) ↦ inr (inr (at_end e e_is o)) ])

-- ---- the law

module _ (a : Arc) (p : Point) (same : unlike a ≡ pos 0) (h : Possibly a p) where
  abbrev f : ℤ
  f = dot_of a.centre a.start a.start

  abbrev W : ℤ
  W = p.n *ℤ pos a.width

  abbrev M : ℤ
  M = p.n *ℤ (pos 2 +ℤ (pos 2 +ℤ pos 1))

  two : pos 1 ≤ℤ pos 2
  two = omega (arith, ints)

  w0 : pos 0 ≤ℤ pos a.width
  w0 = omega (arith, ints)

  f0 : pos 0 ≤ℤ f
  f0 = whole_from_zero a.centre a.start

  n0'' : pos 0 ≤ℤ p.n
  n0'' = omega (arith, linear, p.positive)

  W0 : pos 0 ≤ℤ W
  W0 = times_from_zero p.n (pos a.width) n0'' w0

  M0 : pos 0 ≤ℤ M
  M0 = times_from_zero p.n (pos 2 +ℤ (pos 2 +ℤ pos 1)) n0'' (omega (arith, ints))

  meant : IsMeant a
  meant = inr (inl (by (unlike a) (apart a) same (whole_from_zero a.start a.end)))
    where
      by : (u d : ℤ) → u ≡ pos 0 → pos 0 ≤ℤ d → u ≤ℤ d
      by u d e from = omega (arith, linear, e, from)

  turn_of : (z : Point) → MayTurn a.centre a.start a.end z → InTurn a.centre a.start a.end z
  turn_of z (inl t) = t
  turn_of z (inr o) = inr (inr (inr (one_spot a.centre a.start a.end (sym (end_is a same)) o.0 o.1)))

  ring_at : (k : ℤ) (z : Point) → InRing k (pos 1) a.centre (inmost a) (outmost a) z → InRing k (pos 1) a.centre f f z
  ring_at k z r = subst (λ (v : ℤ). InRing k (pos 1) a.centre v f z) (inmost_is a same) (subst (λ (v : ℤ). InRing k (pos 1) a.centre (inmost a) v z) (outmost_is a same) r)

  abbrev Near : ℤ → Spot → Type 0
  Near k s = AtMostLonger (k *ℤ W +ℤ M) (square k *ℤ (square (pos 2) *ℤ reach_of s p)) (square k *ℤ pos 0)

  abbrev InCircleAt : ℤ → Type 0
  InCircleAt k = AtMostLonger (k *ℤ W +ℤ M) (square k *ℤ (square (pos 2) *ℤ reach_of a.centre p)) (square k *ℤ (square (pos 2) *ℤ (square p.n *ℤ f))) × AtMostLonger (k *ℤ W +ℤ M) (square k *ℤ (square (pos 2) *ℤ (square p.n *ℤ f))) (square k *ℤ (square (pos 2) *ℤ reach_of a.centre p))

  each : (k : ℤ) → pos 1 ≤ℤ k → InCircleAt k × (InTurn a.centre a.start a.end p ⊎ (Near k a.start ⊎ Near k a.end))
  each k some = with_root (h meant k some) (root_of (square (pos 2 *ℤ k) *ℤ f) (times_from_zero (square (pos 2 *ℤ k)) f (square_from_zero (pos 2 *ℤ k)) f0))
    where
      with_root : HasPlace a k p → Root (square (pos 2 *ℤ k) *ℤ f) → InCircleAt k × (InTurn a.centre a.start a.end p ⊎ (Near k a.start ⊎ Near k a.end))
      with_root q r = elim (le_or_lt (pos 2) r.i) [
        | inl l ↦ one_place (pos 2) (pos a.width) f a.centre a.start a.end p two w0 f0 refl (end_is a same) k some q.place (turn_of q.place q.turn) (ring_at k q.place q.ring) q.near r.i (r.i -ℤ pos 2) r.from r.under over (omega (arith, linear, l)) (omega (arith, linear))
            (near_over (pos 2) k q.place.n f r.i (reach_of a.centre q.place) two some q.place.positive r.from (ring_at k q.place q.ring).1 r.under l)
        | inr l ↦ one_place (pos 2) (pos a.width) f a.centre a.start a.end p two w0 f0 refl (end_is a same) k some q.place (turn_of q.place q.turn) (ring_at k q.place q.ring) q.near r.i (pos 0) r.from r.under over record { le = tt } (omega (arith, linear, l)) none
      ]
        where
          over : (square (pos 2 *ℤ k) *ℤ f) ≤ℤ square (r.i +ℤ pos 1)
          over = omega (arith, linear, r.over)

          none : square (q.place.n *ℤ pos 0) ≤ℤ (square (pos 2 *ℤ k) *ℤ reach_of a.centre q.place)
          none =
              let z : square (q.place.n *ℤ pos 0) ≡ pos 0 = ap square (times-zero q.place.n) in
              omega (arith, linear, z, times_from_zero (square (pos 2 *ℤ k)) (reach_of a.centre q.place) (square_from_zero (pos 2 *ℤ k)) (norm_from_zero (q.place.x -ℤ q.place.n *ℤ a.centre.x) (q.place.y -ℤ q.place.n *ℤ a.centre.y)))

  circle0 : pos 0 ≤ℤ (square (pos 2) *ℤ (square p.n *ℤ f))
  circle0 = times_from_zero (square (pos 2)) (square p.n *ℤ f) (square_from_zero (pos 2)) (times_from_zero (square p.n) f (square_from_zero p.n) f0)

  reach0 : pos 0 ≤ℤ (square (pos 2) *ℤ reach_of a.centre p)
  reach0 = times_from_zero (square (pos 2)) (reach_of a.centre p) (square_from_zero (pos 2)) (norm_from_zero (p.x -ℤ p.n *ℤ a.centre.x) (p.y -ℤ p.n *ℤ a.centre.y))

  round : InRing (pos 2) (pos a.width) a.centre f f p
  round = (
    longer_closed W M (square (pos 2) *ℤ reach_of a.centre p) (square (pos 2) *ℤ (square p.n *ℤ f)) W0 M0 circle0 (λ k some. (each k some).0.0),
    longer_closed W M (square (pos 2) *ℤ (square p.n *ℤ f)) (square (pos 2) *ℤ reach_of a.centre p) W0 M0 reach0 (λ k some. (each k some).0.1),
  )

  ring_is : InRing (pos 2) (pos a.width) a.centre (outmost a) (inmost a) p
  ring_is = subst (λ (v : ℤ). InRing (pos 2) (pos a.width) a.centre v (inmost a) p) (sym (outmost_is a same)) (subst (λ (v : ℤ). InRing (pos 2) (pos a.width) a.centre f v p) (sym (inmost_is a same)) round)

  away : (s : Spot) → AtMostLonger W (square (pos 2) *ℤ reach_of s p) (pos 0) ⊎ Away (λ k. Near k s)
  away s = longer_away W M (square (pos 2) *ℤ reach_of s p) (pos 0) W0 M0 record { le = tt }

  near_of : (s : Spot) → AtMostLonger W (square (pos 2) *ℤ reach_of s p) (pos 0) → IsNear (pos 2) (pos a.width) s p
  near_of s o = only_pen W (square (pos 2) *ℤ reach_of s p) o

  is_surely : Surely a p
  is_surely = elim (away a.start) [
    | inl o ↦ inr (inl (near_of a.start o))
    | inr first ↦ elim (away a.end) [
      | inl o ↦ inr (inr (near_of a.end o))
      | inr last ↦ elim (each (first.bound +ℤ last.bound) (omega (arith, linear, first.some, last.some))).1 [
        | inl turn ↦ inl (meant, turn, ring_is)
        | inr (inl o) ↦ absurd (first.none (first.bound +ℤ last.bound) (omega (arith, linear, last.some)) o)
        | inr (inr o) ↦ absurd (last.none (first.bound +ℤ last.bound) (omega (arith, linear, first.some)) o)
      ]
    ]
  ]

pub possibly_is_surely : PossiblyIsSurely
possibly_is_surely a p same h = is_surely a p same h
