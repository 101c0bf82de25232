-- A place of the curve near each point that is surely copper.
use Rattle.std.proofs.Common.{◌≡◌, ◌⊎◌, inl, inr, ℕ, zero, suc, negsuc, ℤ, pos, neg_ℤ, ◌+ℤ◌, ◌-ℤ◌, ◌*ℤ◌, ◌≤ℤ◌, ◌<ℤ◌, arith, refl, sym, subst}
use Rattle.std.proofs.lemmas.Int.{ints}
use Rattle.planar.specs.declared.Spot.{Spot}
use Rattle.planar.specs.Plane.{Point, at, cross_of, dot_of, square}
use Rattle.planar.proofs.Ring.{ring, linear, le_or_lt, over_zero, square_cancel, square_from_zero, square_mono, one-times, times_from_zero, times_mono, times-zero}
use Rattle.arcs.specs.declared.Arc.{Arc}
use Rattle.arcs.specs.Copper.{AreNear, AtMostLonger, HasPlace, InRing, InTurn, IsNear, MayTurn, inmost, outmost, reach_of, side_of}
use Rattle.arcs.specs.Laws.{PossiblyAtEnds, PossiblyOfEach, SurelyIsPossibly}
use Rattle.arcs.proofs.Chain.{flat_self}
use Rattle.arcs.proofs.Each.{ring_within}
use Rattle.arcs.proofs.Radii.{end_over, end_under, in_order, inmost_from, start_over, start_under}
use Rattle.arcs.proofs.Ring.{only_pen}
use Rattle.arcs.proofs.Vectors.{norm_none}

-- ---- the whole root of a number

pub record Root (n : ℤ) : Type 0 where
  pub i : ℤ
  pub from : pos 0 ≤ℤ i
  pub under : square i ≤ℤ n
  pub over : n <ℤ square (i +ℤ pos 1)

next : (n : ℤ) → Root n → Root (n +ℤ pos 1)
next n r = by r.i r.from r.under r.over
  where
    by : (i : ℤ) → pos 0 ≤ℤ i → square i ≤ℤ n → n <ℤ square (i +ℤ pos 1) → Root (n +ℤ pos 1)
    by i from under over = elim (le_or_lt (square (i +ℤ pos 1)) (n +ℤ pos 1)) [
      | inl l ↦ record { i = i +ℤ pos 1; from = omega (arith, linear, from); under = l; over = omega (arith, linear, over, from, more) }
      | inr l ↦ record { i = i; from = from; under = omega (arith, linear, under); over = l }
    ]
      where
        more : square ((i +ℤ pos 1) +ℤ pos 1) ≡ square (i +ℤ pos 1) +ℤ (((i +ℤ pos 1) +ℤ (i +ℤ pos 1)) +ℤ pos 1)
        more = simp ring (omega (arith, linear))

whole_root : (n : ℕ) → Root (pos n)
whole_root zero = record { i = pos 0; from = omega (arith, ints); under = omega (arith, ints); over = omega (arith, ints) }
whole_root (suc n) = let e : pos n +ℤ pos 1 ≡ pos (suc n) = omega (arith, ints) in subst (λ (z : ℤ). Root z) e (next (pos n) (whole_root n))

pub root_of : (n : ℤ) → pos 0 ≤ℤ n → Root n
root_of (pos n) h = whole_root n
root_of (negsuc n) h = absurd (omega (arith, ints, h))

-- ---- two lengths that are at most a third apart

abbrev four : ℤ → ℤ
four z = (z +ℤ z) +ℤ (z +ℤ z)

scaled_by : (f w a b : ℤ) → pos 0 ≤ℤ f → AtMostLonger w a b → ((f *ℤ a -ℤ f *ℤ b -ℤ f *ℤ square w) ≤ℤ pos 0) ⊎ (square (f *ℤ a -ℤ f *ℤ b -ℤ f *ℤ square w) ≤ℤ four ((f *ℤ square w) *ℤ (f *ℤ b)))
scaled_by f w a b hf h = elim h [
  | inl l ↦ inl (rw (← spread) (omega (arith, linear, times_mono f (a -ℤ b -ℤ square w) (pos 0) hf l, none)))
  | inr l ↦ inr (rw (← spread, squared, ← right) (times_mono (square f) (square (a -ℤ b -ℤ square w)) (square (w +ℤ w) *ℤ b) (square_from_zero f) l))
]
  where
    none : f *ℤ pos 0 ≡ pos 0
    none = simp ring

    spread : f *ℤ (a -ℤ b -ℤ square w) ≡ f *ℤ a -ℤ f *ℤ b -ℤ f *ℤ square w
    spread = simp ring (omega (arith, linear))

    squared : square (f *ℤ (a -ℤ b -ℤ square w)) ≡ square f *ℤ square (a -ℤ b -ℤ square w)
    squared = by f (a -ℤ b -ℤ square w)
      where
        by : (f z : ℤ) → square (f *ℤ z) ≡ square f *ℤ square z
        by f z = simp ring

    right : square f *ℤ (square (w +ℤ w) *ℤ b) ≡ four ((f *ℤ square w) *ℤ (f *ℤ b))
    right = simp ring (omega (arith, linear))

-- of lengths j and g + j or more the second is not at most w more, where w is less than g
too_long : (a b w g j : ℤ) → pos 0 ≤ℤ g → pos 0 ≤ℤ j → pos 0 ≤ℤ b → pos 0 ≤ℤ w → square (g +ℤ j) ≤ℤ a → b ≤ℤ square j → w <ℤ square g → ((a -ℤ b -ℤ w) ≤ℤ pos 0) ⊎ (square (a -ℤ b -ℤ w) ≤ℤ four (w *ℤ b)) → ⊥
too_long a b w g j hg hj hb hw over under less h = by h
  where
    gj : pos 0 ≤ℤ (g *ℤ j)
    gj = times_from_zero g j hg hj

    sum : square (g +ℤ j) ≡ (square g +ℤ square j) +ℤ (g *ℤ j +ℤ g *ℤ j)
    sum = simp ring (omega (arith, linear))

    far : ((g *ℤ j +ℤ g *ℤ j) +ℤ pos 1) ≤ℤ (a -ℤ b -ℤ w)
    far = omega (arith, linear, over, under, less, sum)

    by : ((a -ℤ b -ℤ w) ≤ℤ pos 0) ⊎ (square (a -ℤ b -ℤ w) ≤ℤ four (w *ℤ b)) → ⊥
    by (inl l) = omega (arith, linear, l, far, gj)
    by (inr l) =
        let f : square ((g *ℤ j +ℤ g *ℤ j) +ℤ pos 1) ≤ℤ square (a -ℤ b -ℤ w) = square_mono ((g *ℤ j +ℤ g *ℤ j) +ℤ pos 1) (a -ℤ b -ℤ w) (omega (arith, linear, gj)) far in
        let e : square ((g *ℤ j +ℤ g *ℤ j) +ℤ pos 1) ≡ four (square g *ℤ square j) +ℤ (four (g *ℤ j) +ℤ pos 1) = simp ring (omega (arith, linear)) in
        let m : (w *ℤ b) ≤ℤ (w *ℤ square j) = times_mono w b (square j) hw under in
        let o : (square j *ℤ w) ≤ℤ (square j *ℤ square g) = times_mono (square j) w (square g) (square_from_zero j) (omega (arith, linear, less)) in
        let p : w *ℤ square j ≡ square j *ℤ w = simp ring in
        let q : square g *ℤ square j ≡ square j *ℤ square g = simp ring in
        omega (arith, linear, l, f, e, m, o, p, q, gj)

-- two more, squared: `simp ring` does not take the literal
two_more : (v : ℤ) → square (v +ℤ (pos 1 +ℤ pos 1)) ≡ square v +ℤ (four v +ℤ pos 4)
two_more v = omega (arith, linear, sum v (pos 1 +ℤ pos 1), twice v, all)
  where
    sum : (v t : ℤ) → square (v +ℤ t) ≡ square v +ℤ ((v *ℤ t +ℤ v *ℤ t) +ℤ square t)
    sum v t = simp ring (omega (arith, linear))

    twice : (v : ℤ) → v *ℤ (pos 1 +ℤ pos 1) ≡ v +ℤ v
    twice v = omega (arith, ints)

    all : square (pos 1 +ℤ pos 1) ≡ pos 4
    all = omega (arith, ints)

by_four : (z : ℤ) → z *ℤ pos 4 ≡ four z
by_four z = omega (arith, ints)

-- ---- i / (k d n) of the way to the point is about as far as a radius

module _ (n k d i w low high : ℤ) (hn : pos 1 ≤ℤ n) (hk : pos 1 ≤ℤ k) (hd : pos 1 ≤ℤ d) (hi : pos 0 ≤ℤ i) (hw : pos 0 ≤ℤ w) (hl : pos 0 ≤ℤ low) (lh : low ≤ℤ high)
    (under : square i ≤ℤ ((square n *ℤ low) *ℤ (square k *ℤ d))) (over : ((square n *ℤ low) *ℤ (square k *ℤ d)) <ℤ square (i +ℤ pos 1)) where
  n0 : pos 0 ≤ℤ n
  n0 = omega (arith, linear, hn)

  k0 : pos 0 ≤ℤ k
  k0 = omega (arith, linear, hk)

  d0 : pos 0 ≤ℤ d
  d0 = omega (arith, linear, hd)

  f0 : pos 0 ≤ℤ (square k *ℤ d)
  f0 = times_from_zero (square k) d (square_from_zero k) d0

  w0 : pos 0 ≤ℤ ((square k *ℤ d) *ℤ square (n *ℤ w))
  w0 = times_from_zero (square k *ℤ d) (square (n *ℤ w)) f0 (square_from_zero (n *ℤ w))

  nl : pos 0 ≤ℤ (square n *ℤ low)
  nl = times_from_zero (square n) low (square_from_zero n) hl

  nlf : pos 0 ≤ℤ ((square k *ℤ d) *ℤ four (square n *ℤ low))
  nlf = times_from_zero (square k *ℤ d) (four (square n *ℤ low)) f0 (omega (arith, linear, nl))

  kd : pos 0 ≤ℤ (k *ℤ d)
  kd = times_from_zero k d k0 d0

  point_length : (square k *ℤ d) *ℤ four d ≡ square (k *ℤ d +ℤ k *ℤ d)
  point_length = simp ring (omega (arith, linear))

  radius_length : (z : ℤ) → (square k *ℤ d) *ℤ four z ≡ four (z *ℤ (square k *ℤ d))
  radius_length z = simp ring (omega (arith, linear))

  doubled : (z : ℤ) → square (z +ℤ z) ≡ four (square z)
  doubled z = simp ring (omega (arith, linear))

  -- the place is not much nearer than the point
  behind : AtMostLonger (n *ℤ w) (four d) (four (square n *ℤ low)) → pos 0 ≤ℤ ((k *ℤ d +ℤ k *ℤ d) -ℤ ((i +ℤ pos 1) +ℤ (i +ℤ pos 1))) → square ((k *ℤ d +ℤ k *ℤ d) -ℤ ((i +ℤ pos 1) +ℤ (i +ℤ pos 1))) ≤ℤ ((square k *ℤ d) *ℤ square (n *ℤ w))
  behind h hg = elim (le_or_lt (square ((k *ℤ d +ℤ k *ℤ d) -ℤ ((i +ℤ pos 1) +ℤ (i +ℤ pos 1)))) ((square k *ℤ d) *ℤ square (n *ℤ w))) [
    | inl l ↦ l
    | inr l ↦ absurd (too_long ((square k *ℤ d) *ℤ four d) ((square k *ℤ d) *ℤ four (square n *ℤ low)) ((square k *ℤ d) *ℤ square (n *ℤ w)) ((k *ℤ d +ℤ k *ℤ d) -ℤ ((i +ℤ pos 1) +ℤ (i +ℤ pos 1))) ((i +ℤ pos 1) +ℤ (i +ℤ pos 1)) hg (omega (arith, linear, hi)) nlf w0
        (rw whole (omega (arith, linear, point_length))) (omega (arith, linear, radius_length (square n *ℤ low), doubled (i +ℤ pos 1), over)) l (scaled_by (square k *ℤ d) (n *ℤ w) (four d) (four (square n *ℤ low)) f0 h))
  ]
    where
      whole : ((k *ℤ d +ℤ k *ℤ d) -ℤ ((i +ℤ pos 1) +ℤ (i +ℤ pos 1))) +ℤ ((i +ℤ pos 1) +ℤ (i +ℤ pos 1)) ≡ k *ℤ d +ℤ k *ℤ d
      whole = omega (arith, linear)

  -- and not much further away
  past : AtMostLonger (n *ℤ w) (four (square n *ℤ high)) (four d) → pos 0 ≤ℤ ((i +ℤ i) -ℤ (k *ℤ d +ℤ k *ℤ d)) → square ((i +ℤ i) -ℤ (k *ℤ d +ℤ k *ℤ d)) ≤ℤ ((square k *ℤ d) *ℤ square (n *ℤ w))
  past h hg = elim (le_or_lt (square ((i +ℤ i) -ℤ (k *ℤ d +ℤ k *ℤ d))) ((square k *ℤ d) *ℤ square (n *ℤ w))) [
    | inl l ↦ l
    | inr l ↦ absurd (too_long ((square k *ℤ d) *ℤ four (square n *ℤ high)) ((square k *ℤ d) *ℤ four d) ((square k *ℤ d) *ℤ square (n *ℤ w)) ((i +ℤ i) -ℤ (k *ℤ d +ℤ k *ℤ d)) (k *ℤ d +ℤ k *ℤ d) hg (omega (arith, linear, kd)) (times_from_zero (square k *ℤ d) (four d) f0 (omega (arith, linear, d0))) w0
        (rw whole (omega (arith, linear, radius_length (square n *ℤ high), doubled i, under, more))) (omega (arith, linear, point_length)) l (scaled_by (square k *ℤ d) (n *ℤ w) (four (square n *ℤ high)) (four d) f0 h))
  ]
    where
      whole : ((i +ℤ i) -ℤ (k *ℤ d +ℤ k *ℤ d)) +ℤ (k *ℤ d +ℤ k *ℤ d) ≡ i +ℤ i
      whole = omega (arith, linear)

      more : ((square n *ℤ low) *ℤ (square k *ℤ d)) ≤ℤ ((square n *ℤ high) *ℤ (square k *ℤ d))
      more =
          let a : (square n *ℤ low) ≤ℤ (square n *ℤ high) = times_mono (square n) low high (square_from_zero n) lh in
          let b : ((square k *ℤ d) *ℤ (square n *ℤ low)) ≤ℤ ((square k *ℤ d) *ℤ (square n *ℤ high)) = times_mono (square k *ℤ d) (square n *ℤ low) (square n *ℤ high) f0 a in
          let e : (z : ℤ) → (square k *ℤ d) *ℤ z ≡ z *ℤ (square k *ℤ d) = λ z. simp ring in
          omega (arith, linear, b, e (square n *ℤ low), e (square n *ℤ high))

  -- so twice the way between them is at most n times the pen and 2/k more
  pub apart : AtMostLonger (n *ℤ w) (four d) (four (square n *ℤ low)) → AtMostLonger (n *ℤ w) (four (square n *ℤ high)) (four d) → square ((k *ℤ d -ℤ i) +ℤ (k *ℤ d -ℤ i)) ≤ℤ (d *ℤ square (n *ℤ (k *ℤ w +ℤ (pos 1 +ℤ pos 1))))
  apart h g = elim (le_or_lt (pos 0) ((k *ℤ d +ℤ k *ℤ d) -ℤ ((i +ℤ pos 1) +ℤ (i +ℤ pos 1)))) [ inl l ↦ near l (behind h l) | inr l ↦ far (omega (arith, linear, l)) (past g (omega (arith, linear, l))) ]
    where
      dn : pos 1 ≤ℤ (d *ℤ square n)
      dn = over_zero d (square n) hd (over_zero n n hn hn)

      kw : pos 0 ≤ℤ (k *ℤ w)
      kw = times_from_zero k w k0 hw

      dnkw : pos 0 ≤ℤ ((d *ℤ square n) *ℤ (k *ℤ w))
      dnkw = times_from_zero (d *ℤ square n) (k *ℤ w) (omega (arith, linear, dn)) kw

      right : d *ℤ square (n *ℤ (k *ℤ w +ℤ (pos 1 +ℤ pos 1))) ≡ (square k *ℤ d) *ℤ square (n *ℤ w) +ℤ (four ((d *ℤ square n) *ℤ (k *ℤ w)) +ℤ four (d *ℤ square n))
      right = omega (arith, linear, plain d n (k *ℤ w), regrouped)
        where
          plain : (d n v : ℤ) → d *ℤ square (n *ℤ (v +ℤ (pos 1 +ℤ pos 1))) ≡ d *ℤ (square n *ℤ square v) +ℤ (four ((d *ℤ square n) *ℤ v) +ℤ four (d *ℤ square n))
          plain d n v =
              let e : (d *ℤ square n) *ℤ square (v +ℤ (pos 1 +ℤ pos 1)) ≡ (d *ℤ square n) *ℤ square v +ℤ ((d *ℤ square n) *ℤ four v +ℤ (d *ℤ square n) *ℤ pos 4) = rw (two_more v) (spread (d *ℤ square n) (square v) (four v) (pos 4)) in
              omega (arith, linear, scaled d n (v +ℤ (pos 1 +ℤ pos 1)), e, parts d n v, by_four (d *ℤ square n))
            where
              scaled : (d n z : ℤ) → d *ℤ square (n *ℤ z) ≡ (d *ℤ square n) *ℤ square z
              scaled d n z = simp ring

              spread : (f x y z : ℤ) → f *ℤ (x +ℤ (y +ℤ z)) ≡ f *ℤ x +ℤ (f *ℤ y +ℤ f *ℤ z)
              spread f x y z = simp ring (omega (arith, linear))

              parts : (d n v : ℤ) → (d *ℤ square n) *ℤ square v +ℤ (d *ℤ square n) *ℤ four v ≡ d *ℤ (square n *ℤ square v) +ℤ four ((d *ℤ square n) *ℤ v)
              parts d n v = simp ring (omega (arith, linear))

          regrouped : d *ℤ (square n *ℤ square (k *ℤ w)) ≡ (square k *ℤ d) *ℤ square (n *ℤ w)
          regrouped = simp ring

      far : pos 0 ≤ℤ ((i +ℤ i) -ℤ (k *ℤ d +ℤ k *ℤ d)) → square ((i +ℤ i) -ℤ (k *ℤ d +ℤ k *ℤ d)) ≤ℤ ((square k *ℤ d) *ℤ square (n *ℤ w)) → square ((k *ℤ d -ℤ i) +ℤ (k *ℤ d -ℤ i)) ≤ℤ (d *ℤ square (n *ℤ (k *ℤ w +ℤ (pos 1 +ℤ pos 1))))
      far from l =
          let e : square ((k *ℤ d -ℤ i) +ℤ (k *ℤ d -ℤ i)) ≡ square ((i +ℤ i) -ℤ (k *ℤ d +ℤ k *ℤ d)) = turned (k *ℤ d) i in
          omega (arith, linear, l, e, right, dnkw, dn)
        where
          turned : (u i : ℤ) → square ((u -ℤ i) +ℤ (u -ℤ i)) ≡ square ((i +ℤ i) -ℤ (u +ℤ u))
          turned u i = simp ring (omega (arith, linear))

      near : pos 0 ≤ℤ ((k *ℤ d +ℤ k *ℤ d) -ℤ ((i +ℤ pos 1) +ℤ (i +ℤ pos 1))) → square ((k *ℤ d +ℤ k *ℤ d) -ℤ ((i +ℤ pos 1) +ℤ (i +ℤ pos 1))) ≤ℤ ((square k *ℤ d) *ℤ square (n *ℤ w)) → square ((k *ℤ d -ℤ i) +ℤ (k *ℤ d -ℤ i)) ≤ℤ (d *ℤ square (n *ℤ (k *ℤ w +ℤ (pos 1 +ℤ pos 1))))
      near from l = by ((k *ℤ d +ℤ k *ℤ d) -ℤ ((i +ℤ pos 1) +ℤ (i +ℤ pos 1))) l (omega (arith, linear))
        where
          by : (g : ℤ) → square g ≤ℤ ((square k *ℤ d) *ℤ square (n *ℤ w)) → (k *ℤ d -ℤ i) +ℤ (k *ℤ d -ℤ i) ≡ g +ℤ (pos 1 +ℤ pos 1) → square ((k *ℤ d -ℤ i) +ℤ (k *ℤ d -ℤ i)) ≤ℤ (d *ℤ square (n *ℤ (k *ℤ w +ℤ (pos 1 +ℤ pos 1))))
          by g l e =
              let o : (square k *ℤ d) *ℤ square (n *ℤ w) ≡ d *ℤ (square n *ℤ square (k *ℤ w)) = simp ring in
              let a : (d *ℤ (square n *ℤ square (k *ℤ w))) ≤ℤ square ((d *ℤ square n) *ℤ (k *ℤ w)) = wider in
              let b : g ≤ℤ ((d *ℤ square n) *ℤ (k *ℤ w)) = square_cancel g ((d *ℤ square n) *ℤ (k *ℤ w)) dnkw (omega (arith, linear, l, o, a)) in
              let s : square (g +ℤ (pos 1 +ℤ pos 1)) ≡ square g +ℤ (four g +ℤ pos 4) = two_more g in
              rw e (omega (arith, linear, s, l, b, right, dn))
            where
              wider : (d *ℤ (square n *ℤ square (k *ℤ w))) ≤ℤ square ((d *ℤ square n) *ℤ (k *ℤ w))
              wider =
                  let m : ((d *ℤ (square n *ℤ square (k *ℤ w))) *ℤ pos 1) ≤ℤ ((d *ℤ (square n *ℤ square (k *ℤ w))) *ℤ (d *ℤ square n)) = times_mono (d *ℤ (square n *ℤ square (k *ℤ w))) (pos 1) (d *ℤ square n) (times_from_zero d (square n *ℤ square (k *ℤ w)) d0 (times_from_zero (square n) (square (k *ℤ w)) (square_from_zero n) (square_from_zero (k *ℤ w)))) dn in
                  let e : (d *ℤ (square n *ℤ square (k *ℤ w))) *ℤ pos 1 ≡ d *ℤ (square n *ℤ square (k *ℤ w)) = simp ring in
                  let f : (d *ℤ (square n *ℤ square (k *ℤ w))) *ℤ (d *ℤ square n) ≡ square ((d *ℤ square n) *ℤ (k *ℤ w)) = simp ring in
                  omega (arith, linear, m, e, f)

  -- the place is in the ring, at most 1/k off
  abbrev m : ℤ
  m = (k *ℤ d) *ℤ n

  place_under : (d *ℤ square i) ≤ℤ (square ((k *ℤ d) *ℤ n) *ℤ low)
  place_under =
      let a : (d *ℤ square i) ≤ℤ (d *ℤ ((square n *ℤ low) *ℤ (square k *ℤ d))) = times_mono d (square i) ((square n *ℤ low) *ℤ (square k *ℤ d)) d0 under in
      let e : d *ℤ ((square n *ℤ low) *ℤ (square k *ℤ d)) ≡ square ((k *ℤ d) *ℤ n) *ℤ low = simp ring in
      omega (arith, linear, a, e)

  place_over : (square ((k *ℤ d) *ℤ n) *ℤ low) ≤ℤ (d *ℤ square i +ℤ (d *ℤ i +ℤ d *ℤ i))
  place_over =
      let a : (d *ℤ ((square n *ℤ low) *ℤ (square k *ℤ d))) ≤ℤ (d *ℤ (square i +ℤ (i +ℤ i))) = times_mono d ((square n *ℤ low) *ℤ (square k *ℤ d)) (square i +ℤ (i +ℤ i)) d0 (omega (arith, linear, over, more)) in
      let e : d *ℤ ((square n *ℤ low) *ℤ (square k *ℤ d)) ≡ square ((k *ℤ d) *ℤ n) *ℤ low = simp ring in
      let s : d *ℤ (square i +ℤ (i +ℤ i)) ≡ d *ℤ square i +ℤ (d *ℤ i +ℤ d *ℤ i) = simp ring (omega (arith, linear)) in
      omega (arith, linear, a, e, s)
    where
      more : square (i +ℤ pos 1) ≡ (square i +ℤ (i +ℤ i)) +ℤ pos 1
      more = simp ring (omega (arith, linear))

  pub ring_low : AtMostLonger (((k *ℤ d) *ℤ n) *ℤ pos 1) (square k *ℤ (d *ℤ square i)) (square k *ℤ (square ((k *ℤ d) *ℤ n) *ℤ high))
  ring_low =
      let a : (square ((k *ℤ d) *ℤ n) *ℤ low) ≤ℤ (square ((k *ℤ d) *ℤ n) *ℤ high) = times_mono (square ((k *ℤ d) *ℤ n)) low high (square_from_zero ((k *ℤ d) *ℤ n)) lh in
      let b : (square k *ℤ (d *ℤ square i)) ≤ℤ (square k *ℤ (square ((k *ℤ d) *ℤ n) *ℤ high)) = times_mono (square k) (d *ℤ square i) (square ((k *ℤ d) *ℤ n) *ℤ high) (square_from_zero k) (omega (arith, linear, a, place_under)) in
      inl (omega (arith, linear, b, square_from_zero (((k *ℤ d) *ℤ n) *ℤ pos 1)))

  pub ring_high : AtMostLonger (((k *ℤ d) *ℤ n) *ℤ pos 1) (square k *ℤ (square ((k *ℤ d) *ℤ n) *ℤ low)) (square k *ℤ (d *ℤ square i))
  ring_high = by (((k *ℤ d) *ℤ n) *ℤ pos 1) (square k *ℤ (square ((k *ℤ d) *ℤ n) *ℤ low)) (square k *ℤ (d *ℤ square i)) (square k *ℤ (d *ℤ i)) (times_from_zero (square k) (d *ℤ i) (square_from_zero k) (times_from_zero d i d0 hi)) within long
    where
      within : (square k *ℤ (square ((k *ℤ d) *ℤ n) *ℤ low)) ≤ℤ (square k *ℤ (d *ℤ square i) +ℤ (square k *ℤ (d *ℤ i) +ℤ square k *ℤ (d *ℤ i)))
      within =
          let a : (square k *ℤ (square ((k *ℤ d) *ℤ n) *ℤ low)) ≤ℤ (square k *ℤ (d *ℤ square i +ℤ (d *ℤ i +ℤ d *ℤ i))) = times_mono (square k) (square ((k *ℤ d) *ℤ n) *ℤ low) (d *ℤ square i +ℤ (d *ℤ i +ℤ d *ℤ i)) (square_from_zero k) place_over in
          let e : square k *ℤ (d *ℤ square i +ℤ (d *ℤ i +ℤ d *ℤ i)) ≡ square k *ℤ (d *ℤ square i) +ℤ (square k *ℤ (d *ℤ i) +ℤ square k *ℤ (d *ℤ i)) = simp ring (omega (arith, linear)) in
          omega (arith, linear, a, e)

      long : square (square k *ℤ (d *ℤ i)) ≤ℤ (square (((k *ℤ d) *ℤ n) *ℤ pos 1) *ℤ (square k *ℤ (d *ℤ square i)))
      long =
          let c : pos 0 ≤ℤ (square (square k *ℤ (d *ℤ i))) = square_from_zero (square k *ℤ (d *ℤ i)) in
          let a : (square (square k *ℤ (d *ℤ i)) *ℤ pos 1) ≤ℤ (square (square k *ℤ (d *ℤ i)) *ℤ (d *ℤ square n)) = times_mono (square (square k *ℤ (d *ℤ i))) (pos 1) (d *ℤ square n) c (over_zero d (square n) hd (over_zero n n hn hn)) in
          let e : square (square k *ℤ (d *ℤ i)) *ℤ pos 1 ≡ square (square k *ℤ (d *ℤ i)) = simp ring in
          let f : square (square k *ℤ (d *ℤ i)) *ℤ (d *ℤ square n) ≡ square (((k *ℤ d) *ℤ n) *ℤ pos 1) *ℤ (square k *ℤ (d *ℤ square i)) = simp ring in
          omega (arith, linear, a, e, f)

      by : (v a b u : ℤ) → pos 0 ≤ℤ u → a ≤ℤ (b +ℤ (u +ℤ u)) → square u ≤ℤ (square v *ℤ b) → AtMostLonger v a b
      by v a b u hu l s = elim (le_or_lt (a -ℤ b -ℤ square v) (pos 0)) [ inl h ↦ inl h | inr h ↦ inr (over_it h) ]
        where
          over_it : pos 0 <ℤ (a -ℤ b -ℤ square v) → square (a -ℤ b -ℤ square v) ≤ℤ (square (v +ℤ v) *ℤ b)
          over_it h =
              let f : square (a -ℤ b -ℤ square v) ≤ℤ square (u +ℤ u) = square_mono (a -ℤ b -ℤ square v) (u +ℤ u) (omega (arith, linear, h)) (omega (arith, linear, l, square_from_zero v)) in
              let e : square (u +ℤ u) ≡ four (square u) = simp ring (omega (arith, linear)) in
              let g : square (v +ℤ v) *ℤ b ≡ four (square v *ℤ b) = simp ring (omega (arith, linear)) in
              omega (arith, linear, f, e, g, s)

-- ---- in the words of the definitions

square_two : (z : ℤ) → square (pos 2) *ℤ z ≡ four z
square_two z = omega (arith, ints)

-- the place i/m of the way from c to the point
abbrev along : Spot → ℤ → (m : ℤ) → pos 1 ≤ℤ m → Point → Point
along c i m some p = record { x = m *ℤ c.x +ℤ i *ℤ (p.x -ℤ p.n *ℤ c.x); y = m *ℤ c.y +ℤ i *ℤ (p.y -ℤ p.n *ℤ c.y); n = m; positive = some }

way : (m i x n c : ℤ) → (m *ℤ c +ℤ i *ℤ (x -ℤ n *ℤ c)) -ℤ m *ℤ c ≡ i *ℤ (x -ℤ n *ℤ c)
way m i x n c = omega (arith, linear)

module _ (c : Spot) (i m : ℤ) (hi : pos 0 ≤ℤ i) (some : pos 1 ≤ℤ m) (p : Point) where
  side_along : (s : Spot) → side_of c s (along c i m some p) ≡ i *ℤ side_of c s p
  side_along s = rw (way m i p.x p.n c.x, way m i p.y p.n c.y) (by (s.x -ℤ c.x) (s.y -ℤ c.y) (p.x -ℤ p.n *ℤ c.x) (p.y -ℤ p.n *ℤ c.y))
    where
      by : (sx sy x y : ℤ) → sx *ℤ (i *ℤ y) -ℤ sy *ℤ (i *ℤ x) ≡ i *ℤ (sx *ℤ y -ℤ sy *ℤ x)
      by sx sy x y = simp ring (omega (arith, linear))

  left_along : (s : Spot) → pos 0 ≤ℤ side_of c s p → pos 0 ≤ℤ side_of c s (along c i m some p)
  left_along s h = rw (side_along s) (times_from_zero i (side_of c s p) hi h)

  right_along : (s : Spot) → side_of c s p ≤ℤ pos 0 → side_of c s (along c i m some p) ≤ℤ pos 0
  right_along s h = rw (side_along s) (let none : i *ℤ pos 0 ≡ pos 0 = simp ring in omega (arith, linear, none, times_mono i (side_of c s p) (pos 0) hi h))

  turn_along : (s e : Spot) → InTurn c s e p → InTurn c s e (along c i m some p)
  turn_along s e (inl less) = inl (less.0, left_along s less.1, right_along e less.2)
  turn_along s e (inr (inl more)) = inr (inl (more.0, elim more.1 [ inl h ↦ inl (left_along s h) | inr h ↦ inr (right_along e h) ]))
  turn_along s e (inr (inr (inl half))) = inr (inr (inl (half.0, half.1, left_along s half.2)))
  turn_along s e (inr (inr (inr same))) = inr (inr (inr same))

  reach_along : reach_of c (along c i m some p) ≡ reach_of c p *ℤ square i
  reach_along = rw (way m i p.x p.n c.x, way m i p.y p.n c.y) (by (p.x -ℤ p.n *ℤ c.x) (p.y -ℤ p.n *ℤ c.y))
    where
      by : (x y : ℤ) → square (i *ℤ x) +ℤ square (i *ℤ y) ≡ (square x +ℤ square y) *ℤ square i
      by x y = simp ring (omega (arith, linear))

-- ---- the ends are places

-- the side of a spot is a cross product
spot_side : (c a b : Spot) → side_of c a (at b) ≡ cross_of c a b
spot_side c a b = rw (one-times c.x, one-times c.y) refl

-- a point that lies in each kind of turn
turn_by : (c s e : Spot) (p : Point) → (pos 0 <ℤ cross_of c s e → (pos 0 ≤ℤ side_of c s p) × (side_of c e p ≤ℤ pos 0)) → (pos 0 ≤ℤ side_of c s p) ⊎ (side_of c e p ≤ℤ pos 0) → (cross_of c s e ≡ pos 0 → pos 0 ≤ℤ side_of c s p) → MayTurn c s e p
turn_by c s e p less more half = elim (le_or_lt (cross_of c s e) (pos 0)) [
  | inr g ↦ (let l = less g in inl (inl (g, l.0, l.1)))
  | inl l ↦ elim (le_or_lt (pos 0) (cross_of c s e)) [
    | inr g ↦ inl (inr (inl (g, more)))
    | inl k ↦ elim (le_or_lt (pos 0) (dot_of c s e)) [
      | inl f ↦ inr (omega (arith, linear, l, k), f)
      | inr f ↦ inl (inr (inr (inl (omega (arith, linear, l, k), f, half (omega (arith, linear, l, k))))))
    ]
  ]
]

turn_start : (c s e : Spot) → MayTurn c s e (at s)
turn_start c s e = turn_by c s e (at s) (λ g. (itself, omega (arith, linear, g, spot_side c e s, crossed_back (s.x -ℤ c.x) (s.y -ℤ c.y) (e.x -ℤ c.x) (e.y -ℤ c.y)))) (inl itself) (λ flat. itself)
  where
    itself : pos 0 ≤ℤ side_of c s (at s)
    itself = omega (arith, linear, spot_side c s s, flat_self c s s refl)

    crossed_back : (sx sy ex ey : ℤ) → ex *ℤ sy -ℤ ey *ℤ sx ≡ neg_ℤ (sx *ℤ ey -ℤ sy *ℤ ex)
    crossed_back sx sy ex ey = simp ring (omega (arith, linear))

turn_end : (c s e : Spot) → MayTurn c s e (at e)
turn_end c s e = turn_by c s e (at e) (λ g. (omega (arith, linear, g, spot_side c s e), itself)) (inr itself) (λ flat. omega (arith, linear, flat, spot_side c s e))
  where
    itself : side_of c e (at e) ≤ℤ pos 0
    itself = omega (arith, linear, spot_side c e e, flat_self c e e refl)

-- a spot between two lengths from c is in their ring
ring_at : (c a : Spot) (low high k : ℤ) → low ≤ℤ dot_of c a a → dot_of c a a ≤ℤ high → InRing k (pos 1) c low high (at a)
ring_at c a low high k from to =
    let e : reach_of c (at a) ≡ dot_of c a a = by a.x a.y c.x c.y in
    let one : (z : ℤ) → square (pos 1) *ℤ z ≡ z = λ z. omega (arith, ints) in
    rw (e, one low, one high) (
      inl (omega (arith, linear, times_mono (square k) (dot_of c a a) high (square_from_zero k) to, square_from_zero (pos 1 *ℤ pos 1))),
      inl (omega (arith, linear, times_mono (square k) low (dot_of c a a) (square_from_zero k) from, square_from_zero (pos 1 *ℤ pos 1))),
    )
  where
    by : (ax ay cx cy : ℤ) → square (ax -ℤ pos 1 *ℤ cx) +ℤ square (ay -ℤ pos 1 *ℤ cy) ≡ (ax -ℤ cx) *ℤ (ax -ℤ cx) +ℤ (ay -ℤ cy) *ℤ (ay -ℤ cy)
    by ax ay cx cy = simp ring (omega (arith, linear))

-- ---- near places

double_square : (k : ℤ) → square (pos 2 *ℤ k) ≡ four (square k)
double_square k = let e : pos 2 *ℤ k ≡ k +ℤ k = omega (arith, ints) in rw e (simp ring (omega (arith, linear)))

near_at : (a : Spot) (w k : ℤ) (p : Point) → pos 0 ≤ℤ w → pos 1 ≤ℤ k → IsNear (pos 2) w a p → AreNear (pos 2 *ℤ k) (k *ℤ w +ℤ pos 2) (at a) p
near_at a w k p hw hk h =
    let k0 : pos 0 ≤ℤ k = omega (arith, linear, hk) in
    let n0 : pos 0 ≤ℤ p.n = omega (arith, linear, p.positive) in
    let kw : pos 0 ≤ℤ (k *ℤ w) = times_from_zero k w k0 hw in
    let e : square (p.n *ℤ a.x -ℤ pos 1 *ℤ p.x) +ℤ square (p.n *ℤ a.y -ℤ pos 1 *ℤ p.y) ≡ reach_of a p = by p.n a.x p.x a.y p.y in
    let f : (square k *ℤ (square (pos 2) *ℤ reach_of a p)) ≤ℤ (square k *ℤ square (p.n *ℤ w)) = times_mono (square k) (square (pos 2) *ℤ reach_of a p) (square (p.n *ℤ w)) (square_from_zero k) h in
    let g : square k *ℤ (square (pos 2) *ℤ reach_of a p) ≡ square (pos 2 *ℤ k) *ℤ reach_of a p = rw (square_two (reach_of a p), double_square k) (quadrupled (square k) (reach_of a p)) in
    let s : square k *ℤ square (p.n *ℤ w) ≡ square (p.n *ℤ (k *ℤ w)) = squared k p.n w in
    let o : pos 1 *ℤ p.n *ℤ (k *ℤ w +ℤ pos 2) ≡ p.n *ℤ (k *ℤ w +ℤ pos 2) = simp ring in
    let m : (p.n *ℤ (k *ℤ w)) ≤ℤ (p.n *ℤ (k *ℤ w +ℤ pos 2)) = times_mono p.n (k *ℤ w) (k *ℤ w +ℤ pos 2) n0 (omega (arith, ints)) in
    let q : square (p.n *ℤ (k *ℤ w)) ≤ℤ square (p.n *ℤ (k *ℤ w +ℤ pos 2)) = square_mono (p.n *ℤ (k *ℤ w)) (p.n *ℤ (k *ℤ w +ℤ pos 2)) (times_from_zero p.n (k *ℤ w) n0 kw) m in
    rw (e, o) (omega (arith, linear, f, g, s, q))
  where
    by : (n ax px ay py : ℤ) → square (n *ℤ ax -ℤ pos 1 *ℤ px) +ℤ square (n *ℤ ay -ℤ pos 1 *ℤ py) ≡ square (px -ℤ n *ℤ ax) +ℤ square (py -ℤ n *ℤ ay)
    by n ax px ay py = simp ring (omega (arith, linear))

    quadrupled : (u z : ℤ) → u *ℤ four z ≡ four u *ℤ z
    quadrupled u z = simp ring (omega (arith, linear))

    squared : (k n w : ℤ) → square k *ℤ square (n *ℤ w) ≡ square (n *ℤ (k *ℤ w))
    squared k n w = simp ring

-- n times m times the way from the point to the place
gap : (n m i x c : ℤ) → n *ℤ (m *ℤ c +ℤ i *ℤ (x -ℤ n *ℤ c)) -ℤ m *ℤ x ≡ (n *ℤ i -ℤ m) *ℤ (x -ℤ n *ℤ c)
gap n m i x c = simp ring (omega (arith, linear))

near_along : (c : Spot) (i k d w : ℤ) (p : Point) (some : pos 1 ≤ℤ ((k *ℤ d) *ℤ p.n)) → reach_of c p ≡ d → pos 0 ≤ℤ d → square ((k *ℤ d -ℤ i) +ℤ (k *ℤ d -ℤ i)) ≤ℤ (d *ℤ square (p.n *ℤ (k *ℤ w +ℤ (pos 1 +ℤ pos 1)))) → AreNear (pos 2 *ℤ k) (k *ℤ w +ℤ pos 2) (along c i ((k *ℤ d) *ℤ p.n) some p) p
near_along c i k d w p some reach hd h =
    let two : pos 2 ≡ pos 1 +ℤ pos 1 = omega (arith, ints) in
    rw (gap p.n ((k *ℤ d) *ℤ p.n) i p.x c.x, gap p.n ((k *ℤ d) *ℤ p.n) i p.y c.y, double_square k) (by p.n (p.x -ℤ p.n *ℤ c.x) (p.y -ℤ p.n *ℤ c.y) (k *ℤ w +ℤ pos 2) reach (subst (λ (z : ℤ). square ((k *ℤ d -ℤ i) +ℤ (k *ℤ d -ℤ i)) ≤ℤ (d *ℤ square (p.n *ℤ (k *ℤ w +ℤ z)))) (sym two) h))
  where
    by : (n x y u : ℤ) → square x +ℤ square y ≡ d → square ((k *ℤ d -ℤ i) +ℤ (k *ℤ d -ℤ i)) ≤ℤ (d *ℤ square (n *ℤ u)) → (four (square k) *ℤ (square ((n *ℤ i -ℤ (k *ℤ d) *ℤ n) *ℤ x) +ℤ square ((n *ℤ i -ℤ (k *ℤ d) *ℤ n) *ℤ y))) ≤ℤ square ((k *ℤ d) *ℤ n *ℤ n *ℤ u)
    by n x y u e l =
        let left : four (square k) *ℤ (square ((n *ℤ i -ℤ (k *ℤ d) *ℤ n) *ℤ x) +ℤ square ((n *ℤ i -ℤ (k *ℤ d) *ℤ n) *ℤ y)) ≡ (square (k *ℤ n) *ℤ (square x +ℤ square y)) *ℤ square ((k *ℤ d -ℤ i) +ℤ (k *ℤ d -ℤ i)) = expand (k *ℤ d) n x y in
        let right : (square (k *ℤ n) *ℤ d) *ℤ (d *ℤ square (n *ℤ u)) ≡ square ((k *ℤ d) *ℤ n *ℤ n *ℤ u) = simp ring in
        let f : ((square (k *ℤ n) *ℤ d) *ℤ square ((k *ℤ d -ℤ i) +ℤ (k *ℤ d -ℤ i))) ≤ℤ ((square (k *ℤ n) *ℤ d) *ℤ (d *ℤ square (n *ℤ u))) = times_mono (square (k *ℤ n) *ℤ d) (square ((k *ℤ d -ℤ i) +ℤ (k *ℤ d -ℤ i))) (d *ℤ square (n *ℤ u)) (times_from_zero (square (k *ℤ n)) d (square_from_zero (k *ℤ n)) hd) l in
        rw (left, e) (omega (arith, linear, f, right))
      where
        expand : (v n x y : ℤ) → four (square k) *ℤ (square ((n *ℤ i -ℤ v *ℤ n) *ℤ x) +ℤ square ((n *ℤ i -ℤ v *ℤ n) *ℤ y)) ≡ (square (k *ℤ n) *ℤ (square x +ℤ square y)) *ℤ square ((v -ℤ i) +ℤ (v -ℤ i))
        expand v n x y =
            let e : n *ℤ i -ℤ v *ℤ n ≡ n *ℤ (i -ℤ v) = simp ring (omega (arith, linear)) in
            let f : square ((v -ℤ i) +ℤ (v -ℤ i)) ≡ four (square (i -ℤ v)) = simp ring (omega (arith, linear)) in
            rw (e, f) (plain n (i -ℤ v) x y)
          where
            plain : (n g x y : ℤ) → four (square k) *ℤ (square ((n *ℤ g) *ℤ x) +ℤ square ((n *ℤ g) *ℤ y)) ≡ (square (k *ℤ n) *ℤ (square x +ℤ square y)) *ℤ four (square g)
            plain n g x y = simp ring (omega (arith, linear))

-- ---- the law

at_spot : (a : Arc) (s : Spot) (k : ℤ) (p : Point) → MayTurn a.centre a.start a.end (at s) → inmost a ≤ℤ dot_of a.centre s s → dot_of a.centre s s ≤ℤ outmost a → pos 1 ≤ℤ k → IsNear (pos 2) (pos a.width) s p → HasPlace a k p
at_spot a s k p turn over under some h = record { place = at s; turn = turn; ring = ring_at a.centre s (inmost a) (outmost a) k over under; near = near_at s (pos a.width) k p (omega (arith, ints)) some h }

at_start : (a : Arc) (k : ℤ) (p : Point) → pos 1 ≤ℤ k → IsNear (pos 2) (pos a.width) a.start p → HasPlace a k p
at_start a k p = at_spot a a.start k p (turn_start a.centre a.start a.end) (start_over a) (start_under a)

at_end : (a : Arc) (k : ℤ) (p : Point) → pos 1 ≤ℤ k → IsNear (pos 2) (pos a.width) a.end p → HasPlace a k p
at_end a k p = at_spot a a.end k p (turn_end a.centre a.start a.end) (end_over a) (end_under a)

-- where the point is the centre, the pen is as long as the radius
from_centre : (a : Arc) (p : Point) → reach_of a.centre p ≡ pos 0 → AtMostLonger (p.n *ℤ pos a.width) (square (pos 2) *ℤ (square p.n *ℤ outmost a)) (square (pos 2) *ℤ reach_of a.centre p) → IsNear (pos 2) (pos a.width) a.start p
from_centre a p none h = rw (square_two (reach_of a.start p)) (omega (arith, linear, r, m, square_two (square p.n *ℤ outmost a), longest))
  where
    longest : (square (pos 2) *ℤ (square p.n *ℤ outmost a)) ≤ℤ square (p.n *ℤ pos a.width)
    longest = only_pen (p.n *ℤ pos a.width) (square (pos 2) *ℤ (square p.n *ℤ outmost a)) (rw (none, times-zero (square (pos 2))) at h)

    zeros : (p.x -ℤ p.n *ℤ a.centre.x ≡ pos 0) × (p.y -ℤ p.n *ℤ a.centre.y ≡ pos 0)
    zeros = norm_none (p.x -ℤ p.n *ℤ a.centre.x) (p.y -ℤ p.n *ℤ a.centre.y) (omega (arith, linear, none))

    r : reach_of a.start p ≡ square p.n *ℤ dot_of a.centre a.start a.start
    r = seen p.x p.y p.n a.start.x a.start.y a.centre.x a.centre.y zeros.0 zeros.1
      where
        shifted : (x n s c : ℤ) → x -ℤ n *ℤ c ≡ pos 0 → x -ℤ n *ℤ s ≡ neg_ℤ (n *ℤ (s -ℤ c))
        shifted x n s c e = let f : n *ℤ (s -ℤ c) ≡ n *ℤ s -ℤ n *ℤ c = simp ring in omega (arith, linear, e, f)

        seen : (px py n sx sy cx cy : ℤ) → px -ℤ n *ℤ cx ≡ pos 0 → py -ℤ n *ℤ cy ≡ pos 0 → square (px -ℤ n *ℤ sx) +ℤ square (py -ℤ n *ℤ sy) ≡ square n *ℤ ((sx -ℤ cx) *ℤ (sx -ℤ cx) +ℤ (sy -ℤ cy) *ℤ (sy -ℤ cy))
        seen px py n sx sy cx cy e f = rw (shifted px n sx cx e, shifted py n sy cy f) (plain n (sx -ℤ cx) (sy -ℤ cy))
          where
            plain : (n x y : ℤ) → square (neg_ℤ (n *ℤ x)) +ℤ square (neg_ℤ (n *ℤ y)) ≡ square n *ℤ (x *ℤ x +ℤ y *ℤ y)
            plain n x y = simp ring (omega (arith, linear))

    m : (square p.n *ℤ dot_of a.centre a.start a.start) ≤ℤ (square p.n *ℤ outmost a)
    m = times_mono (square p.n) (dot_of a.centre a.start a.start) (outmost a) (square_from_zero p.n) (start_under a)

-- a place of the turn in the direction of p, at a distance between low and high
along_turn : (a : Arc) (k : ℤ) (p : Point) (low high d : ℤ) → pos 1 ≤ℤ k → pos 0 ≤ℤ low → low ≤ℤ high → inmost a ≤ℤ low → high ≤ℤ outmost a → reach_of a.centre p ≡ d → pos 1 ≤ℤ d → InTurn a.centre a.start a.end p → InRing (pos 2) (pos a.width) a.centre high low p → HasPlace a k p
along_turn a k p low high d some low_from lh from to reach hd turn within =
    with_root (root_of ((square p.n *ℤ low) *ℤ (square k *ℤ d)) (times_from_zero (square p.n *ℤ low) (square k *ℤ d) (times_from_zero (square p.n) low (square_from_zero p.n) low_from) (times_from_zero (square k) d (square_from_zero k) (omega (arith, linear, hd)))))
  where
    m_some : pos 1 ≤ℤ ((k *ℤ d) *ℤ p.n)
    m_some = over_zero (k *ℤ d) p.n (over_zero k d some hd) p.positive

    fours : (z : ℤ) → square (pos 2) *ℤ z ≡ four z
    fours = square_two

    not_over : AtMostLonger (p.n *ℤ pos a.width) (four d) (four (square p.n *ℤ low))
    not_over = rw (← (fours d), ← (fours (square p.n *ℤ low)), ← reach) within.0

    not_under : AtMostLonger (p.n *ℤ pos a.width) (four (square p.n *ℤ high)) (four d)
    not_under = rw (← (fours d), ← (fours (square p.n *ℤ high)), ← reach) within.1

    with_root : Root ((square p.n *ℤ low) *ℤ (square k *ℤ d)) → HasPlace a k p
    with_root r = record {
      place = along a.centre r.i ((k *ℤ d) *ℤ p.n) m_some p;
      turn = inl (turn_along a.centre r.i ((k *ℤ d) *ℤ p.n) r.from m_some p a.start a.end turn);
      ring = ring_within k (pos 1) a.centre low high (inmost a) (outmost a) (along a.centre r.i ((k *ℤ d) *ℤ p.n) m_some p) from to narrow;
      near = near_along a.centre r.i k d (pos a.width) p m_some reach (omega (arith, linear, hd)) (apart p.n k d r.i (pos a.width) low high p.positive some hd r.from (omega (arith, ints)) low_from lh r.under r.over not_over not_under);
    }
      where
        narrow : InRing k (pos 1) a.centre low high (along a.centre r.i ((k *ℤ d) *ℤ p.n) m_some p)
        narrow = rw (reach_along a.centre r.i ((k *ℤ d) *ℤ p.n) r.from m_some p, reach) (
          ring_low p.n k d r.i (pos a.width) low high p.positive some hd r.from (omega (arith, ints)) low_from lh r.under r.over,
          ring_high p.n k d r.i (pos a.width) low high p.positive some hd r.from (omega (arith, ints)) low_from lh r.under r.over,
        )

same : (z : ℤ) → z ≤ℤ z
same z = omega (arith, linear)

in_turn : (a : Arc) (k : ℤ) (p : Point) → pos 1 ≤ℤ k → InTurn a.centre a.start a.end p → InRing (pos 2) (pos a.width) a.centre (outmost a) (inmost a) p → HasPlace a k p
in_turn a k p some turn within = elim (le_or_lt (pos 1) (reach_of a.centre p)) [
  | inr none ↦ at_start a k p some (from_centre a p (omega (arith, linear, none, square_from_zero (p.x -ℤ p.n *ℤ a.centre.x), square_from_zero (p.y -ℤ p.n *ℤ a.centre.y))) within.1)
  | inl hd ↦ along_turn a k p (inmost a) (outmost a) (reach_of a.centre p) some (inmost_from a) (in_order a) (same (inmost a)) (same (outmost a)) refl hd turn within
]

pub surely_is_possibly : SurelyIsPossibly
surely_is_possibly a p (inl (_, turn, within)) meant k some = in_turn a k p some turn within
surely_is_possibly a p (inr (inl h)) meant k some = at_start a k p some h
surely_is_possibly a p (inr (inr h)) meant k some = at_end a k p some h

pub possibly_of_each : PossiblyOfEach
possibly_of_each a f p low high off turn within meant k some = along_turn a k p f f (reach_of a.centre p) some (omega (arith, linear, low, inmost_from a)) (same f) low high refl off turn within

pub possibly_at_ends : PossiblyAtEnds
possibly_at_ends a p (inl h) meant k some = at_start a k p some h
possibly_at_ends a p (inr h) meant k some = at_end a k p some h
