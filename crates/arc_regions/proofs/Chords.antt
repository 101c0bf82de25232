-- A disc and the triangle over one of its chords, from the centre.
use Rattle.std.proofs.Common.{◌≡◌, inl, inr, ℤ, pos, neg_ℤ, ◌+ℤ◌, ◌-ℤ◌, ◌*ℤ◌, ◌≤ℤ◌, ◌<ℤ◌, arith, refl, ◌∙◌}
use Rattle.planar.specs.Plane.{square}
use Rattle.planar.proofs.Ring.{ring, linear, le_or_lt, times_from_zero, square_from_zero, square_mono, square_cancel, square_over, times_mono, times_mono_right, times_cancel, over_zero, zero-times, neg-mul, mul-neg, square-neg}
use Rattle.arcs.proofs.Vectors.{norm, norm_from_zero, lagrange}

-- two vectors as long as one another that are not one have a scalar product under the square of that length
pub under_square : (sx sy ex ey r : ℤ) → norm sx sy ≡ r → norm ex ey ≡ r → pos 1 ≤ℤ square (sx *ℤ ey -ℤ sy *ℤ ex) → (sx *ℤ ex +ℤ sy *ℤ ey) <ℤ r
under_square sx sy ex ey r hs he turns = elim (le_or_lt r (sx *ℤ ex +ℤ sy *ℤ ey)) [ inr g ↦ g | inl l ↦ absurd (past l) ]
  where
    past : r ≤ℤ (sx *ℤ ex +ℤ sy *ℤ ey) → ⊥
    past l =
        let f : square r ≤ℤ square (sx *ℤ ex +ℤ sy *ℤ ey) = square_mono r (sx *ℤ ex +ℤ sy *ℤ ey) (omega (arith, linear, hs, norm_from_zero sx sy)) l in
        let g : square (sx *ℤ ex +ℤ sy *ℤ ey) +ℤ square (sx *ℤ ey -ℤ sy *ℤ ex) ≡ r *ℤ r = rw (hs, he) at (lagrange sx sy ex ey) in
        omega (arith, linear, f, g, turns)

module _ (x y sx sy ex ey n d u v r : ℤ) (some : pos 1 ≤ℤ n) (hd : pos 1 ≤ℤ d) (across : d *ℤ x ≡ u *ℤ sx +ℤ v *ℤ ex) (high : d *ℤ y ≡ u *ℤ sy +ℤ v *ℤ ey) (hs : norm sx sy ≡ r) (he : norm ex ey ≡ r)
    (less : (sx *ℤ ex +ℤ sy *ℤ ey) <ℤ r) where
  abbrev q : ℤ
  q = sx *ℤ ex +ℤ sy *ℤ ey

  r_from : pos 0 ≤ℤ r
  r_from = omega (arith, linear, hs, norm_from_zero sx sy)

  nd_from : pos 0 ≤ℤ (n *ℤ d)
  nd_from = times_from_zero n d (omega (arith, linear, some)) (omega (arith, linear, hd))

  -- d times as far as the point is, by both weights
  spread : square d *ℤ norm x y ≡ square (u +ℤ v) *ℤ r -ℤ ((u *ℤ v) *ℤ (r -ℤ q) +ℤ (u *ℤ v) *ℤ (r -ℤ q))
  spread =
      let a : square d *ℤ norm x y ≡ norm (d *ℤ x) (d *ℤ y) = simp ring (omega (arith, linear)) in
      let e : norm (d *ℤ x) (d *ℤ y) ≡ norm (u *ℤ sx +ℤ v *ℤ ex) (u *ℤ sy +ℤ v *ℤ ey) = rw (across, high) refl in
      let b : norm (u *ℤ sx +ℤ v *ℤ ex) (u *ℤ sy +ℤ v *ℤ ey) ≡ (square u *ℤ norm sx sy +ℤ square v *ℤ norm ex ey) +ℤ ((u *ℤ v) *ℤ q +ℤ (u *ℤ v) *ℤ q) = simp ring (omega (arith, linear)) in
      omega (arith, linear, a, e, rw (hs, he) at b, parts u v r q)
    where
      parts : (u v r q : ℤ) → square (u +ℤ v) *ℤ r -ℤ ((u *ℤ v) *ℤ (r -ℤ q) +ℤ (u *ℤ v) *ℤ (r -ℤ q)) ≡ (square u *ℤ r +ℤ square v *ℤ r) +ℤ ((u *ℤ v) *ℤ q +ℤ (u *ℤ v) *ℤ q)
      parts u v r q = simp ring (omega (arith, linear))

  scaled : square d *ℤ (square n *ℤ r) ≡ square (n *ℤ d) *ℤ r
  scaled = simp ring

  -- in the triangle: in the disc
  pub within : pos 0 ≤ℤ u → pos 0 ≤ℤ v → (u +ℤ v) ≤ℤ (n *ℤ d) → norm x y ≤ℤ (square n *ℤ r)
  within hu hv h = times_cancel (square d) (norm x y) (square n *ℤ r) (square_over d hd) (omega (arith, linear, spread, scaled, a, b))
    where
      a : pos 0 ≤ℤ ((u *ℤ v) *ℤ (r -ℤ q))
      a = times_from_zero (u *ℤ v) (r -ℤ q) (times_from_zero u v hu hv) (omega (arith, linear, less))

      b : (square (u +ℤ v) *ℤ r) ≤ℤ (square (n *ℤ d) *ℤ r)
      b = times_mono_right r (square (u +ℤ v)) (square (n *ℤ d)) r_from (square_mono (u +ℤ v) (n *ℤ d) (omega (arith, linear, hu, hv)) h)

  -- in the disc, beyond the chord, and not between both directions: at the end s
  module _ (hv : v ≤ℤ pos 0) (h : (n *ℤ d) ≤ℤ (u +ℤ v)) (disc : norm x y ≤ℤ (square n *ℤ r)) where
    u_some : pos 1 ≤ℤ u
    u_some = omega (arith, linear, hv, h, over_zero n d some hd)

    bound : (square (u +ℤ v) *ℤ r -ℤ ((u *ℤ v) *ℤ (r -ℤ q) +ℤ (u *ℤ v) *ℤ (r -ℤ q))) ≤ℤ (square (n *ℤ d) *ℤ r)
    bound = omega (arith, linear, spread, scaled, times_mono (square d) (norm x y) (square n *ℤ r) (square_from_zero d) disc)

    wide : (square (n *ℤ d) *ℤ r) ≤ℤ (square (u +ℤ v) *ℤ r)
    wide = times_mono_right r (square (n *ℤ d)) (square (u +ℤ v)) r_from (square_mono (n *ℤ d) (u +ℤ v) nd_from h)

    v_none : v ≡ pos 0
    v_none = elim (le_or_lt (pos 0) v) [ inl l ↦ omega (arith, linear, hv, l) | inr g ↦ absurd (some_left g) ]
      where
        some_left : v <ℤ pos 0 → ⊥
        some_left g =
            let a : pos 1 ≤ℤ (u *ℤ neg_ℤ v) = over_zero u (neg_ℤ v) u_some (omega (arith, linear, g)) in
            let b : pos 1 ≤ℤ ((u *ℤ neg_ℤ v) *ℤ (r -ℤ q)) = over_zero (u *ℤ neg_ℤ v) (r -ℤ q) a (omega (arith, linear, less)) in
            let e : (u *ℤ neg_ℤ v) *ℤ (r -ℤ q) ≡ neg_ℤ ((u *ℤ v) *ℤ (r -ℤ q)) = rw (mul-neg u v) (neg-mul (u *ℤ v) (r -ℤ q)) in
            omega (arith, linear, bound, wide, b, e)

    r_some : pos 1 ≤ℤ r
    r_some = elim (le_or_lt (pos 1) r) [ inl l ↦ l | inr g ↦ absurd (none (omega (arith, linear, g, r_from))) ]
      where
        none : r ≡ pos 0 → ⊥
        none z =
            let f : square q +ℤ square (sx *ℤ ey -ℤ sy *ℤ ex) ≡ r *ℤ r = rw (hs, he) at (lagrange sx sy ex ey) in
            let g : r *ℤ r ≡ pos 0 = rw z (omega (arith, linear, zero-times (pos 0))) in
            let m : pos 1 ≤ℤ square (neg_ℤ q) = square_over (neg_ℤ q) (omega (arith, linear, less, z)) in
            omega (arith, linear, f, g, m, square-neg q, square_from_zero (sx *ℤ ey -ℤ sy *ℤ ex))

    u_is : u ≡ n *ℤ d
    u_is = omega (arith, linear, h, v_none, square_cancel u (n *ℤ d) nd_from (times_cancel r (square u) (square (n *ℤ d)) r_some (omega (arith, linear, rw v_none at bound, plain u r q, turn r (square u), turn r (square (n *ℤ d))))))
      where
        turn : (a b : ℤ) → a *ℤ b ≡ b *ℤ a
        turn a b = simp ring

        plain : (u r q : ℤ) → square (u +ℤ pos 0) *ℤ r -ℤ ((u *ℤ pos 0) *ℤ (r -ℤ q) +ℤ (u *ℤ pos 0) *ℤ (r -ℤ q)) ≡ square u *ℤ r
        plain u r q = simp ring (omega (arith, linear))

    at_end : (z s e : ℤ) → d *ℤ z ≡ u *ℤ s +ℤ v *ℤ e → z ≡ n *ℤ s
    at_end z s e f =
        let g : d *ℤ z ≡ d *ℤ (n *ℤ s) = f ∙ rw (u_is, v_none) (last n d s e) in
        omega (arith, linear, times_cancel d z (n *ℤ s) hd (omega (arith, linear, g)), times_cancel d (n *ℤ s) z hd (omega (arith, linear, g)))
      where
        last : (n d s e : ℤ) → (n *ℤ d) *ℤ s +ℤ pos 0 *ℤ e ≡ d *ℤ (n *ℤ s)
        last n d s e = simp ring (omega (arith, linear))

    pub at_start : (x ≡ n *ℤ sx) × (y ≡ n *ℤ sy)
    at_start = (at_end x sx ex across, at_end y sy ey high)
