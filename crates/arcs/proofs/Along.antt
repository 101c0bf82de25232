-- Vectors of one direction: their lengths add up.
use Rattle.std.proofs.Common.{◌≡◌, ◌⊎◌, inl, inr, ℤ, pos, neg_ℤ, ◌+ℤ◌, ◌-ℤ◌, ◌*ℤ◌, ◌≤ℤ◌, ◌<ℤ◌, arith}
use Rattle.planar.specs.Plane.{square}
use Rattle.planar.proofs.Ring.{ring, linear, le_or_lt, times_from_zero, square_from_zero, square_mono, times_mono, times_cancel, square_cancel, times-zero, zero-times}
use Rattle.arcs.proofs.Vectors.{norm, norm_from_zero, norm_of_sum, norm_some, square_of_sum, square_scaled, lagrange}

over_product : (a t u d : ℤ) → pos 0 ≤ℤ d → square a ≤ℤ u → square t ≤ℤ d → square (a *ℤ t) ≤ℤ (u *ℤ d)
over_product a t u d hd h k =
    let f : (square a *ℤ square t) ≤ℤ (square a *ℤ d) = times_mono (square a) (square t) d (square_from_zero a) k in
    let g : (d *ℤ square a) ≤ℤ (d *ℤ u) = times_mono d (square a) u hd h in
    let e : square a *ℤ d ≡ d *ℤ square a = simp ring (omega (arith, linear)) in
    let e' : u *ℤ d ≡ d *ℤ u = simp ring (omega (arith, linear)) in
    omega (arith, linear, f, g, e, e', square_scaled a t)

-- a vector at least as long as a and another longer than t, of one direction
pub sum_longer : (ux uy dx dy a t : ℤ) → pos 0 ≤ℤ a → pos 0 ≤ℤ t → square a ≤ℤ norm ux uy → square t <ℤ norm dx dy → ux *ℤ dy -ℤ uy *ℤ dx ≡ pos 0 → pos 0 ≤ℤ (ux *ℤ dx +ℤ uy *ℤ dy) → square (a +ℤ t) <ℤ norm (ux +ℤ dx) (uy +ℤ dy)
sum_longer ux uy dx dy a t ha ht h k line same =
    let f : square (a *ℤ t) ≤ℤ (norm ux uy *ℤ norm dx dy) = over_product a t (norm ux uy) (norm dx dy) (norm_from_zero dx dy) h (omega (arith, linear, k)) in
    let l : square (ux *ℤ dx +ℤ uy *ℤ dy) +ℤ square (pos 0) ≡ norm ux uy *ℤ norm dx dy = rw line at (lagrange ux uy dx dy) in
    let m : (a *ℤ t) ≤ℤ (ux *ℤ dx +ℤ uy *ℤ dy) = square_cancel (a *ℤ t) (ux *ℤ dx +ℤ uy *ℤ dy) same (omega (arith, linear, f, l)) in
    omega (arith, linear, m, h, k, norm_of_sum ux uy dx dy, square_of_sum a t)

-- s is from a to b long, and z, of its direction, from b - t to a + t: they are at most t apart
module _ (zx zy sx sy a b t : ℤ) (ha : pos 0 ≤ℤ a) (hb : pos 0 ≤ℤ b) (ht : pos 0 ≤ℤ t) (from : square a ≤ℤ norm sx sy) (to : norm sx sy ≤ℤ square b) (within : norm zx zy ≤ℤ square (a +ℤ t)) (over : (b ≤ℤ t) ⊎ (square (b -ℤ t) ≤ℤ norm zx zy))
    (line : sx *ℤ zy -ℤ sy *ℤ zx ≡ pos 0) (same : pos 0 ≤ℤ (sx *ℤ zx +ℤ sy *ℤ zy)) where
  -- where z is the longer
  past : square t <ℤ norm (zx -ℤ sx) (zy -ℤ sy) → pos 0 ≤ℤ (sx *ℤ (zx -ℤ sx) +ℤ sy *ℤ (zy -ℤ sy)) → ⊥
  past g h =
      let e : sx *ℤ (zy -ℤ sy) -ℤ sy *ℤ (zx -ℤ sx) ≡ pos 0 = simp ring (omega (arith, linear, simp ring at line)) in
      let ex : sx +ℤ (zx -ℤ sx) ≡ zx = omega (arith, linear) in
      let ey : sy +ℤ (zy -ℤ sy) ≡ zy = omega (arith, linear) in
      let l : square (a +ℤ t) <ℤ norm (sx +ℤ (zx -ℤ sx)) (sy +ℤ (zy -ℤ sy)) = sum_longer sx sy (zx -ℤ sx) (zy -ℤ sy) a t ha ht from g e h in
      omega (arith, linear, rw (ex, ey) at l, within)

  -- where it is the shorter
  some : (sx *ℤ (zx -ℤ sx) +ℤ sy *ℤ (zy -ℤ sy)) <ℤ pos 0 → pos 1 ≤ℤ norm sx sy
  some h = norm_some sx sy (λ zero_x zero_y. (
      let k : (pos 0 *ℤ (zx -ℤ pos 0) +ℤ pos 0 *ℤ (zy -ℤ pos 0)) <ℤ pos 0 = rw (zero_x, zero_y) at h in
      omega (arith, linear, k, zero-times (zx -ℤ pos 0), zero-times (zy -ℤ pos 0))
      ))

  onward : (sx *ℤ (zx -ℤ sx) +ℤ sy *ℤ (zy -ℤ sy)) <ℤ pos 0 → pos 0 ≤ℤ (zx *ℤ (sx -ℤ zx) +ℤ zy *ℤ (sy -ℤ zy))
  onward h =
      let id : norm sx sy *ℤ (zx *ℤ (sx -ℤ zx) +ℤ zy *ℤ (sy -ℤ zy)) ≡ (sx *ℤ zx +ℤ sy *ℤ zy) *ℤ neg_ℤ (sx *ℤ (zx -ℤ sx) +ℤ sy *ℤ (zy -ℤ sy)) -ℤ (sx *ℤ zy -ℤ sy *ℤ zx) *ℤ (sx *ℤ zy -ℤ sy *ℤ zx) = simp ring (omega (arith, linear)) in
      let f : pos 0 ≤ℤ ((sx *ℤ zx +ℤ sy *ℤ zy) *ℤ neg_ℤ (sx *ℤ (zx -ℤ sx) +ℤ sy *ℤ (zy -ℤ sy))) = times_from_zero (sx *ℤ zx +ℤ sy *ℤ zy) (neg_ℤ (sx *ℤ (zx -ℤ sx) +ℤ sy *ℤ (zy -ℤ sy))) same (omega (arith, linear, h)) in
      let z : (sx *ℤ zy -ℤ sy *ℤ zx) *ℤ (sx *ℤ zy -ℤ sy *ℤ zx) ≡ pos 0 = rw line (omega (arith, linear)) in
      times_cancel (norm sx sy) (pos 0) (zx *ℤ (sx -ℤ zx) +ℤ zy *ℤ (sy -ℤ zy)) (some h) (omega (arith, linear, id, f, z, times-zero (norm sx sy)))

  before : square t <ℤ norm (zx -ℤ sx) (zy -ℤ sy) → (sx *ℤ (zx -ℤ sx) +ℤ sy *ℤ (zy -ℤ sy)) <ℤ pos 0 → ⊥
  before g h = elim over [ inl l ↦ wide l | inr k ↦ elim (le_or_lt b t) [ inl l ↦ wide l | inr l ↦ long l k ] ]
    where
      turned : norm (sx -ℤ zx) (sy -ℤ zy) ≡ norm (zx -ℤ sx) (zy -ℤ sy)
      turned = simp ring (omega (arith, linear))

      ex : zx +ℤ (sx -ℤ zx) ≡ sx
      ex = omega (arith, linear)

      ey : zy +ℤ (sy -ℤ zy) ≡ sy
      ey = omega (arith, linear)

      wide : b ≤ℤ t → ⊥
      wide l =
          let k : norm (zx +ℤ (sx -ℤ zx)) (zy +ℤ (sy -ℤ zy)) ≡ (norm zx zy +ℤ norm (sx -ℤ zx) (sy -ℤ zy)) +ℤ ((zx *ℤ (sx -ℤ zx) +ℤ zy *ℤ (sy -ℤ zy)) +ℤ (zx *ℤ (sx -ℤ zx) +ℤ zy *ℤ (sy -ℤ zy))) = norm_of_sum zx zy (sx -ℤ zx) (sy -ℤ zy) in
          omega (arith, linear, g, to, turned, onward h, norm_from_zero zx zy, rw (ex, ey) at k, square_mono b t hb l)

      long : t <ℤ b → square (b -ℤ t) ≤ℤ norm zx zy → ⊥
      long l k =
          let e : zx *ℤ (sy -ℤ zy) -ℤ zy *ℤ (sx -ℤ zx) ≡ pos 0 = simp ring (omega (arith, linear, simp ring at line)) in
          let f : square ((b -ℤ t) +ℤ t) <ℤ norm (zx +ℤ (sx -ℤ zx)) (zy +ℤ (sy -ℤ zy)) = sum_longer zx zy (sx -ℤ zx) (sy -ℤ zy) (b -ℤ t) t (omega (arith, linear, l)) ht k (omega (arith, linear, g, turned)) e (onward h) in
          let eb : (b -ℤ t) +ℤ t ≡ b = omega (arith, linear) in
          omega (arith, linear, rw (ex, ey, eb) at f, to)

  pub apart_along : norm (zx -ℤ sx) (zy -ℤ sy) ≤ℤ square t
  apart_along = elim (le_or_lt (norm (zx -ℤ sx) (zy -ℤ sy)) (square t)) [
    | inl l ↦ l
    | inr g ↦ elim (le_or_lt (pos 0) (sx *ℤ (zx -ℤ sx) +ℤ sy *ℤ (zy -ℤ sy))) [ inl h ↦ absurd (past g h) | inr h ↦ absurd (before g h) ]
  ]
