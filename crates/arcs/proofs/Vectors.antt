-- Lengths of sums of vectors, told by squares.
use Rattle.std.proofs.Common.{◌≡◌, inl, inr, ℤ, pos, ◌+ℤ◌, ◌-ℤ◌, ◌*ℤ◌, ◌≤ℤ◌, arith}
use Rattle.planar.specs.Plane.{square}
use Rattle.planar.proofs.Ring.{ring, linear, mul_assoc, le_or_lt, times_from_zero, square_from_zero, times_mono, times_cancel, square_cancel, square_zero}

-- the square of a vector's length
abbrev pub norm : ℤ → ℤ → ℤ
norm x y = square x +ℤ square y

pub norm_from_zero : (x y : ℤ) → pos 0 ≤ℤ norm x y
norm_from_zero x y = omega (arith, linear, square_from_zero x, square_from_zero y)

-- a vector without length is none
pub norm_none : (x y : ℤ) → norm x y ≤ℤ pos 0 → (x ≡ pos 0) × (y ≡ pos 0)
norm_none x y h = (square_zero x (omega (arith, linear, h, square_from_zero y)), square_zero y (omega (arith, linear, h, square_from_zero x)))

pub norm_some : (x y : ℤ) → (x ≡ pos 0 → y ≡ pos 0 → ⊥) → pos 1 ≤ℤ norm x y
norm_some x y some = elim (le_or_lt (pos 1) (norm x y)) [ inl l ↦ l | inr g ↦ (let z = norm_none x y (omega (arith, linear, g)) in absurd (some z.0 z.1)) ]

pub lagrange : (px py qx qy : ℤ) → square (px *ℤ qx +ℤ py *ℤ qy) +ℤ square (px *ℤ qy -ℤ py *ℤ qx) ≡ norm px py *ℤ norm qx qy
lagrange px py qx qy = simp ring (omega (arith, linear))

-- ---- the scalar product of two vectors is at most the product of their lengths

products_within : (a b r s : ℤ) → pos 0 ≤ℤ a → a ≤ℤ square r → b ≤ℤ square s → (a *ℤ b) ≤ℤ square (r *ℤ s)
products_within a b r s ha h k =
    let f : (a *ℤ b) ≤ℤ (a *ℤ square s) = times_mono a b (square s) ha k in
    let g : (square s *ℤ a) ≤ℤ (square s *ℤ square r) = times_mono (square s) a (square r) (square_from_zero s) h in
    let d : a *ℤ square s ≡ square s *ℤ a = simp ring (omega (arith, linear)) in
    let e : square (r *ℤ s) ≡ square s *ℤ square r = simp ring in
    omega (arith, linear, f, g, d, e)

pub scalar_at_most : (px py qx qy r s : ℤ) → pos 0 ≤ℤ r → pos 0 ≤ℤ s → norm px py ≤ℤ square r → norm qx qy ≤ℤ square s → (px *ℤ qx +ℤ py *ℤ qy) ≤ℤ (r *ℤ s)
scalar_at_most px py qx qy r s hr hs h k =
    let f : (norm px py *ℤ norm qx qy) ≤ℤ square (r *ℤ s) = products_within (norm px py) (norm qx qy) r s (norm_from_zero px py) h k in
    square_cancel (px *ℤ qx +ℤ py *ℤ qy) (r *ℤ s) (times_from_zero r s hr hs) (omega (arith, linear, f, lagrange px py qx qy, square_from_zero (px *ℤ qy -ℤ py *ℤ qx)))

pub norm_of_sum : (px py qx qy : ℤ) → norm (px +ℤ qx) (py +ℤ qy) ≡ (norm px py +ℤ norm qx qy) +ℤ ((px *ℤ qx +ℤ py *ℤ qy) +ℤ (px *ℤ qx +ℤ py *ℤ qy))
norm_of_sum px py qx qy = simp ring (omega (arith, linear))

pub square_of_sum : (r s : ℤ) → square (r +ℤ s) ≡ (square r +ℤ square s) +ℤ (r *ℤ s +ℤ r *ℤ s)
square_of_sum r s = simp ring (omega (arith, linear))

-- the triangle's law
pub sum_within : (px py qx qy r s : ℤ) → pos 0 ≤ℤ r → pos 0 ≤ℤ s → norm px py ≤ℤ square r → norm qx qy ≤ℤ square s → norm (px +ℤ qx) (py +ℤ qy) ≤ℤ square (r +ℤ s)
sum_within px py qx qy r s hr hs h k =
    omega (arith, linear, scalar_at_most px py qx qy r s hr hs h k, norm_of_sum px py qx qy, square_of_sum r s, h, k)

-- and the other way round: where a sum is at least as long as r + s and one part at most s, the other is at least r
pub part_over : (px py qx qy r s : ℤ) → pos 0 ≤ℤ r → pos 0 ≤ℤ s → norm qx qy ≤ℤ square s → square (r +ℤ s) ≤ℤ norm (px +ℤ qx) (py +ℤ qy) → square r ≤ℤ norm px py
part_over px py qx qy r s hr hs k h = elim (le_or_lt (square r) (norm px py)) [
  | inl l ↦ l
  | inr g ↦ absurd (omega (arith, linear, g, h, k, scalar_at_most px py qx qy r s hr hs (omega (arith, linear, g)) k, norm_of_sum px py qx qy, square_of_sum r s))
]

-- ---- scaling

pub norm_scaled : (m px py : ℤ) → norm (m *ℤ px) (m *ℤ py) ≡ square m *ℤ norm px py
norm_scaled m px py = simp ring (omega (arith, linear))

pub square_scaled : (m q : ℤ) → square (m *ℤ q) ≡ square m *ℤ square q
square_scaled m q = simp ring

pub scaled : (m px py q : ℤ) → norm px py ≤ℤ square q → norm (m *ℤ px) (m *ℤ py) ≤ℤ square (m *ℤ q)
scaled m px py q h = rw (norm_scaled m px py, square_scaled m q) (times_mono (square m) (norm px py) (square q) (square_from_zero m) h)

pub scaled_over : (m px py q : ℤ) → square q ≤ℤ norm px py → square (m *ℤ q) ≤ℤ norm (m *ℤ px) (m *ℤ py)
scaled_over m px py q h = rw (norm_scaled m px py, square_scaled m q) (times_mono (square m) (square q) (norm px py) (square_from_zero m) h)

squared_cancel : (m a b : ℤ) → pos 1 ≤ℤ m → (square m *ℤ a) ≤ℤ (square m *ℤ b) → a ≤ℤ b
squared_cancel m a b some h =
    times_cancel m a b some (times_cancel m (m *ℤ a) (m *ℤ b) some (rw (← (mul_assoc m m a), ← (mul_assoc m m b)) h))

pub unscaled : (m px py q : ℤ) → pos 1 ≤ℤ m → norm (m *ℤ px) (m *ℤ py) ≤ℤ square (m *ℤ q) → norm px py ≤ℤ square q
unscaled m px py q some h = squared_cancel m (norm px py) (square q) some (rw (norm_scaled m px py, square_scaled m q) at h)

pub unscaled_over : (m px py q : ℤ) → pos 1 ≤ℤ m → square (m *ℤ q) ≤ℤ norm (m *ℤ px) (m *ℤ py) → square q ≤ℤ norm px py
unscaled_over m px py q some h = squared_cancel m (square q) (norm px py) some (rw (norm_scaled m px py, square_scaled m q) at h)
