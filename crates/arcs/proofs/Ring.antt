-- From whole numbers round a radius to the radius itself, and back.
use Rattle.std.proofs.Common.{◌≡◌, inl, inr, ℤ, pos, ◌+ℤ◌, ◌-ℤ◌, ◌*ℤ◌, ◌≤ℤ◌, ◌<ℤ◌, arith}
use Rattle.planar.specs.Plane.{square}
use Rattle.planar.proofs.Ring.{ring, linear, le_or_lt, times_from_zero, square_from_zero, square_mono, times_mono, times-zero, square_cancel, square_zero}
use Rattle.arcs.specs.Copper.{AtMostLonger}

twice_squared : (w r : ℤ) → square (w *ℤ r +ℤ w *ℤ r) ≡ square (w +ℤ w) *ℤ square r
twice_squared w r = simp ring (omega (arith, linear))

-- where r is at most the second length and the first at most r + w
pub longer_by : (w a b r : ℤ) → pos 0 ≤ℤ w → pos 0 ≤ℤ r → square r ≤ℤ b → a ≤ℤ square (r +ℤ w) → AtMostLonger w a b
longer_by w a b r hw hr h k = elim (le_or_lt (a -ℤ b -ℤ square w) (pos 0)) [ inl l ↦ inl l | inr g ↦ inr (over g) ]
  where
    over : pos 0 <ℤ (a -ℤ b -ℤ square w) → square (a -ℤ b -ℤ square w) ≤ℤ (square (w +ℤ w) *ℤ b)
    over g =
        let s : square (r +ℤ w) ≡ (square r +ℤ square w) +ℤ (w *ℤ r +ℤ w *ℤ r) = simp ring (omega (arith, linear)) in
        let f : square (a -ℤ b -ℤ square w) ≤ℤ square (w *ℤ r +ℤ w *ℤ r) = square_mono (a -ℤ b -ℤ square w) (w *ℤ r +ℤ w *ℤ r) (omega (arith, linear, g)) (omega (arith, linear, h, k, s)) in
        let m : (square (w +ℤ w) *ℤ square r) ≤ℤ (square (w +ℤ w) *ℤ b) = times_mono (square (w +ℤ w)) (square r) b (square_from_zero (w +ℤ w)) h in
        omega (arith, linear, f, m, twice_squared w r)

-- where w alone is as long as the first
pub by_pen : (w a b : ℤ) → pos 0 ≤ℤ b → a ≤ℤ square w → AtMostLonger w a b
by_pen w a b h k = inl (omega (arith, linear))

-- and where there is no second length, it is
pub only_pen : (w a : ℤ) → AtMostLonger w a (pos 0) → a ≤ℤ square w
only_pen w a (inl l) = omega (arith, linear, l)
only_pen w a (inr l) = let e : a -ℤ pos 0 -ℤ square w ≡ pos 0 = square_zero (a -ℤ pos 0 -ℤ square w) (omega (arith, linear, l, times-zero (square (w +ℤ w)))) in omega (arith, linear, e)

-- what it says where the second length is at most r
pub is_longer_by : (w a b r : ℤ) → pos 0 ≤ℤ w → pos 0 ≤ℤ r → b ≤ℤ square r → AtMostLonger w a b → a ≤ℤ ((b +ℤ square w) +ℤ (w *ℤ r +ℤ w *ℤ r))
is_longer_by w a b r hw hr h (inl l) = omega (arith, linear, l, times_from_zero w r hw hr)
is_longer_by w a b r hw hr h (inr l) =
    let m : (square (w +ℤ w) *ℤ b) ≤ℤ (square (w +ℤ w) *ℤ square r) = times_mono (square (w +ℤ w)) b (square r) (square_from_zero (w +ℤ w)) h in
    let from = times_from_zero w r hw hr in
    let f : (a -ℤ b -ℤ square w) ≤ℤ (w *ℤ r +ℤ w *ℤ r) = square_cancel (a -ℤ b -ℤ square w) (w *ℤ r +ℤ w *ℤ r) (omega (arith, linear, from)) (omega (arith, linear, l, m, twice_squared w r)) in
    omega (arith, linear, f)
