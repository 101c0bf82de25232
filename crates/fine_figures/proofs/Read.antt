-- What the code's numbers and answers tell.
use Rattle.std.proofs.Common.{◌≡◌, ◌↔◌, Bool, false, IsTrue, FitsSigned, to_z, of_z, to_z-of_z, ℕ, ◌-◌, ◌*◌, ◌≤◌, ◌<◌, ℤ, pos, negsuc, neg_ℤ, suc, unsigned_abs, ◌+ℤ◌, ◌-ℤ◌, ◌*ℤ◌, ◌≤ℤ◌, arith, refl, subst, ◌∙◌, sym}
use Rattle.std.proofs.lemmas.Int.{ints}
use Rattle.std.specs.Int.{w64}
use Rattle.planar.specs.declared.Spot.{Spot}
use Rattle.fine_figures.specs.Taken.{EndsNear, IsThinner}
use Rattle.fine_figures.specs.declared.FineStroke.{FineStroke}
use Rattle.planar.specs.Plane.{dot_of, square}
use Rattle.planar.proofs.Ring.{linear, square-neg}

-- ---- how far spots are apart

abs_squared : (z : ℤ) → square (pos (unsigned_abs z)) ≡ square z
abs_squared (pos n) = refl
abs_squared (negsuc n) = sym (square-neg (pos (suc n)))

apart_read : (a b : ℤ) (d : ℕ) → FitsSigned w64 a → FitsSigned w64 b → d ≡ unsigned_abs (to_z w64 (of_z w64 a) -ℤ to_z w64 (of_z w64 b)) → square (pos d) ≡ square (b -ℤ a)
apart_read a b d f g e =
    let plain : d ≡ unsigned_abs (a -ℤ b) = e ∙ rw (to_z-of_z f, to_z-of_z g) refl in
    let turned : b -ℤ a ≡ neg_ℤ (a -ℤ b) = omega (arith, linear) in
    rw (plain, turned, square-neg (a -ℤ b)) (abs_squared (a -ℤ b))

pub near_read : (a b : Spot) (across up far : ℕ) (t : Bool) → FitsSigned w64 a.x → FitsSigned w64 a.y → FitsSigned w64 b.x → FitsSigned w64 b.y
    → across ≡ unsigned_abs (to_z w64 (of_z w64 a.x) -ℤ to_z w64 (of_z w64 b.x)) → up ≡ unsigned_abs (to_z w64 (of_z w64 a.y) -ℤ to_z w64 (of_z w64 b.y))
    → IsTrue t ↔ ((square (pos across) +ℤ square (pos up)) ≤ℤ square (pos far)) → IsTrue t ↔ (dot_of a b b ≤ℤ square (pos far))
near_read a b across up far t fx fy gx gy x y told = rw (← (apart_read a.x b.x across fx gx x), ← (apart_read a.y b.y up fy gy y)) told

-- ---- a stroke that is thinner by an amount

module _ (f : FineStroke) (a b : Spot) (r : ℤ) (n : ℕ) (fits : FitsSigned w64 r) (is : n ≡ unsigned_abs (to_z w64 (of_z w64 r))) where
  amount : n ≡ unsigned_abs r
  amount = is ∙ rw (to_z-of_z fits) refl

  thinner_least : IsThinner f a b r → 2 * n ≤ f.r
  thinner_least h = omega (arith, ints, amount, h.from_zero, h.near.some)

  thinner_from : (t : Bool) → pos 0 ≤ℤ r → 2 * n ≤ f.r → IsTrue t ↔ EndsNear f a b (pos (f.r - 2 * n)) → IsTrue t ↔ IsThinner f a b r
  thinner_from t from less told =
      let same : pos (f.r - 2 * n) ≡ pos f.r -ℤ pos 2 *ℤ r = omega (arith, ints, amount, from, less) in
      (λ yes. record { from_zero = from; near = subst (λ (far : ℤ). EndsNear f a b far) same (told.0 yes) }, λ h. told.1 (subst (λ (far : ℤ). EndsNear f a b far) (sym same) h.near))

pub thinner_refused : (f : FineStroke) (a b : Spot) (r : ℤ) (n : ℕ) → FitsSigned w64 r → n ≡ unsigned_abs (to_z w64 (of_z w64 r)) → (t : Bool) → t ≡ false → f.r < 2 * n → IsTrue t ↔ IsThinner f a b r
thinner_refused f a b r n fits is t off over = (λ yes. absurd cc, λ h. let l = thinner_least f a b r n fits is h in absurd (omega (arith, l, over)))

pub thinner_read : (f : FineStroke) (a b : Spot) (r : ℤ) (n : ℕ) (t : Bool) → pos 0 ≤ℤ r → FitsSigned w64 r → n ≡ unsigned_abs (to_z w64 (of_z w64 r)) → 2 * n ≤ f.r → IsTrue t ↔ EndsNear f a b (pos (f.r - 2 * n)) → IsTrue t ↔ IsThinner f a b r
thinner_read f a b r n t from fits is less told = thinner_from f a b r n fits is t from less told
