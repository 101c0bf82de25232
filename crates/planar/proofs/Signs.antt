-- The sign of a number that the code compares with 0, and of the number that it is.
use Rattle.std.proofs.Common.{◌≡◌, ◌↔◌, true, false, ℤ, pos, neg_ℤ, ◌<ℤ◌, FitsSigned, to_z, of_z, to_z-of_z, arith, IsTrue, ◌≤ℤ◌, ◌-ℤ◌, sym, nat_eq, ap, ◌∙◌}
use Rattle.std.proofs.lemmas.Int.{ints, clamps}
use Rattle.std.specs.Int.{w128, int_max, int_min}
use Rattle.std.specs.Int.Signed.{lt_z, le_z}
use Rattle.std.proofs.lemmas.Bool.{eqb-true}

pub neither : {A B : Type 0} → (A → ⊥) → (B → ⊥) → A ↔ B
neither a b = (λ h. absurd (a h), λ h. absurd (b h))

pub both : {A B : Type 0} → A → B → A ↔ B
both a b = (λ _. b, λ _. a)

pub over_zero : {t z : ℤ} → FitsSigned w128 t → lt_z (pos 0) (to_z w128 (of_z w128 t)) ≡ true → t ≡ z → (pos 0 <ℤ z) × (z ≡ pos 0 → ⊥) × (z <ℤ pos 0 → ⊥)
over_zero {t} {z} f h e = let p : pos 0 <ℤ z = omega (arith, ints) in (p, λ k. omega (arith, ints, k, p), λ k. omega (arith, ints, k, p))

pub zero : {t z : ℤ} → FitsSigned w128 t → of_z w128 t ≡ 0 → t ≡ z → (pos 0 <ℤ z → ⊥) × (z ≡ pos 0) × (z <ℤ pos 0 → ⊥)
zero {t} {z} f h e = let p : z ≡ pos 0 = omega (arith, ints) in (λ k. omega (arith, ints, k, p), p, λ k. omega (arith, ints, k, p))

pub below_zero : {t z : ℤ} → FitsSigned w128 t → lt_z (pos 0) (to_z w128 (of_z w128 t)) ≡ false → (of_z w128 t ≡ 0 → ⊥) → t ≡ z → (pos 0 <ℤ z → ⊥) × (z ≡ pos 0 → ⊥) × (z <ℤ pos 0)
below_zero {t} {z} f h n e = let p : z <ℤ pos 0 = omega (arith, ints) in (λ k. omega (arith, ints, k, p), λ k. omega (arith, ints, k, p), p)

-- ---- where a number of the code decides a fact

abbrev read : ℤ → ℤ
read z = to_z w128 (of_z w128 z)

-- it is the number that was meant
same : {t z : ℤ} → FitsSigned w128 t → t ≡ z → read t ≡ z
same f e = to_z-of_z f ∙ e

module _ {s t x y m : ℤ} (f : FitsSigned w128 s) (g : FitsSigned w128 t) (h : FitsSigned w128 m) (d : s ≡ x) (e : t ≡ y) where
  pub greater : m ≡ int_max (read s) (read t) → read m ≡ int_max x y
  greater k = same h k ∙ ap (λ z. int_max z (read t)) (same f d) ∙ ap (int_max x) (same g e)

  pub lesser : m ≡ int_min (read s) (read t) → read m ≡ int_min x y
  lesser k = same h k ∙ ap (λ z. int_min z (read t)) (same f d) ∙ ap (int_min x) (same g e)

module _ {P : Type 0} {s e n r : ℤ} (over : P ↔ ((e ≤ℤ pos 0) × (pos 0 ≤ℤ s) × (n ≤ℤ pos 0) × (pos 0 ≤ℤ r))) where
  pub both_reach : {hi lo : ℤ} → hi ≡ int_max e n → lo ≡ int_min s r → le_z hi (pos 0) ≡ true → IsTrue (le_z (pos 0) lo) ↔ P
  both_reach {hi} {lo} m l top = (
    λ h. over.1 (omega (arith, ints, clamps), omega (arith, ints, clamps, h), omega (arith, ints, clamps), omega (arith, ints, clamps, h)),
    λ p. let h : (e ≤ℤ pos 0) × (pos 0 ≤ℤ s) × (n ≤ℤ pos 0) × (pos 0 ≤ℤ r) = over.0 p in sym (omega (arith, ints, clamps)),
  )

  pub never_reach : {hi : ℤ} → hi ≡ int_max e n → le_z hi (pos 0) ≡ false → IsTrue (le_z hi (pos 0)) ↔ P
  never_reach {hi} m top = (
    λ h. absurd cc,
    λ p. let h : (e ≤ℤ pos 0) × (pos 0 ≤ℤ s) × (n ≤ℤ pos 0) × (pos 0 ≤ℤ r) = over.0 p in absurd (omega (arith, ints, clamps)),
  )

-- what no two numbers over 0 allow, nor two below
module _ {P : Type 0} {s e : ℤ} (over : P → ((pos 1 ≤ℤ s) → (pos 1 ≤ℤ e) → ⊥) × ((pos 1 ≤ℤ neg_ℤ s) → (pos 1 ≤ℤ neg_ℤ e) → ⊥)) where
  pub both_over : {lo : ℤ} → lo ≡ int_min s e → lt_z (pos 0) lo ≡ true → P → ⊥
  both_over {lo} m h p = (over p).0 (omega (arith, ints, clamps)) (omega (arith, ints, clamps))

  pub both_below : {hi : ℤ} → hi ≡ int_max s e → lt_z hi (pos 0) ≡ true → P → ⊥
  both_below {hi} m h p = (over p).1 (omega (arith, ints, clamps)) (omega (arith, ints, clamps))

-- the same for a number that is 0 and one that is not above it
module _ {P : Type 0} {z w : ℤ} (over : P ↔ ((z ≡ pos 0) × (w ≤ℤ pos 0))) where
  pub on_reach : {t d : ℤ} → FitsSigned w128 t → FitsSigned w128 d → of_z w128 t ≡ 0 → t ≡ z → d ≡ w → IsTrue (le_z (read d) (pos 0)) ↔ P
  on_reach {t} {d} f g k a b =
      let l : read d ≡ w = same g b in
      let m : z ≡ pos 0 = omega (arith, ints) in
      (λ h. over.1 (m, omega (arith, ints, h)), λ p. let h : w ≤ℤ pos 0 = (over.0 p).1 in sym (omega (arith, ints)))

  pub off_reach : {t : ℤ} → (of_z w128 t ≡ 0 → ⊥) → t ≡ z → IsTrue (nat_eq (of_z w128 t) 0) ↔ P
  off_reach {t} k a = (λ h. absurd (k (eqb-true _ _ h)), λ p. absurd (k (ap (of_z w128) (a ∙ (over.0 p).0))))

-- which of two numbers is the less
module _ {s t x y : ℤ} (f : FitsSigned w128 s) (g : FitsSigned w128 t) (d : s ≡ x) (e : t ≡ y) where
  pub less : lt_z (read s) (read t) ≡ true → x <ℤ y
  less h = let k : lt_z x y ≡ true = sym (ap (λ z. lt_z z (read t)) (same f d) ∙ ap (lt_z x) (same g e)) ∙ h in grind (arith, ints)

  pub level : lt_z (read t) (read s) ≡ false → lt_z (read s) (read t) ≡ false → x ≡ y
  level h k = let a : read s ≡ x = same f d in let b : read t ≡ y = same g e in omega (arith, ints)

pub turned_less : {a b c d : ℤ} → a -ℤ b ≡ c -ℤ d → a <ℤ b → c <ℤ d
turned_less {a} {b} {c} {d} h k = omega (arith, ints)
