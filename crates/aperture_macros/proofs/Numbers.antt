-- A decimal compared with a number.
use Rattle.std.proofs.Common.{◌≡◌, ℕ, ◌*◌, ◌^◌, Bool, true, false, ◌&&◌, ◌||◌, not, eqb, eq-eqb, IsTrue, ◌↔◌, refl, sym, ◌∙◌}
use Rattle.std.proofs.lemmas.Bool.{eqb-true}
use Rattle.lengths.specs.Decimal.{Fraction}
use Rattle.aperture_macros.specs.BodyWord.{is_number}

abbrev Equals : Fraction → ℕ → Type 0
Equals d n = (d.whole ≡ n * 10 ^ d.places) × (d.negative ≡ true → n ≡ 0)

signs : (negative : Bool) (n : ℕ) → (negative ≡ true → n ≡ 0) → (not negative || eqb n 0) ≡ true
signs false n h = refl
signs true n h = eq-eqb n 0 (h refl)

no_sign : (negative : Bool) (n : ℕ) → (not negative || eqb n 0) ≡ true → negative ≡ true → n ≡ 0
no_sign false n h e = cc
no_sign true n h e = eqb-true n 0 h

both : (x y : Bool) → (x && y) ≡ true → (x ≡ true) × (y ≡ true)
both true y h = (refl, h)
both false y h = cc

holds : (d : Fraction) (n : ℕ) → Equals d n → is_number d n ≡ true
holds d n h = rw (eq-eqb d.whole (n * 10 ^ d.places) h.0, signs d.negative n h.1) refl

equals : (d : Fraction) (n : ℕ) → is_number d n ≡ true → Equals d n
equals d n h =
    let b = both (eqb d.whole (n * 10 ^ d.places)) (not d.negative || eqb n 0) h in
    (eqb-true d.whole (n * 10 ^ d.places) b.0, no_sign d.negative n b.1)

-- the answer is the test
pub number_is : (d : Fraction) (n : ℕ) (b : Bool) → IsTrue b ↔ Equals d n → b ≡ is_number d n
number_is d n true h = sym (holds d n (h.0 refl))
number_is d n false h = by (is_number d n) refl
  where
    by : (b : Bool) → is_number d n ≡ b → false ≡ is_number d n
    by false e = sym e
    by true e = h.1 (equals d n e) ∙ sym e
