-- Answers of tests, and what they tell.
use Rattle.std.proofs.Common.{◌≡◌, ◌↔◌, Bool, true, false, IsTrue, ℕ, zero, suc, ◌<◌, ◌==◌, nat_eq, refl, arith}
use Rattle.std.proofs.lemmas.Bool.{eqb-true, eq-eqb}

pub no_true : IsTrue false → ⊥
no_true t = cc

pub proved : (X : Type 0) → X → IsTrue true ↔ X
proved X x = ((λ t. x), λ y. refl)

pub refuted : (X : Type 0) → (X → ⊥) → IsTrue false ↔ X
refuted X not = ((λ t. absurd (no_true t)), λ x. absurd (not x))

pub told : (b : Bool) (P : Type 0) → IsTrue b ↔ P → b ≡ true → P
told true P tells e = tells.0 refl
told false P tells e = cc

pub denied : (b : Bool) (P : Type 0) → IsTrue b ↔ P → b ≡ false → P → ⊥
denied true P tells e p = cc
denied false P tells e p = no_true (tells.1 p)

pub through : (X Y Z : Type 0) → X ↔ Y → Y ↔ Z → X ↔ Z
through X Y Z a b = ((λ x. b.0 (a.0 x)), λ z. a.1 (b.1 z))

pub tested : (a b : ℕ) → IsTrue (nat_eq a b) ↔ (a ≡ b)
tested a b = ((λ yes. eqb-true a b yes), λ same. eq-eqb a b same)

-- what a test for emptiness tells
pub some_left : (n : ℕ) (b : Bool) → b ≡ (n == 0) → b ≡ false → 0 < n
some_left zero b e none = cc
some_left (suc n) b e none = omega arith
