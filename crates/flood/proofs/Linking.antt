-- The field of the tests: a list of pairs.
use Rattle.std.proofs.Common.{◌≡◌, ◌⊎◌, inl, inr, ◌↔◌, ◌==◌, ◌&&◌, Bool, true, false, IsTrue, ℕ, List, sym, ◌∙◌}
use Rattle.std.specs.List.{list_any}

-- The pair is listed, one way or the other.
abbrev pub IsLinked : List (ℕ × ℕ) → ℕ → ℕ → Type 0
IsLinked pairs p q = IsTrue (list_any (λ e. e.0 == p && e.1 == q) pairs) ⊎ IsTrue (list_any (λ e. e.0 == q && e.1 == p) pairs)

pub either : (a b one other : Bool) → one ≡ a → other ≡ b → one ≡ false → IsTrue other ↔ (IsTrue a ⊎ IsTrue b)
either a b one other e f none = (λ h. inr (sym f ∙ h), λ t. elim t [ inl h ↦ (let g : one ≡ true = e ∙ h in cc) | inr h ↦ f ∙ h ])
