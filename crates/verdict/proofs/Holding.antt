-- The pieces that a net holds.
use Rattle.std.proofs.Common.{◌≡◌, ◌⊎◌, inl, inr, None, ℕ, zero, suc, ◌<◌, ◌≤◌, List, [], ◌∷◌, length, get_or, Contains, sym, subst, arith}
use Rattle.std.proofs.lemmas.List.{get_or-map, get_or_past, length-map}
use Rattle.std.proofs.lemmas.List.Elements.{Contains-get_or}
use Rattle.verdict.specs.declared.verdict.Twig.{Twig}
use Rattle.verdict.specs.Forest.{Holds, pieces_of, piece_of}

pub piece_read : (net : List Twig) (i : ℕ) → i < length net → (get_or net i (record { piece = 0; parent = None })).piece ≡ get_or (pieces_of net) i 0
piece_read net i below = sym (get_or-map piece_of net i (record { piece = 0; parent = None }) 0 below)

pub piece_held : (net : List Twig) (i : ℕ) → i < length net → Contains (pieces_of net) (get_or net i (record { piece = 0; parent = None })).piece
piece_held net i below = subst (λ (x : ℕ). Contains (pieces_of net) x) (sym (piece_read net i below)) (Contains-get_or (pieces_of net) i 0 (let e = length-map net piece_of in omega arith))

-- the one item of a list
pub one_of : {X : Type 0} (x q : X) → Contains (x ∷ []) q → x ≡ q
one_of x q (zero, below, same) = same
one_of x q (suc k, below, same) = absurd (omega arith)

pub none_inside : (p : ℕ) → Contains [] p → ⊥
none_inside p (k, below, same) = omega arith

pub le_or_lt : (m n : ℕ) → (m ≤ n) ⊎ (n < m)
le_or_lt zero n = inl (omega arith)
le_or_lt (suc m) zero = inr (omega arith)
le_or_lt (suc m) (suc n) = elim (le_or_lt m n) [ inl l ↦ inl (omega arith) | inr l ↦ inr (omega arith) ]

pub held_within : (nets : List (List Twig)) (i p : ℕ) → Holds nets i p → i < length nets
held_within nets i p inside = elim (le_or_lt (length nets) i) [
  | inl past ↦ absurd (none_inside p (subst (λ (net : List Twig). Contains (pieces_of net) p) (get_or_past nets i [] past) inside))
  | inr within ↦ within
]
