-- Members of lists. Lists without repeats that have the same members are one list in two orders.
use Rattle.std.proofs.Common.{◌≡◌, ◌≢◌, ℕ, suc, ◌==◌, List, [], ◌∷◌, AllPairs, Contains, refl, sym, ◌∙◌, arith}
use Rattle.std.proofs.lemmas.Bool.Decides.{Decides-eqb}
use Rattle.std.proofs.lemmas.List.Elements.{Contains-append_right}
use Rattle.std.proofs.lemmas.List.Sorted.{Contains-permutation, IsPermutation-cons, IsPermutation-refl, IsPermutation-remove, IsPermutation-sym, IsPermutation-trans}
use Rattle.std.proofs.lemmas.Map.Keys.{IsDistinct-IsPermutation}
use Rattle.std.proofs.lemmas.Map.Made.{AllPairs-from_IsDistinct, Contains-tail, IsDistinct-from_AllPairs}
use Rattle.std.specs.List.{remove}
use Rattle.std.specs.List.Sorted.{IsPermutation}
use Rattle.witness_check.proofs.Filing.{flips}

-- ---- Two orders of one list

-- no number stands at two places
abbrev pub AreDistinct : List ℕ → Type 0
AreDistinct xs = AllPairs (λ p q. p ≢ q) xs

distinct_moved : (xs ys : List ℕ) → IsPermutation xs ys → AreDistinct xs → AreDistinct ys
distinct_moved xs ys moved once = AllPairs-from_IsDistinct Decides-eqb ys (IsDistinct-IsPermutation (λ x y. x == y) flips xs ys moved (IsDistinct-from_AllPairs Decides-eqb xs once))

distinct_tail : (x : ℕ) (xs : List ℕ) → AreDistinct (x ∷ xs) → AreDistinct xs
distinct_tail x xs once i j d before below = once (suc i) (suc j) d (omega arith) (omega arith)

-- the head is none of the tail
not_head : (x : ℕ) (xs : List ℕ) → AreDistinct (x ∷ xs) → (q : ℕ) → Contains xs q → x ≡ q → ⊥
not_head x xs once q (k, below, same) head = once 0 (suc k) q (omega arith) (omega arith) (head ∙ sym same)

pub rearranged : (xs ys : List ℕ) → AreDistinct xs → AreDistinct ys → ((q : ℕ) → Contains xs q → Contains ys q) → ((q : ℕ) → Contains ys q → Contains xs q) → IsPermutation xs ys
rearranged [] [] once twice into back = IsPermutation-refl []
rearranged [] (y ∷ ys) once twice into back = absurd (let b = (back y (0, omega arith, refl)).1 in omega arith)
rearranged (x ∷ xs) ys once twice into back =
    let here = into x (0, omega arith, refl) in
    let rest : List ℕ = remove ys here.0 in
    let moved : IsPermutation ys (x ∷ rest) = IsPermutation-remove ys here.0 x here.1 (sym here.2) in
    let apart : AreDistinct (x ∷ rest) = distinct_moved ys (x ∷ rest) moved twice in
    let inner : IsPermutation xs rest =
    rearranged xs rest (distinct_tail x xs once) (distinct_tail x rest apart)
    (λ q h. Contains-tail x rest q (not_head x xs once q h) (Contains-permutation ys (x ∷ rest) q moved (into q (Contains-append_right (x ∷ []) xs q h))))
    (λ q h. Contains-tail x xs q (not_head x rest apart q h) (back q (Contains-permutation (x ∷ rest) ys q (IsPermutation-sym ys (x ∷ rest) moved) (Contains-append_right (x ∷ []) rest q h)))) in
    IsPermutation-trans (x ∷ xs) (x ∷ rest) ys (IsPermutation-cons x xs rest inner) (IsPermutation-sym ys (x ∷ rest) moved)
