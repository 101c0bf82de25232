-- The number of its net for each piece.
use Rattle.std.proofs.Common.{◌≡◌, inl, inr, ℕ, ◌+◌, ◌<◌, ◌≤◌, List, length, get_or, set, Contains, sym, ap, subst, ◌∙◌, arith}
use Rattle.std.proofs.lemmas.List.{length-set, get_or-set_same, get_or-set_other, get_or_default, length-map}
use Rattle.std.proofs.lemmas.Bool.{cases_eq}
use Rattle.verdict.specs.declared.verdict.Twig.{Twig}
use Rattle.verdict.specs.Forest.{Holds, pieces_of, piece_of}

pub record IsNumbered (net : List Twig) (number : ℕ) (old : List ℕ) (i : ℕ) (numbers : List ℕ) : Type 0 where
  pub long : length numbers ≡ length old
  pub inside : (k : ℕ) → k < i → get_or numbers (get_or (pieces_of net) k 0) 0 ≡ number
  pub outside : (p : ℕ) → ((k : ℕ) → k < i → get_or (pieces_of net) k 0 ≡ p → ⊥) → get_or numbers p 0 ≡ get_or old p 0

pub numbered_more : (net : List Twig) (number : ℕ) (old : List ℕ) (i : ℕ) (numbers : List ℕ) (q : ℕ) → IsNumbered net number old i numbers → q ≡ get_or (pieces_of net) i 0 → q < length numbers → IsNumbered net number old (i + 1) (set numbers q number)
numbered_more net number old i numbers q n item below = record {
  long = length-set numbers q number ∙ n.long;
  inside = λ k h. elim (cases_eq (get_or (pieces_of net) k 0) q) [
    | inl same ↦ ap (λ (x : ℕ). get_or (set numbers q number) x 0) same ∙ get_or-set_same numbers q number 0 below
    | inr other ↦ get_or-set_other numbers q (get_or (pieces_of net) k 0) number 0 other ∙ n.inside k (elim (cases_eq k i) [ inl last ↦ absurd (other (ap (λ (x : ℕ). get_or (pieces_of net) x 0) last ∙ sym item)) | inr before ↦ omega arith ])
  ];
  outside = λ p none. get_or-set_other numbers q p number 0 (λ same. none i (omega arith) (sym item ∙ sym same)) ∙ n.outside p (λ k h. none k (omega arith));
}

pub numbered_inside : (net : List Twig) (number : ℕ) (old : List ℕ) (i : ℕ) (numbers : List ℕ) (p : ℕ) → IsNumbered net number old i numbers → length net ≤ i → Contains (pieces_of net) p → get_or numbers p 0 ≡ number
numbered_inside net number old i numbers p n all (k, below, same) =
    let long = length-map net piece_of in
    let here : get_or (pieces_of net) k 0 ≡ p = get_or_default (pieces_of net) k 0 p below ∙ same in
    sym (ap (λ (x : ℕ). get_or numbers x 0) here) ∙ n.inside k (omega arith)

pub numbered_outside : (net : List Twig) (number : ℕ) (old : List ℕ) (i : ℕ) (numbers : List ℕ) (p : ℕ) → IsNumbered net number old i numbers → i ≤ length net → (Contains (pieces_of net) p → ⊥) → get_or numbers p 0 ≡ get_or old p 0
numbered_outside net number old i numbers p n within none = n.outside p (λ k h same. none (k, (let long = length-map net piece_of in omega arith), get_or_default (pieces_of net) k p 0 (let long = length-map net piece_of in omega arith) ∙ same))

pub record AreNumbered (nets : List (List Twig)) (count i : ℕ) (numbers : List ℕ) : Type 0 where
  pub long : length numbers ≡ count
  pub done : (j p : ℕ) → j < i → Holds nets j p → get_or numbers p 0 ≡ j

pub numbers_more : (nets : List (List Twig)) (count i : ℕ) (old numbers : List ℕ) → ((i j p : ℕ) → Holds nets i p → Holds nets j p → i ≡ j) → AreNumbered nets count i old → length numbers ≡ length old
    → ((p : ℕ) → Holds nets i p → get_or numbers p 0 ≡ i) → ((p : ℕ) → (Holds nets i p → ⊥) → get_or numbers p 0 ≡ get_or old p 0) → AreNumbered nets count (i + 1) numbers
numbers_more nets count i old numbers one n long inside outside = record {
  long = long ∙ n.long;
  done = λ j p below held. elim (cases_eq j i) [
    | inl same ↦ inside p (subst (λ (x : ℕ). Holds nets x p) same held) ∙ sym same
    | inr other ↦ outside p (λ here. other (one j i p held here)) ∙ n.done j p (omega arith) held
  ];
}
