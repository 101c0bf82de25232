-- The places of a net's pieces, written one by one.
use Rattle.std.proofs.Common.{◌≡◌, ◌≢◌, inl, inr, ℕ, ◌+◌, ◌<◌, List, length, get_or, set, AllPairs, sym, ap, ◌∙◌, arith}
use Rattle.std.proofs.lemmas.List.{length-set, get_or-set_same, get_or-set_other, length-map}
use Rattle.std.proofs.lemmas.Bool.{cases_eq}
use Rattle.verdict.specs.declared.verdict.Twig.{Twig}
use Rattle.verdict.specs.Forest.{pieces_of, piece_of}
use Rattle.verdict.proofs.Placing.{twig_piece}
use Rattle.verdict.specs.Places.{twig_at}

pub record ArePlaced (net : List Twig) (long : ℕ) (i : ℕ) (places : List ℕ) : Type 0 where
  pub room : length places ≡ long
  pub done : (k : ℕ) → k < i → get_or places (twig_at net k).piece 0 ≡ k

pub placed_more : (net : List Twig) (long i : ℕ) (places : List ℕ) → AllPairs (λ p q. p ≢ q) (pieces_of net) → i < length net → (twig_at net i).piece < length places → ArePlaced net long i places → ArePlaced net long (i + 1) (set places (twig_at net i).piece i)
placed_more net long i places once within below a = record {
  room = length-set places (twig_at net i).piece i ∙ a.room;
  done = λ k h. elim (cases_eq k i) [
    | inl same ↦ ap (λ (x : ℕ). get_or (set places (twig_at net i).piece i) (twig_at net x).piece 0) same ∙ (get_or-set_same places (twig_at net i).piece i 0 below ∙ sym same)
    | inr other ↦ get_or-set_other places (twig_at net i).piece (twig_at net k).piece i 0 (λ same. once k i 0 (omega arith) (let e = length-map net piece_of in omega arith) (twig_piece net k (omega arith) ∙ (same ∙ sym (twig_piece net i within)))) ∙ a.done k (omega arith)
  ];
}
