-- Pieces of a net by their places.
use Rattle.std.proofs.Common.{◌≡◌, ℕ, ◌<◌, List, length, get_or, Contains, None, sym, ap, subst, ◌∙◌, arith}
use Rattle.std.proofs.lemmas.List.{get_or_default, get_or-map, length-map}
use Rattle.std.proofs.lemmas.List.Elements.{Contains-get_or}
use Rattle.verdict.specs.declared.verdict.Twig.{Twig}
use Rattle.verdict.specs.Forest.{pieces_of, piece_of}
use Rattle.verdict.specs.Places.{twig_at, HasPlaces}

pub twig_piece : (net : List Twig) (k : ℕ) → k < length net → get_or (pieces_of net) k 0 ≡ (twig_at net k).piece
twig_piece net k below = get_or-map piece_of net k (record { piece = 0; parent = None }) 0 below

-- a piece of the net, by its place
pub placed : (net : List Twig) (places : List ℕ) (q : ℕ) → HasPlaces net places → Contains (pieces_of net) q → (get_or places q 0 < length net) × (q < length places) × ((twig_at net (get_or places q 0)).piece ≡ q)
placed net places q all (k, below, same) =
    let long = length-map net piece_of in
    let within : k < length net = omega arith in
    let here : (twig_at net k).piece ≡ q = sym (twig_piece net k within) ∙ (get_or_default (pieces_of net) k 0 q below ∙ same) in
    let fact = all k within in
    let place : get_or places q 0 ≡ k = ap (λ (x : ℕ). get_or places x 0) (sym here) ∙ fact.1 in
    ((omega arith), subst (λ (x : ℕ). x < length places) here fact.0, ap (λ (x : ℕ). (twig_at net x).piece) place ∙ here)

pub twig_inside : (net : List Twig) (k : ℕ) → k < length net → Contains (pieces_of net) (twig_at net k).piece
twig_inside net k below = subst (λ (x : ℕ). Contains (pieces_of net) x) (twig_piece net k below) (Contains-get_or (pieces_of net) k 0 (let long = length-map net piece_of in omega arith))
