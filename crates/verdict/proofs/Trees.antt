-- Nets as trees: along a relation that says no less, and by their first pieces.
use Rattle.std.proofs.Common.{◌≡◌, ℕ, zero, suc, ◌<◌, ◌≤◌, List, [], ◌∷◌, ◌++◌, length, AllPairs, Contains, refl, arith}
use Rattle.std.proofs.lemmas.List.{map-append}
use Rattle.std.proofs.lemmas.List.Elements.{All-get_or}
use Rattle.verdict.specs.declared.verdict.Twig.{Twig}
use Rattle.verdict.specs.Forest.{AreTrees, Hang, IsTree, first_piece, net_at, piece_of, pieces_of}

pub hang_along : (near more : ℕ → ℕ → Type 0) → ((p q : ℕ) → near p q → more p q) → (earlier : List ℕ) (rest : List Twig) → Hang near earlier rest → Hang more earlier rest
hang_along near more along earlier [] hang = tt
hang_along near more along earlier (t ∷ rest) (here, hang) = (record { parent = here.parent; named = here.named; stands = here.stands; touches = along here.parent t.piece here.touches }, hang_along near more along (earlier ++ t.piece ∷ []) rest hang)

pub tree_along : (near more : ℕ → ℕ → Type 0) → ((p q : ℕ) → near p q → more p q) → (net : List Twig) → IsTree near net → IsTree more net
tree_along near more along [] tree = absurd tree
tree_along near more along (t ∷ rest) (root, least, hang) = (root, least, hang_along near more along (t.piece ∷ []) rest hang)

-- Rising nets are no more than the pieces.
pub nets_rise : (nets : List (List Twig)) → AllPairs (λ net later. first_piece net < first_piece later) nets → (i : ℕ) → i < length nets → i ≤ first_piece (net_at nets i)
nets_rise nets rising zero below = omega arith
nets_rise nets rising (suc i) below = let e = nets_rise nets rising i (omega arith) in let f = rising i (suc i) [] (omega arith) below in omega arith

pub first_inside : (near : ℕ → ℕ → Type 0) (net : List Twig) → IsTree near net → Contains (pieces_of net) (first_piece net)
first_inside near [] tree = absurd tree
first_inside near (t ∷ rest) tree = (0, omega arith, refl)

pub nets_few : (count : ℕ) (near : ℕ → ℕ → Type 0) (nets : List (List Twig)) → AreTrees count near nets → (n : ℕ) → n ≡ length nets → n ≤ count
nets_few count near nets t zero e = omega arith
nets_few count near nets t (suc n) e =
    let rise = nets_rise nets t.rising n (omega arith) in
    let tree = All-get_or (IsTree near) nets n [] (omega arith) t.trees in
    let below = t.known n (first_piece (net_at nets n)) (first_inside near (net_at nets n) tree) in
    omega arith

pub pieces-push : (net : List Twig) (t : Twig) → pieces_of (net ++ t ∷ []) ≡ pieces_of net ++ t.piece ∷ []
pieces-push net t = map-append piece_of net (t ∷ [])
