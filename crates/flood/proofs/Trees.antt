-- A tree with one twig more.
use Rattle.std.proofs.Common.{◌≡◌, ◌≢◌, ◌⊎◌, ℕ, ◌≤◌, List, [], ◌∷◌, ◌++◌, Contains, AllPairs, Some, None, refl, sym, subst, append_assoc, append-nil, arith}
use Rattle.std.proofs.lemmas.List.Elements.{All-push, Contains-push, Contains-push_cases, Contains-append_left, Contains-get_or}
use Rattle.std.proofs.lemmas.List.Quantifiers.{all_pairs_push}
use Rattle.verdict.specs.declared.verdict.Twig.{Twig}
use Rattle.verdict.specs.Forest.{IsTree, Hang, pieces_of, first_piece}
use Rattle.verdict.proofs.Trees.{pieces-push}

pub holds_still : (net : List Twig) (t : Twig) (p : ℕ) → Contains (pieces_of net) p → Contains (pieces_of (net ++ t ∷ [])) p
holds_still net t p inside = subst (λ (xs : List ℕ). Contains xs p) (sym (pieces-push net t)) (Contains-append_left (pieces_of net) (t.piece ∷ []) p inside)

pub holds_new : (net : List Twig) (t : Twig) → Contains (pieces_of (net ++ t ∷ [])) t.piece
holds_new net t = subst (λ (xs : List ℕ). Contains xs t.piece) (sym (pieces-push net t)) (Contains-push (pieces_of net) t.piece)

pub holds_cases : (net : List Twig) (t : Twig) (p : ℕ) → Contains (pieces_of (net ++ t ∷ [])) p → Contains (pieces_of net) p ⊎ (t.piece ≡ p)
holds_cases net t p inside = Contains-push_cases (pieces_of net) t.piece p (subst (λ (xs : List ℕ). Contains xs p) (pieces-push net t) inside)

-- A piece that a net does not hold is pushed: each is there once.
pub once_more : (net : List Twig) (t : Twig) → AllPairs (λ p q. p ≢ q) (pieces_of net) → (Contains (pieces_of net) t.piece → ⊥) → AllPairs (λ p q. p ≢ q) (pieces_of (net ++ t ∷ []))
once_more net t once new = subst (λ (xs : List ℕ). AllPairs (λ p q. p ≢ q) xs) (sym (pieces-push net t))
    (all_pairs_push (λ p q. p ≢ q) (pieces_of net) t.piece once (λ k d below same. new (subst (λ (x : ℕ). Contains (pieces_of net) x) same (Contains-get_or (pieces_of net) k d below))))

hang_more : (near : ℕ → ℕ → Type 0) (earlier : List ℕ) (rest : List Twig) (t : Twig) (p : ℕ) → Hang near earlier rest → Contains (earlier ++ pieces_of rest) p → t.parent ≡ Some p → near p t.piece → Hang near earlier (rest ++ t ∷ [])
hang_more near earlier [] t p hang inside named touches =
    (record { parent = p; named = named; stands = subst (λ (xs : List ℕ). Contains xs p) (append-nil earlier) inside; touches = touches }, tt)
hang_more near earlier (s ∷ rest) t p (here, hang) inside named touches =
    (here, hang_more near (earlier ++ s.piece ∷ []) rest t p hang (subst (λ (xs : List ℕ). Contains xs p) (sym (append_assoc earlier (s.piece ∷ []) (pieces_of rest))) inside) named touches)

pub tree_more : (near : ℕ → ℕ → Type 0) (net : List Twig) (t : Twig) (p : ℕ) → IsTree near net → Contains (pieces_of net) p → t.parent ≡ Some p → near p t.piece → first_piece net ≤ t.piece → IsTree near (net ++ t ∷ [])
tree_more near [] t p tree inside named touches least = absurd tree
tree_more near (s ∷ rest) t p (root, all, hang) inside named touches least =
    (root, All-push (λ x. s.piece ≤ x.piece) rest t all least, hang_more near (s.piece ∷ []) rest t p hang inside named touches)

pub tree_of_one : (near : ℕ → ℕ → Type 0) (t : Twig) → t.parent ≡ None → IsTree near (t ∷ [])
tree_of_one near t named = (named, (λ k d below. absurd (omega arith)), tt)

pub first_stays : (near : ℕ → ℕ → Type 0) (net : List Twig) (t : Twig) → IsTree near net → first_piece (net ++ t ∷ []) ≡ first_piece net
first_stays near [] t tree = absurd tree
first_stays near (s ∷ rest) t tree = refl
