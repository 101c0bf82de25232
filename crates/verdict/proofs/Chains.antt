-- Chains of touching pieces.
use Rattle.std.proofs.Common.{◌≡◌, inl, inr, ℕ, ◌<◌, List, [], ◌∷◌, ◌++◌, Contains, refl, subst, sym, arith}
use Rattle.std.proofs.lemmas.List.Elements.{Contains-append_cases}
use Rattle.verdict.specs.declared.verdict.Twig.{Twig}
use Rattle.tables.specs.Chains.{IsChain, AreJoined}
use Rattle.verdict.specs.Forest.{IsForest, IsTree, Hang, Holds, pieces_of, first_piece}
use Rattle.verdict.specs.Right.{BeginsAt}
use Rattle.verdict.proofs.Holding.{one_of}

-- no chain leads out of a net
pub stays : (count : ℕ) (near : ℕ → ℕ → Type 0) (nets : List (List Twig)) → IsForest count near nets → ((p q : ℕ) → near p q → q < count) → (i p q : ℕ) (chain : List ℕ) → Holds nets i p → IsChain near p chain q → Holds nets i q
stays count near nets lawful table i p q [] here same = subst (λ (x : ℕ). Holds nets i x) same here
stays count near nets lawful table i p q (next ∷ rest) here (touches, onward) =
    let home = lawful.covers.held next (table p next touches) in
    let same : i ≡ home.0 = lawful.apart i home.0 p next here home.1 touches in
    stays count near nets lawful table i next q rest (subst (λ (j : ℕ). Holds nets j next) (sym same) home.1) onward

pub onward : (near : ℕ → ℕ → Type 0) (p q r : ℕ) (c d : List ℕ) → IsChain near p c q → IsChain near q d r → IsChain near p (c ++ d) r
onward near p q r [] d same rest = subst (λ (x : ℕ). IsChain near x d r) (sym same) rest
onward near p q r (next ∷ c) d (touches, more) rest = (touches, onward near next q r c d more rest)

pub AreJoined-trans : (near : ℕ → ℕ → Type 0) (p q r : ℕ) → AreJoined near p q → AreJoined near q r → AreJoined near p r
AreJoined-trans near p q r (c, h) (d, k) = (c ++ d, onward near p q r c d h k)

pub AreJoined-back : (near : ℕ → ℕ → Type 0) → ((p q : ℕ) → near p q → near q p) → (p q : ℕ) (c : List ℕ) → IsChain near p c q → AreJoined near q p
AreJoined-back near both p q [] same = ([], sym same)
AreJoined-back near both p q (next ∷ c) (touches, more) =
    AreJoined-trans near q next p (AreJoined-back near both next q c more) (p ∷ [], (both p next touches, refl))

-- A chain leads from the piece to which one leads to each earlier piece, to each twig that hangs on them.
down : (near : ℕ → ℕ → Type 0) (root : ℕ) (earlier : List ℕ) (rest : List Twig) → ((p : ℕ) → Contains earlier p → AreJoined near root p) → Hang near earlier rest → (p : ℕ) → Contains (pieces_of rest) p → AreJoined near root p
down near root earlier [] know hang p (k, below, same) = absurd (omega arith)
down near root earlier (t ∷ rest) know (here, hang) p inside =
    let first : AreJoined near root t.piece = AreJoined-trans near root here.parent t.piece (know here.parent here.stands) (t.piece ∷ [], (here.touches, refl)) in
    let one : (q : ℕ) → Contains (t.piece ∷ []) q → AreJoined near root q = λ q h. subst (λ (x : ℕ). AreJoined near root x) (one_of t.piece q h) first in
    let all : (q : ℕ) → Contains (earlier ++ t.piece ∷ []) q → AreJoined near root q = λ q h. elim (Contains-append_cases earlier (t.piece ∷ []) q h) [ inl old ↦ know q old | inr new ↦ one q new ] in
    elim (Contains-append_cases (t.piece ∷ []) (pieces_of rest) p inside) [
      | inl new ↦ one p new
      | inr later ↦ down near root (earlier ++ t.piece ∷ []) rest all hang p later
    ]

-- from the first piece of a tree a chain leads to each
pub from_first : (near : ℕ → ℕ → Type 0) (net : List Twig) → IsTree near net → (p : ℕ) → Contains (pieces_of net) p → AreJoined near (first_piece net) p
from_first near [] tree p inside = absurd tree
from_first near (t ∷ rest) (root, least, hang) p inside =
    let here : (q : ℕ) → Contains (t.piece ∷ []) q → AreJoined near t.piece q = λ q h. ([], one_of t.piece q h) in
    elim (Contains-append_cases (t.piece ∷ []) (pieces_of rest) p inside) [
      | inl new ↦ here p new
      | inr later ↦ down near t.piece (t.piece ∷ []) rest here hang p later
    ]

pub begins_along : (a b : ℕ → Type 0) → ((p : ℕ) → a p → b p) → (pieces : List ℕ) → BeginsAt a pieces → BeginsAt b pieces
begins_along a b along [] h = absurd h
begins_along a b along (p ∷ rest) h = along p h
