-- The net of a piece, and how many nets there are.
use Rattle.std.proofs.Common.{◌≡◌, ℕ, zero, suc, ◌+◌, ◌≤◌, Bool, true, false, ◌||◌, not, cond, List, [], ◌∷◌, length, Contains, refl, sym, ◌∙◌, subst, arith}
use Rattle.std.proofs.lemmas.Bool.{eqb-true}
use Rattle.std.proofs.lemmas.List.Elements.{All-get_or}
use Rattle.tables.specs.Chains.{AreJoined}
use Rattle.verdict.specs.declared.verdict.Twig.{Twig}
use Rattle.verdict.specs.Forest.{AreTrees, Holds, IsTree, first_piece, net_at, pieces_of}
use Rattle.verdict.proofs.Holding.{held_within, none_inside}
use Rattle.verdict.proofs.Trees.{nets_few}
use Rattle.witness_check.proofs.Chains.{AreJoined-back, AreJoined-trans, from_first}
use Rattle.netlist_writer.proofs.Names.{eqb_self}
use Rattle.netlist_writer.specs.WrittenNetlist.{holds_piece, is_piece, net_of}

-- ---- The net of a piece

-- a net that holds a piece is told by the test
holds_told : (p : ℕ) (net : List Twig) → Contains (pieces_of net) p → holds_piece p net ≡ true
holds_told p [] inside = absurd (none_inside p inside)
holds_told p (t ∷ net) (zero, below, same) = rw same (rw (eqb_self p) refl)
holds_told p (t ∷ net) (suc k, below, same) = by (is_piece p t) (holds_told p net (k, omega (arith, below), same))
  where
    by : (v : Bool) → holds_piece p net ≡ true → (v || holds_piece p net) ≡ true
    by true h = refl
    by false h = h

holds_so : (p : ℕ) (net : List Twig) → holds_piece p net ≡ true → Contains (pieces_of net) p
holds_so p [] h = cc
holds_so p (t ∷ net) h = by (is_piece p t) refl h (λ k. holds_so p net k)
  where
    by : (v : Bool) → is_piece p t ≡ v → (v || holds_piece p net) ≡ true → (holds_piece p net ≡ true → Contains (pieces_of net) p) → Contains (pieces_of (t ∷ net)) p
    by true e k more = (0, omega arith, eqb-true t.piece p e)
    by false e k more = let c = more k in let below = c.1 in (suc c.0, omega (arith, below), c.2)

-- the net that is found holds the piece
pub found_net : (nets : List (List Twig)) (i p : ℕ) → Holds nets i p → Holds nets (net_of nets p) p
found_net [] i p held = let below = held_within [] i p held in absurd (omega (arith, below))
found_net (net ∷ nets) i p held = by (holds_piece p net) refl i held (λ j h. found_net nets j p h)
  where
    by : (v : Bool) → holds_piece p net ≡ v → (i : ℕ) → Holds (net ∷ nets) i p → ((j : ℕ) → Holds nets j p → Holds nets (net_of nets p) p) → Holds (net ∷ nets) (cond (not (holds_piece p net)) (1 + net_of nets p) 0) p
    by true e i held more = rw e (holds_so p net e)
    by false e zero held more = absurd (let k : true ≡ false = sym (holds_told p net held) ∙ e in cc)
    by false e (suc i) held more = rw e (let n : suc (net_of nets p) ≡ 1 + net_of nets p = omega arith in subst (λ (m : ℕ). Holds (net ∷ nets) m p) n (more i held))

-- ---- How many nets

-- no more nets than pieces
pub few_nets : (count : ℕ) (near : ℕ → ℕ → Type 0) (nets : List (List Twig)) → AreTrees count near nets → length nets ≤ count
few_nets count near nets trees = nets_few count near nets trees (length nets) refl

-- ---- One net joins

pub one_net_joins : (count : ℕ) (near : ℕ → ℕ → Type 0) (nets : List (List Twig)) → AreTrees count near nets → ((p q : ℕ) → near p q → near q p) → (i p q : ℕ) → Holds nets i p → Holds nets i q → AreJoined near p q
one_net_joins count near nets trees both i p q h k =
    let tree = All-get_or (IsTree near) nets i [] (held_within nets i p h) trees.trees in
    let there = from_first near (net_at nets i) tree p h in
    AreJoined-trans near p (first_piece (net_at nets i)) q (AreJoined-back near both (first_piece (net_at nets i)) p there.0 there.1) (from_first near (net_at nets i) tree q k)
