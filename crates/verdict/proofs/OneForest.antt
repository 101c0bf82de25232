-- Two sets of spanning trees of one board: nets of one number begin with the same piece, and hold the same pieces.
use Rattle.std.proofs.Common.{◌≡◌, ℕ, zero, suc, ◌+◌, ◌<◌, ◌≤◌, List, [], ◌∷◌, length, map, get_or, AllPairs, Contains, sym, ap, subst, ◌∙◌, arith}
use Rattle.std.proofs.lemmas.List.{get_or-map, length-map}
use Rattle.std.proofs.lemmas.List.Elements.{All-get_or}
use Rattle.std.specs.List.Sorted.{IsStrictlyIncreasing}
use Rattle.tables.proofs.Listing.{same_members}
use Rattle.verdict.specs.Forest.{Holds, IsForest, IsTree, first_piece, net_at, pieces_of}
use Rattle.verdict.specs.declared.verdict.Twig.{Twig}
use Rattle.verdict.proofs.Chains.{AreJoined-back, from_first, stays}
use Rattle.verdict.proofs.Holding.{held_within}
use Rattle.verdict.proofs.Trees.{first_inside}

abbrev firsts_of : List (List Twig) → List ℕ
firsts_of nets = map first_piece nets

-- the first piece of a tree is its least
first_least : (near : ℕ → ℕ → Type 0) (net : List Twig) → IsTree near net → (p : ℕ) → Contains (pieces_of net) p → first_piece net ≤ p
first_least near [] tree p inside = absurd tree
first_least near (t ∷ rest) (root, least, hang) p (zero, below, same) = omega arith
first_least near (t ∷ rest) (root, least, hang) p (suc k, below, same) =
    let long = length-map rest (λ (s : Twig). s.piece) in
    let here : k < length rest = omega arith in
    let low : t.piece ≤ (get_or rest k t).piece = least k t here in
    let piece : get_or (pieces_of rest) k p ≡ (get_or rest k t).piece = get_or-map (λ (s : Twig). s.piece) rest k t p here in
    omega arith

rises : (nets : List (List Twig)) → AllPairs (λ net later. first_piece net < first_piece later) nets → IsStrictlyIncreasing (firsts_of nets)
rises nets rising k below =
    let long = length-map nets first_piece in
    let here : get_or (firsts_of nets) k 0 ≡ first_piece (net_at nets k) = get_or-map first_piece nets k [] 0 (omega arith) in
    let next : get_or (firsts_of nets) (k + 1) 0 ≡ first_piece (net_at nets (k + 1)) = get_or-map first_piece nets (k + 1) [] 0 (omega arith) in
    let fact : first_piece (net_at nets k) < first_piece (net_at nets (k + 1)) = rising k (k + 1) [] (omega arith) (omega arith) in
    omega arith

-- A board: what is near is a piece of it, and pieces are near each other both ways.
module _ (count : ℕ) (near : ℕ → ℕ → Type 0) (known : (p q : ℕ) → near p q → q < count) (both : (p q : ℕ) → near p q → near q p) where
  tree_of : (nets : List (List Twig)) → IsForest count near nets → (i : ℕ) → i < length nets → IsTree near (net_at nets i)
  tree_of nets forest i below = All-get_or (IsTree near) nets i [] below forest.trees.trees

  -- The first piece of a net is the first piece of the net that holds it among the other trees.
  first_in : (nets others : List (List Twig)) → IsForest count near nets → IsForest count near others → (p : ℕ) → Contains (firsts_of nets) p → Contains (firsts_of others) p
  first_in nets others forest other p (i, below, same) =
      let long = length-map nets first_piece in
      let within : i < length nets = omega arith in
      let tree = tree_of nets forest i within in
      let is_first : first_piece (net_at nets i) ≡ p = sym (get_or-map first_piece nets i [] p within) ∙ same in
      let held : Holds nets i p = subst (λ (x : ℕ). Holds nets i x) is_first (first_inside near (net_at nets i) tree) in
      let home = other.covers.held p (forest.trees.known i p held) in
      let there : home.0 < length others = held_within others home.0 p home.1 in
      let their = tree_of others other home.0 there in
      let q : ℕ = first_piece (net_at others home.0) in
      let low : q ≤ p = first_least near (net_at others home.0) their p home.1 in
      let chain = from_first near (net_at others home.0) their p home.1 in
      let path = AreJoined-back near both q p chain.0 chain.1 in
      let back : Holds nets i q = stays count near nets forest known i p q path.0 held path.1 in
      let high : first_piece (net_at nets i) ≤ q = first_least near (net_at nets i) tree q back in
      let both_ways : q ≡ p = omega arith in
      let size = length-map others first_piece in
      (home.0, omega arith, get_or-map first_piece others home.0 [] p there ∙ both_ways)

  firsts_same : (nets others : List (List Twig)) → IsForest count near nets → IsForest count near others → firsts_of nets ≡ firsts_of others
  firsts_same nets others forest other =
      same_members (firsts_of nets) (firsts_of others) (rises nets forest.trees.rising) (rises others other.trees.rising) (first_in nets others forest other) (first_in others nets other forest)

  pub forests_as_long : (nets others : List (List Twig)) → IsForest count near nets → IsForest count near others → length nets ≡ length others
  forests_as_long nets others forest other = sym (length-map nets first_piece) ∙ (ap length (firsts_same nets others forest other) ∙ length-map others first_piece)

  pub first_alike : (nets others : List (List Twig)) → IsForest count near nets → IsForest count near others → (i : ℕ) → i < length nets → first_piece (net_at nets i) ≡ first_piece (net_at others i)
  first_alike nets others forest other i below =
      let many = forests_as_long nets others forest other in
      sym (get_or-map first_piece nets i [] 0 below) ∙ (ap (λ (xs : List ℕ). get_or xs i 0) (firsts_same nets others forest other) ∙ get_or-map first_piece others i [] 0 (omega arith))

  pub held_alike : (nets others : List (List Twig)) → IsForest count near nets → IsForest count near others → (i p : ℕ) → Holds nets i p → Holds others i p
  held_alike nets others forest other i p held =
      let below = held_within nets i p held in
      let many = forests_as_long nets others forest other in
      let there : i < length others = omega arith in
      let q : ℕ = first_piece (net_at nets i) in
      let chain = from_first near (net_at nets i) (tree_of nets forest i below) p held in
      let start : Holds others i q = subst (λ (x : ℕ). Holds others i x) (sym (first_alike nets others forest other i below)) (first_inside near (net_at others i) (tree_of others other i there)) in
      stays count near others other known i q p chain.0 start chain.1
