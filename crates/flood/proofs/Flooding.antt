-- Whole nets one after another.
use Rattle.std.proofs.Common.{◌≡◌, ◌≢◌, ◌⊎◌, inl, inr, ℕ, ◌+◌, ◌*◌, ◌<◌, ◌≤◌, Bool, false, List, [], ◌∷◌, ◌++◌, length, get_or, replicate, Contains, All, AllPairs, refl, sym, ap, subst, ◌∙◌, arith, length-append}
use Rattle.std.proofs.lemmas.List.{get_or_append_left, get_or_at, get_or-replicate, length-replicate}
use Rattle.std.proofs.lemmas.List.Elements.{All-push, All-get_or, All-weaker}
use Rattle.std.proofs.lemmas.List.Quantifiers.{all_pairs_push}
use Rattle.std.proofs.lemmas.Bool.{cases_eq}
use Rattle.verdict.specs.declared.verdict.Twig.{Twig}
use Rattle.verdict.specs.Forest.{IsTree, IsForest, Holds, pieces_of, first_piece}
use Rattle.verdict.proofs.Holding.{none_inside, held_within}
use Rattle.verdict.proofs.Trees.{first_inside}
use Rattle.cell_index.specs.Field.{sum_below}
use Rattle.flood.specs.Flood.{IsSeen, IsWhole}
use Rattle.flood.proofs.Seen.{seen_within}

pub hold_old : (nets : List (List Twig)) (net : List Twig) (i p : ℕ) → Holds nets i p → Holds (nets ++ net ∷ []) i p
hold_old nets net i p inside = subst (λ (n : List Twig). Contains (pieces_of n) p) (sym (get_or_append_left nets (net ∷ []) [] i (held_within nets i p inside))) inside

pub hold_new : (nets : List (List Twig)) (net : List Twig) (p : ℕ) → Contains (pieces_of net) p → Holds (nets ++ net ∷ []) (length nets) p
hold_new nets net p inside = subst (λ (n : List Twig). Contains (pieces_of n) p) (sym (get_or_at nets net [] [] (length nets) refl)) inside

pub hold_cases : (nets : List (List Twig)) (net : List Twig) (i p : ℕ) → Holds (nets ++ net ∷ []) i p → Holds nets i p ⊎ ((i ≡ length nets) × Contains (pieces_of net) p)
hold_cases nets net i p inside =
    let within = held_within (nets ++ net ∷ []) i p inside in
    let long = length-append nets (net ∷ []) in
    elim (cases_eq i (length nets)) [
      | inl last ↦ inr (last, subst (λ (n : List Twig). Contains (pieces_of n) p) (ap (λ (k : ℕ). get_or (nets ++ net ∷ []) k []) last ∙ get_or_at nets net [] [] (length nets) refl) inside)
      | inr other ↦ inl (subst (λ (n : List Twig). Contains (pieces_of n) p) (get_or_append_left nets (net ∷ []) [] i (omega arith)) inside)
    ]

-- The nets of the pieces that were seen: they hold these, and all that is near one of them. What is below `first` was seen.
pub record IsFlooded (count : ℕ) (near : ℕ → ℕ → Type 0) (nets : List (List Twig)) (seen : List Bool) (first : ℕ) : Type 0 where
  pub long : length seen ≡ count
  pub below : (q : ℕ) → q < first → IsSeen seen q
  pub trees : All (IsTree near) nets
  pub firsts : All (λ net. first_piece net < first) nets
  pub rising : AllPairs (λ net later. first_piece net < first_piece later) nets
  pub held : (piece : ℕ) → IsSeen seen piece → (i : ℕ) × Holds nets i piece
  pub marked : (i piece : ℕ) → Holds nets i piece → IsSeen seen piece
  pub one_net : (i j piece : ℕ) → Holds nets i piece → Holds nets j piece → i ≡ j
  pub one_place : All (λ net. AllPairs (λ p q. p ≢ q) (pieces_of net)) nets
  pub closed : (i p q : ℕ) → Holds nets i p → near p q → Holds nets i q

dry : (n q : ℕ) → IsSeen (replicate n false) q → ⊥
dry n q was =
    let within = seen_within (replicate n false) q was in
    let long = length-replicate n false in
    let off = get_or-replicate n q false false (omega arith) in
    cc

pub flooded_start : (count : ℕ) (near : ℕ → ℕ → Type 0) → IsFlooded count near [] (replicate count false) 0
flooded_start count near = record {
  long = length-replicate count false;
  below = λ q h. absurd (omega arith);
  trees = λ k d h. absurd (omega arith);
  firsts = λ k d h. absurd (omega arith);
  rising = λ i j d h k. absurd (omega arith);
  held = λ p was. absurd (dry count p was);
  marked = λ i p h. absurd (none_inside p h);
  one_net = λ i j p h. absurd (none_inside p h);
  one_place = λ k d h. absurd (omega arith);
  closed = λ i p q h. absurd (none_inside p h);
}

-- The first piece was seen.
pub flooded_on : (count : ℕ) (near : ℕ → ℕ → Type 0) (nets : List (List Twig)) (seen : List Bool) (first : ℕ) → IsFlooded count near nets seen first → IsSeen seen first → IsFlooded count near nets seen (first + 1)
flooded_on count near nets seen first f was = record {
  long = f.long;
  below = λ q h. elim (cases_eq q first) [ inl same ↦ subst (λ (x : ℕ). IsSeen seen x) (sym same) was | inr other ↦ f.below q (omega arith) ];
  trees = f.trees;
  firsts = All-weaker (λ net. first_piece net < first) (λ net. first_piece net < first + 1) (λ net h. omega arith) nets f.firsts;
  rising = f.rising;
  held = f.held;
  marked = f.marked;
  one_net = f.one_net;
  one_place = f.one_place;
  closed = f.closed;
}

-- A whole net more.
pub flooded_more : (count : ℕ) (near : ℕ → ℕ → Type 0) → ((p q : ℕ) → near p q → near q p) → (nets : List (List Twig)) (seen : List Bool) (first : ℕ) (net : List Twig) (seen' : List Bool) → IsFlooded count near nets seen first → IsWhole near seen first net seen' → IsFlooded count near (nets ++ net ∷ []) seen' (first + 1)
flooded_more count near both nets seen first net seen' f w =
    let g = w.grown in
    let all : List (List Twig) = nets ++ net ∷ [] in
    let apart : (i p : ℕ) → Holds nets i p → Contains (pieces_of net) p → ⊥ = λ i p old new. g.fresh p new (f.marked i p old) in
    record {
      long = g.long ∙ f.long;
      below = λ q h. elim (cases_eq q first) [
        | inl same ↦ subst (λ (x : ℕ). IsSeen seen' x) (g.root ∙ sym same) (g.marked (first_piece net) (first_inside near net g.tree))
        | inr other ↦ g.kept q (f.below q (omega arith))
      ];
      trees = All-push (IsTree near) nets net f.trees g.tree;
      firsts = All-push (λ n. first_piece n < first + 1) nets net (All-weaker (λ n. first_piece n < first) (λ n. first_piece n < first + 1) (λ n h. omega arith) nets f.firsts) (let e = g.root in omega arith);
      rising = all_pairs_push (λ n later. first_piece n < first_piece later) nets net f.rising (λ k d h. let e = g.root in let b = All-get_or (λ n. first_piece n < first) nets k d h f.firsts in omega arith);
      held = λ p now. elim (g.known p now) [
        | inl was ↦ let home = f.held p was in (home.0, hold_old nets net home.0 p home.1)
        | inr inside ↦ (length nets, hold_new nets net p inside)
      ];
      marked = λ i p h. elim (hold_cases nets net i p h) [ inl old ↦ g.kept p (f.marked i p old) | inr new ↦ g.marked p new.1 ];
      one_net = λ i j p h k. elim (hold_cases nets net i p h) [
        | inl old ↦ elim (hold_cases nets net j p k) [ inl other ↦ f.one_net i j p old other | inr new ↦ absurd (apart i p old new.1) ]
        | inr new ↦ elim (hold_cases nets net j p k) [ inl other ↦ absurd (apart j p other new.1) | inr same ↦ new.0 ∙ sym same.0 ]
      ];
      one_place = All-push (λ n. AllPairs (λ p q. p ≢ q) (pieces_of n)) nets net f.one_place g.once;
      closed = λ i p q h touches. elim (hold_cases nets net i p h) [
        | inl old ↦ hold_old nets net i q (f.closed i p q old touches)
        | inr new ↦ elim (g.known q (w.closed p q new.1 touches)) [
          | inl was ↦ let home = f.held q was in absurd (apart home.0 p (f.closed home.0 q p home.1 (both p q touches)) new.1)
          | inr inside ↦ subst (λ (k : ℕ). Holds (nets ++ net ∷ []) k q) (sym new.0) (hold_new nets net q inside)
        ]
      ];
    }

pub flooded_all : (count : ℕ) (near : ℕ → ℕ → Type 0) (nets : List (List Twig)) (seen : List Bool) → IsFlooded count near nets seen count → IsForest count near nets
flooded_all count near nets seen f = record {
  trees = record {
    known = λ i p h. let e = seen_within seen p (f.marked i p h) in let l = f.long in omega arith;
    trees = f.trees;
    rising = f.rising;
  };
  covers = record {
    held = λ p h. f.held p (f.below p h);
    one_net = f.one_net;
    one_place = f.one_place;
  };
  apart = λ i j p q h k touches. f.one_net i j q (f.closed i p q h touches) k;
}

-- what is asked of all pieces is at most twice the pairs
pub within_pairs : (asked : ℕ → ℕ) (count size pairs start tests : ℕ) → count ≡ size → sum_below asked size ≡ 2 * pairs → tests ≤ start + sum_below asked count → tests ≤ start + 2 * pairs
within_pairs asked count size pairs start tests same twice within = (let whole : sum_below asked count ≡ sum_below asked size = ap (sum_below asked) same in omega arith)
