-- A net whose pieces are asked one after another.
use Rattle.std.proofs.Common.{◌≡◌, inl, inr, ℕ, zero, suc, ◌+◌, ◌<◌, ◌≤◌, Bool, true, List, [], ◌∷◌, ◌++◌, length, get_or, set, take, Contains, None, refl, sym, ap, subst, ◌∙◌, arith, length-append}
use Rattle.std.proofs.lemmas.List.{length-set, map-append, get_or_append_left, take_all, take-append-le, take_more, get_or-map, length-map}
use Rattle.std.proofs.lemmas.List.Elements.{Contains-get_or}
use Rattle.std.proofs.lemmas.Bool.{cases_eq}
use Rattle.verdict.specs.declared.verdict.Twig.{Twig}
use Rattle.verdict.specs.Forest.{pieces_of, piece_of}
use Rattle.flood.specs.Flood.{IsSeen, unseen, weight, IsGrown, IsWhole}
use Rattle.flood.proofs.Seen.{seen_now, seen_still, seen_cases, seen_within, unseen-set, unseen_at_most, weight-push, weight_one, read_at}
use Rattle.flood.proofs.Trees.{tree_of_one}

-- The pieces before `at` were asked, and what is near them was seen.
pub record IsAsked (near : ℕ → ℕ → Type 0) (rivals : ℕ → ℕ) (base : List Bool) (first : ℕ) (ticks : ℕ) (net : List Twig) (seen : List Bool) (at : ℕ) (tests : ℕ) : Type 0 where
  pub grown : IsGrown near base first net seen
  pub within : at ≤ length net
  pub asked : (k q : ℕ) → k < at → near (get_or (pieces_of net) k 0) q → IsSeen seen q
  pub kept : (w : ℕ → ℕ) → unseen w 0 seen + weight w net ≡ unseen w 0 base
  pub ticked : tests ≤ ticks + weight rivals (take at net)

one_of : (x q : ℕ) → Contains (x ∷ []) q → x ≡ q
one_of x q (zero, below, same) = same
one_of x q (suc k, below, same) = absurd (omega arith)

first_grown : (near : ℕ → ℕ → Type 0) (base : List Bool) (first : ℕ) → first < length base → (IsSeen base first → ⊥) → ((q : ℕ) → q < first → IsSeen base q) → IsGrown near base first (record { piece = first; parent = None } ∷ []) (set base first true)
first_grown near base first inside fresh below = record {
  long = length-set base first true;
  below = below;
  root = refl;
  tree = tree_of_one near (record { piece = first; parent = None }) refl;
  fresh = λ q h was. fresh (subst (λ (x : ℕ). IsSeen base x) (sym (one_of first q h)) was);
  marked = λ q h. subst (λ (x : ℕ). IsSeen (set base first true) x) (one_of first q h) (seen_now base first inside);
  kept = λ q was. seen_still base first q inside was;
  known = λ q now. elim (seen_cases base first q now) [ inl was ↦ inl was | inr same ↦ inr (0, omega arith, sym same) ];
  once = λ i j d h k. absurd (omega arith);
}

pub asked_start : (near : ℕ → ℕ → Type 0) (rivals : ℕ → ℕ) (base : List Bool) (first ticks : ℕ) → first < length base → (IsSeen base first → ⊥) → ((q : ℕ) → q < first → IsSeen base q) → IsAsked near rivals base first ticks (record { piece = first; parent = None } ∷ []) (set base first true) 0 ticks
asked_start near rivals base first ticks inside fresh below = record {
  grown = first_grown near base first inside fresh below;
  within = omega arith;
  asked = λ k q h. absurd (omega arith);
  kept = λ w. let e = unseen-set w 0 base first inside fresh in let same : w (0 + first) ≡ w first = ap w (omega arith) in omega arith;
  ticked = omega arith;
}

pub piece_at : (net : List Twig) (at : ℕ) → at < length net → get_or (pieces_of net) at 0 ≡ (get_or net at (record { piece = 0; parent = None })).piece
piece_at net at below = get_or-map piece_of net at (record { piece = 0; parent = None }) 0 below

pub piece_inside : (net : List Twig) (at : ℕ) → at < length net → Contains (pieces_of net) (get_or net at (record { piece = 0; parent = None })).piece
piece_inside net at below =
    let e = length-map net piece_of in
    subst (λ (x : ℕ). Contains (pieces_of net) x) (piece_at net at below) (Contains-get_or (pieces_of net) at 0 (omega arith))

pub piece_below : (near : ℕ → ℕ → Type 0) (base : List Bool) (first : ℕ) (net : List Twig) (seen : List Bool) (p : ℕ) → IsGrown near base first net seen → Contains (pieces_of net) p → p < length base
piece_below near base first net seen p g inside = let e = seen_within seen p (g.marked p inside) in let f = g.long in omega arith

-- A net is no longer than the board.
pub net_short : (near : ℕ → ℕ → Type 0) (rivals : ℕ → ℕ) (base : List Bool) (first ticks : ℕ) (net : List Twig) (seen : List Bool) (at tests : ℕ) → IsAsked near rivals base first ticks net seen at tests → length net ≤ length base
net_short near rivals base first ticks net seen at tests a =
    let e = a.kept (λ _. 1) in let f = weight_one net in let g = unseen_at_most 0 base in omega arith

pub asked_step : (near : ℕ → ℕ → Type 0) (rivals : ℕ → ℕ) (base : List Bool) (first ticks : ℕ) (net net' more : List Twig) (seen seen' : List Bool) (at tests tests' p : ℕ)
    → IsAsked near rivals base first ticks net seen at tests → at < length net → p ≡ (get_or net at (record { piece = 0; parent = None })).piece
    → IsGrown near base first net' seen' → net' ≡ net ++ more → ((q : ℕ) → IsSeen seen q → IsSeen seen' q) → ((q : ℕ) → near p q → IsSeen seen' q)
    → ((w : ℕ → ℕ) → unseen w 0 seen' + weight w net' ≡ unseen w 0 seen + weight w net) → tests' ≤ tests + rivals p
    → IsAsked near rivals base first ticks net' seen' (at + 1) tests'
asked_step near rivals base first ticks net net' more seen seen' at tests tests' p a below piece grown longer stays all kept ticked =
    let long : length net' ≡ length net + length more = ap length longer ∙ length-append net more in
    let same : (k : ℕ) → k < length net → get_or (pieces_of net') k 0 ≡ get_or (pieces_of net) k 0 =
    λ k h. ap (λ (xs : List Twig). get_or (pieces_of xs) k 0) longer ∙ (ap (λ (xs : List ℕ). get_or xs k 0) (map-append piece_of net more) ∙ get_or_append_left (pieces_of net) (pieces_of more) 0 k (let e = length-map net piece_of in omega arith)) in
    let front : take (at + 1) net' ≡ take at net ++ get_or net at (record { piece = 0; parent = None }) ∷ [] =
    ap (take (at + 1)) longer ∙ (take-append-le (at + 1) net more (omega arith) ∙ take_more net at (record { piece = 0; parent = None }) below) in
    let sum : weight rivals (take (at + 1) net') ≡ weight rivals (take at net) + rivals p =
    ap (weight rivals) front ∙ (weight-push rivals (take at net) (get_or net at (record { piece = 0; parent = None })) ∙ ap (λ (x : ℕ). weight rivals (take at net) + rivals x) (sym piece)) in
    record {
      grown = grown;
      within = omega arith;
      asked = λ k q h touches. elim (cases_eq k at) [
        | inl here ↦ all q (subst (λ (x : ℕ). near x q) (same k (omega arith) ∙ (ap (λ (x : ℕ). get_or (pieces_of net) x 0) here ∙ (piece_at net at below ∙ sym piece))) touches)
        | inr other ↦ stays q (a.asked k q (omega arith) (subst (λ (x : ℕ). near x q) (same k (omega arith)) touches))
      ];
      kept = λ w. kept w ∙ a.kept w;
      ticked = let t = a.ticked in omega arith;
    }

pub asked_all : (near : ℕ → ℕ → Type 0) (rivals : ℕ → ℕ) (base : List Bool) (first ticks : ℕ) (net : List Twig) (seen : List Bool) (at tests : ℕ) → IsAsked near rivals base first ticks net seen at tests → length net ≤ at → IsWhole near base first net seen
asked_all near rivals base first ticks net seen at tests a all = record {
  grown = a.grown;
  closed = λ p q inside touches.
      let below = inside.1 in
      let e = length-map net piece_of in
      a.asked inside.0 q (omega arith) (subst (λ (x : ℕ). near x q) (sym (read_at (pieces_of net) p inside)) touches);
}

pub asked_ticks : (near : ℕ → ℕ → Type 0) (rivals : ℕ → ℕ) (base : List Bool) (first ticks : ℕ) (net : List Twig) (seen : List Bool) (at tests : ℕ) → IsAsked near rivals base first ticks net seen at tests → length net ≤ at → tests + unseen rivals 0 seen ≤ ticks + unseen rivals 0 base
asked_ticks near rivals base first ticks net seen at tests a all =
    let e = a.kept rivals in let t = a.ticked in let f : weight rivals (take at net) ≡ weight rivals net = ap (weight rivals) (take_all at net all) in omega arith

take_weight : (w : ℕ → ℕ) (at : ℕ) (net : List Twig) → weight w (take at net) ≤ weight w net
take_weight w zero net = omega arith
take_weight w (suc n) [] = omega arith
take_weight w (suc n) (t ∷ rest) = let e = take_weight w n rest in omega arith

-- The call at a piece failed.
pub failed_ticks : (near : ℕ → ℕ → Type 0) (rivals : ℕ → ℕ) (base : List Bool) (first ticks : ℕ) (net : List Twig) (seen seen' : List Bool) (at tests tests' p : ℕ) → IsAsked near rivals base first ticks net seen at tests → at < length net → p ≡ (get_or net at (record { piece = 0; parent = None })).piece → unseen rivals 0 seen' ≤ unseen rivals 0 seen → tests' ≤ tests + rivals p → tests' + unseen rivals 0 seen' ≤ ticks + unseen rivals 0 base
failed_ticks near rivals base first ticks net seen seen' at tests tests' p a below piece fewer ticked =
    let d : Twig = record { piece = 0; parent = None } in
    let sum : weight rivals (take (at + 1) net) ≡ weight rivals (take at net) + rivals p = ap (weight rivals) (take_more net at d below) ∙ (weight-push rivals (take at net) (get_or net at d) ∙ ap (λ (x : ℕ). weight rivals (take at net) + rivals x) (sym piece)) in
    let part = take_weight rivals (at + 1) net in let e = a.kept rivals in let t = a.ticked in omega arith
