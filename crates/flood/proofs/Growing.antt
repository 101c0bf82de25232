-- How a net grows.
use Rattle.std.proofs.Common.{◌≡◌, inl, inr, ℕ, ◌+◌, ◌<◌, ◌≤◌, Bool, true, List, [], ◌∷◌, ◌++◌, length, get_or, set, Contains, Some, refl, sym, ap, subst, ◌∙◌, append_assoc, arith}
use Rattle.std.proofs.lemmas.List.{length-set}
use Rattle.std.proofs.lemmas.Bool.{cases_eq}
use Rattle.verdict.specs.declared.verdict.Twig.{Twig}
use Rattle.verdict.specs.Forest.{pieces_of}
use Rattle.verdict.proofs.Holding.{le_or_lt}
use Rattle.flood.specs.Flood.{IsSeen, unseen, weight, IsGrown}
use Rattle.flood.proofs.Seen.{seen_now, seen_still, seen_cases, unseen-set, weight-push}
use Rattle.flood.proofs.Trees.{holds_still, holds_new, holds_cases, once_more, tree_more, first_stays}

-- One piece more, which is near a piece of the net and was not seen.
pub grow : (near : ℕ → ℕ → Type 0) (base : List Bool) (first : ℕ) (net : List Twig) (seen : List Bool) (p q : ℕ) → IsGrown near base first net seen → Contains (pieces_of net) p → near p q → q < length seen → (IsSeen seen q → ⊥) → IsGrown near base first (net ++ record { piece = q; parent = Some p } ∷ []) (set seen q true)
grow near base first net seen p q g inside touches below new =
    let t : Twig = record { piece = q; parent = Some p } in
    let least : first ≤ q = elim (le_or_lt first q) [ inl l ↦ l | inr l ↦ absurd (new (g.kept q (g.below q l))) ] in
    record {
      long = length-set seen q true ∙ g.long;
      below = g.below;
      root = first_stays near net t g.tree ∙ g.root;
      tree = tree_more near net t p g.tree inside refl touches (subst (λ (x : ℕ). x ≤ q) (sym g.root) least);
      fresh = λ r h. elim (holds_cases net t r h) [ inl old ↦ g.fresh r old | inr same ↦ λ was. new (subst (λ (x : ℕ). IsSeen seen x) (sym same) (g.kept r was)) ];
      marked = λ r h. elim (holds_cases net t r h) [ inl old ↦ seen_still seen q r below (g.marked r old) | inr same ↦ subst (λ (x : ℕ). IsSeen (set seen q true) x) same (seen_now seen q below) ];
      kept = λ r was. seen_still seen q r below (g.kept r was);
      known = λ r now. elim (seen_cases seen q r now) [
        | inl old ↦ elim (g.known r old) [ inl was ↦ inl was | inr held ↦ inr (holds_still net t r held) ]
        | inr same ↦ inr (subst (λ (x : ℕ). Contains (pieces_of (net ++ t ∷ [])) x) (sym same) (holds_new net t))
      ];
      once = once_more net t g.once (λ held. new (g.marked q held));
    }

-- How far a loop over the pieces near one piece has come.
pub record IsSpread (near : ℕ → ℕ → Type 0) (net_old : List Twig) (seen_old : List Bool) (row : List ℕ) (i : ℕ) (net : List Twig) (seen : List Bool) : Type 0 where
  pub long : length seen ≡ length seen_old
  pub more : (more : List Twig) × (net ≡ net_old ++ more)
  pub inside : (p : ℕ) → Contains (pieces_of net_old) p → Contains (pieces_of net) p
  pub grown : (base : List Bool) (first : ℕ) → IsGrown near base first net_old seen_old → IsGrown near base first net seen
  pub stays : (q : ℕ) → IsSeen seen_old q → IsSeen seen q
  pub done : (k : ℕ) → k < i → IsSeen seen (get_or row k 0)
  pub kept : (w : ℕ → ℕ) → unseen w 0 seen + weight w net ≡ unseen w 0 seen_old + weight w net_old
  pub fewer : (w : ℕ → ℕ) → unseen w 0 seen ≤ unseen w 0 seen_old

done_more : (P : ℕ → Type 0) (row : List ℕ) (i : ℕ) → ((k : ℕ) → k < i → P (get_or row k 0)) → P (get_or row i 0) → (k : ℕ) → k < i + 1 → P (get_or row k 0)
done_more P row i before here k below = elim (cases_eq k i) [
  | inl same ↦ subst (λ (x : ℕ). P (get_or row x 0)) (sym same) here
  | inr other ↦ before k (omega arith)
]

pub spread_old : (near : ℕ → ℕ → Type 0) (net_old : List Twig) (seen_old : List Bool) (row : List ℕ) (i : ℕ) (net : List Twig) (seen : List Bool) → IsSpread near net_old seen_old row i net seen → IsSeen seen (get_or row i 0) → IsSpread near net_old seen_old row (i + 1) net seen
spread_old near net_old seen_old row i net seen s here = record {
  long = s.long;
  more = s.more;
  inside = s.inside;
  grown = s.grown;
  stays = s.stays;
  done = done_more (IsSeen seen) row i s.done here;
  kept = s.kept;
  fewer = s.fewer;
}

pub spread_new : (near : ℕ → ℕ → Type 0) (net_old : List Twig) (seen_old : List Bool) (row : List ℕ) (i : ℕ) (net : List Twig) (seen : List Bool) (p q : ℕ) → IsSpread near net_old seen_old row i net seen → q ≡ get_or row i 0 → Contains (pieces_of net_old) p → near p q → q < length seen → (IsSeen seen q → ⊥) → IsSpread near net_old seen_old row (i + 1) (net ++ record { piece = q; parent = Some p } ∷ []) (set seen q true)
spread_new near net_old seen_old row i net seen p q s item inside touches below new =
    let t : Twig = record { piece = q; parent = Some p } in
    record {
      long = length-set seen q true ∙ s.long;
      more = (s.more.0 ++ t ∷ [], ap (λ (n : List Twig). n ++ t ∷ []) s.more.1 ∙ append_assoc net_old s.more.0 (t ∷ []));
      inside = λ r h. holds_still net t r (s.inside r h);
      grown = λ base first g. grow near base first net seen p q (s.grown base first g) (s.inside p inside) touches below new;
      stays = λ r h. seen_still seen q r below (s.stays r h);
      done = done_more (IsSeen (set seen q true)) row i (λ k h. seen_still seen q (get_or row k 0) below (s.done k h)) (subst (λ (x : ℕ). IsSeen (set seen q true) x) item (seen_now seen q below));
      kept = λ w. let e = unseen-set w 0 seen q below new in let f = weight-push w net t in let h = s.kept w in let same : w (0 + q) ≡ w q = ap w (omega arith) in omega arith;
      fewer = λ w. let e = unseen-set w 0 seen q below new in let h = s.fewer w in omega arith;
    }
