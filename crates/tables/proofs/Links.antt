-- Lists gone along, from each item to the next.
use Rattle.std.proofs.Common.{◌↔◌, ℕ, ◌+◌, ◌<◌, ◌≤◌, IsTrue, true, false, List, [], ◌∷◌, length, get_or, drop, sym, subst, refl}
use Rattle.std.proofs.lemmas.List.{drop_all, drop_more}

-- what a test says that is known to hold, or not to
pub is_so : {Q : Type 0} → Q → IsTrue true ↔ Q
is_so q = (λ yes. q, λ h. refl)

pub is_not : {Q : Type 0} → (Q → ⊥) → IsTrue false ↔ Q
is_not fails = (λ yes. cc, λ q. absurd (fails q))

-- F says P of the one that was come from and the next, and so on; of the whole it says Q
module _ {X : Type 0} (P : X → X → Type 0) (F : X → List X → Type 0) (Q : Type 0) (from : X) (rest : List X) (i : ℕ) where
  parts : (d : X) → i < length rest → ((to : X) (xs : List X) → F from (to ∷ xs) ↔ (P from to × F to xs)) → (F from (drop i rest) ↔ Q) → Q → P from (get_or rest i d) × F (get_or rest i d) (drop (i + 1) rest)
  parts d below step so_far q = (step _ _).0 (subst (λ (xs : List X). F from xs) (drop_more rest i d below) (so_far.1 q))

  -- one more
  pub link_more : (d : X) → i < length rest → ((to : X) (xs : List X) → F from (to ∷ xs) ↔ (P from to × F to xs)) → (F from (drop i rest) ↔ Q) → P from (get_or rest i d) → F (get_or rest i d) (drop (i + 1) rest) ↔ Q
  link_more d below step so_far link = (
    λ h. so_far.0 (subst (λ (xs : List X). F from xs) (sym (drop_more rest i d below)) ((step _ _).1 (link, h))),
    λ q. (parts d below step so_far q).1,
  )

  -- one that is not so
  pub link_fails : (d : X) → i < length rest → ((to : X) (xs : List X) → F from (to ∷ xs) ↔ (P from to × F to xs)) → (F from (drop i rest) ↔ Q) → (P from (get_or rest i d) → ⊥) → Q → ⊥
  link_fails d below step so_far fails q = fails (parts d below step so_far q).0

-- none is left
pub links_left : {X : Type 0} (F : X → List X → Type 0) (Q : Type 0) (from : X) (rest : List X) (i : ℕ) → length rest ≤ i → (F from (drop i rest) ↔ Q) → F from [] ↔ Q
links_left F Q from rest i past so_far = (
  λ h. so_far.0 (subst (λ (xs : List _). F from xs) (sym (drop_all i rest past)) h),
  λ q. subst (λ (xs : List _). F from xs) (drop_all i rest past) (so_far.1 q),
)
