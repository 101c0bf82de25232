-- Paths by the places of pieces and by their stamps.
use Rattle.std.proofs.Common.{◌≡◌, ◌↔◌, ℕ, ◌+◌, ◌<◌, ◌≤◌, List, [], ◌∷◌, length, get_or, take, drop, All, Some, None, sym, ap, subst, ◌∙◌, arith, slice_get}
use Rattle.std.proofs.lemmas.List.{drop_all, drop_more, get_or_default, take_all, take_more}
use Rattle.std.proofs.lemmas.List.Elements.{All-push}
use Rattle.std.proofs.lemmas.Option.{slice_get-get_or}
use Rattle.verdict.specs.declared.verdict.Twig.{Twig}
use Rattle.verdict.specs.Places.{HasPlaces, twig_at}
use Rattle.verdict.specs.Right.{HasParent, IsPath}
use Rattle.witness_check.specs.Marked.{AreStamped}
use Rattle.witness_check.proofs.Stamping.{stamped_within}

-- ---- Parents

-- the place of a piece with a parent
pub parent_place : (net : List Twig) (places : List ℕ) (piece parent : ℕ) → HasPlaces net places → HasParent net piece parent → (piece < length places) × (slice_get net (get_or places piece 0) ≡ Some (record { piece = piece; parent = Some parent }))
parent_place net places piece parent all (k, below, same) =
    let t : Twig = record { piece = piece; parent = Some parent } in
    let here : twig_at net k ≡ t = get_or_default net k (record { piece = 0; parent = None }) t below ∙ same in
    let of : (twig_at net k).piece ≡ piece = ap (λ (u : Twig). u.piece) here in
    let place : get_or places piece 0 ≡ k = ap (λ (x : ℕ). get_or places x 0) (sym of) ∙ (all k below).1 in
    (subst (λ (x : ℕ). x < length places) of (all k below).0, ap (slice_get net) place ∙ (slice_get-get_or net k (record { piece = 0; parent = None }) below ∙ ap Some here))

-- ---- Paths

-- The first i pieces go on, and the rest decides.
pub record IsWalked (net : List Twig) (stamp : ℕ) (stamps pieces : List ℕ) (i : ℕ) : Type 0 where
  pub path : (ends : List ℕ) → AreStamped ends stamp stamps → IsPath net ends pieces ↔ IsPath net ends (drop i pieces)
  pub inside : All (λ piece. piece < length stamps) (take i pieces)

two_next : (pieces : List ℕ) (i : ℕ) → i + 1 < length pieces → drop i pieces ≡ get_or pieces i 0 ∷ get_or pieces (i + 1) 0 ∷ drop (i + 1 + 1) pieces
two_next pieces i below = drop_more pieces i 0 (omega arith) ∙ ap (λ (xs : List ℕ). get_or pieces i 0 ∷ xs) (drop_more pieces (i + 1) 0 below)

pub walk_more : (net : List Twig) (places : List ℕ) (stamp : ℕ) (stamps pieces : List ℕ) (i : ℕ) → HasPlaces net places → length places ≤ length stamps → i + 1 < length pieces → (get_or stamps (get_or pieces i 0) 0 ≡ stamp → ⊥) → HasParent net (get_or pieces i 0) (get_or pieces (i + 1) 0)
    → IsWalked net stamp stamps pieces i → IsWalked net stamp stamps pieces (i + 1)
walk_more net places stamp stamps pieces i all room below off parent walked =
    let p : ℕ = get_or pieces i 0 in
    let q : ℕ = get_or pieces (i + 1) 0 in
    let within : p < length places = (parent_place net places p q all parent).0 in
    record {
      path = λ ends are. (
        (λ w. subst (IsPath net ends) (sym (drop_more pieces (i + 1) 0 below)) (subst (IsPath net ends) (two_next pieces i below) ((walked.path ends are).0 w)).2),
        λ w. (walked.path ends are).1 (subst (IsPath net ends) (sym (two_next pieces i below)) ((λ held. off ((are p).0 held)), parent, subst (IsPath net ends) (drop_more pieces (i + 1) 0 below) w)),
      );
      inside = subst (All (λ piece. piece < length stamps)) (sym (take_more pieces i 0 (omega arith))) (All-push (λ piece. piece < length stamps) (take i pieces) p walked.inside (omega arith));
    }

pub walk_ended : (net : List Twig) (stamp : ℕ) (stamps pieces : List ℕ) (i : ℕ) → i + 1 < length pieces → get_or stamps (get_or pieces i 0) 0 ≡ stamp → IsWalked net stamp stamps pieces i → (ends : List ℕ) → AreStamped ends stamp stamps → IsPath net ends pieces → ⊥
walk_ended net stamp stamps pieces i below on walked ends are path = (subst (IsPath net ends) (two_next pieces i below) ((walked.path ends are).0 path)).0 ((are (get_or pieces i 0)).1 on)

pub walk_strays : (net : List Twig) (stamp : ℕ) (stamps pieces : List ℕ) (i : ℕ) → i + 1 < length pieces → (HasParent net (get_or pieces i 0) (get_or pieces (i + 1) 0) → ⊥) → IsWalked net stamp stamps pieces i → (ends : List ℕ) → AreStamped ends stamp stamps → IsPath net ends pieces → ⊥
walk_strays net stamp stamps pieces i below not walked ends are path = not (subst (IsPath net ends) (two_next pieces i below) ((walked.path ends are).0 path)).1

one_next : (pieces : List ℕ) (i : ℕ) → i + 1 ≡ length pieces → drop i pieces ≡ get_or pieces i 0 ∷ []
one_next pieces i last = drop_more pieces i 0 (omega arith) ∙ ap (λ (xs : List ℕ). get_or pieces i 0 ∷ xs) (drop_all (i + 1) pieces (omega arith))

pub walk_done : (net : List Twig) (stamp : ℕ) (stamps pieces : List ℕ) (i : ℕ) → i + 1 ≡ length pieces → IsWalked net stamp stamps pieces i → (ends : List ℕ) → AreStamped ends stamp stamps → (get_or stamps (get_or pieces i 0) 0 ≡ stamp) ↔ IsPath net ends pieces
walk_done net stamp stamps pieces i last walked ends are = (
  (λ on. (walked.path ends are).1 (subst (IsPath net ends) (sym (one_next pieces i last)) ((are (get_or pieces i 0)).1 on))),
  λ path. (are (get_or pieces i 0)).0 (subst (IsPath net ends) (one_next pieces i last) ((walked.path ends are).0 path)),
)

pub walk_inside : (net : List Twig) (stamp : ℕ) (stamps pieces : List ℕ) (i : ℕ) → 0 < stamp → i + 1 ≡ length pieces → get_or stamps (get_or pieces i 0) 0 ≡ stamp → IsWalked net stamp stamps pieces i → All (λ piece. piece < length stamps) pieces
walk_inside net stamp stamps pieces i some last on walked =
    let whole : take (i + 1) pieces ≡ pieces = take_all (i + 1) pieces (omega arith) in
    subst (All (λ piece. piece < length stamps)) (sym (take_more pieces i 0 (omega arith)) ∙ whole) (All-push (λ piece. piece < length stamps) (take i pieces) (get_or pieces i 0) walked.inside (stamped_within stamp stamps (get_or pieces i 0) some on))
