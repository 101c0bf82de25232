-- Trees and branches along a relation that says no less, and what a tree says place by place.
use Rattle.std.proofs.Common.{◌≡◌, ℕ, zero, suc, ◌<◌, ◌≤◌, List, [], ◌∷◌, ◌++◌, length, take, Contains, Some, None, sym, ap, subst, ◌∙◌, append_assoc, append-nil, arith}
use Rattle.std.proofs.lemmas.List.{get_or_default, get_or-map, length-map, get_or-take, length-take-le}
use Rattle.verdict.specs.declared.verdict.Twig.{Twig}
use Rattle.verdict.specs.declared.verdict.Branch.{Branch}
use Rattle.verdict.specs.declared.verdict.PointLine.{PointLine}
use Rattle.verdict.specs.Forest.{IsTree, Hang, pieces_of, piece_of}
use Rattle.verdict.specs.Right.{AreBranches}
use Rattle.judge.specs.Judged.{HangAbove}
use Rattle.verdict.specs.Places.{twig_at}
use Rattle.verdict.proofs.Chains.{begins_along}

pub branches_along : (net : List Twig) (starts more : ℕ → ℕ → Type 0) → ((probe p : ℕ) → starts probe p → more probe p) → (lines : List PointLine) (number : ℕ) (ends : List ℕ) (branches : List Branch) → AreBranches net starts lines number ends branches → AreBranches net more lines number ends branches
branches_along net starts more along lines number ends [] all = tt
branches_along net starts more along lines number ends (b ∷ rest) (first, all) =
    (record { probe = first.probe; start = begins_along (starts b.probe) (more b.probe) (along b.probe) b.pieces first.start; path = first.path }, branches_along net starts more along lines number (ends ++ b.pieces) rest all)

hang_at : (near : ℕ → ℕ → Type 0) (earlier : List ℕ) (rest : List Twig) (k : ℕ) → Hang near earlier rest → k < length rest → (parent : ℕ) × ((twig_at rest k).parent ≡ Some parent) × Contains (earlier ++ pieces_of (take k rest)) parent
hang_at near earlier [] k hang below = absurd (omega arith)
hang_at near earlier (t ∷ rest) zero (here, hang) below = (here.parent, here.named, subst (λ (xs : List ℕ). Contains xs here.parent) (sym (append-nil earlier)) here.stands)
hang_at near earlier (t ∷ rest) (suc k) (here, hang) below =
    let h = hang_at near (earlier ++ t.piece ∷ []) rest k hang (omega arith) in
    (h.0, h.1, subst (λ (xs : List ℕ). Contains xs h.0) (append_assoc earlier (t.piece ∷ []) (pieces_of (take k rest))) h.2)

before : (net : List Twig) (k p : ℕ) → k ≤ length net → Contains (pieces_of (take k net)) p → (j : ℕ) × (j < k) × ((twig_at net j).piece ≡ p)
before net k p within (j, below, same) =
    let d : Twig = record { piece = 0; parent = None } in
    let long = length-map (take k net) piece_of in
    let cut = length-take-le k net within in
    let here : j < k = omega arith in
    (j, here, sym (ap (λ (t : Twig). t.piece) (get_or-take k net j d here)) ∙ (sym (get_or-map piece_of (take k net) j d 0 (omega arith)) ∙ (get_or_default (pieces_of (take k net)) j 0 p below ∙ same)))

pub tree_hangs : (near : ℕ → ℕ → Type 0) (net : List Twig) → IsTree near net → HangAbove net
tree_hangs near [] tree k inner within = absurd tree
tree_hangs near (t ∷ rest) tree zero inner within = absurd (omega arith)
tree_hangs near (t ∷ rest) (root, least, hang) (suc k) inner within =
    let h = hang_at near (t.piece ∷ []) rest k hang (omega arith) in
    let j = before (t ∷ rest) (suc k) h.0 (omega arith) h.2 in
    record { place = j.0; before = j.1; named = h.1 ∙ ap Some (sym j.2) }
