-- How many pieces the branches of shorts list. A piece that a path goes on from is free, so no path listed it before; and where
-- a path ends it lists one piece more.
use Rattle.std.proofs.Common.{◌≡◌, ◌≢◌, ◌⊎◌, inl, inr, ℕ, zero, suc, ◌+◌, ◌<◌, ◌≤◌, AllPairs, Contains, Bool, true, false, cond, ◌==◌, ◌||◌, List, [], ◌∷◌, ◌++◌, length, map, None, Some, slice_get, refl, sym, ap, subst, ◌∙◌, arith}
use Rattle.std.proofs.lemmas.Bool.{cond-false, cond-true, eq-eqb, eqb-true, false≢true, false_from_ne_true, ne_eqb, or_cases, or_left, or_right}
use Rattle.std.proofs.lemmas.List.{length-map}
use Rattle.std.proofs.lemmas.List.Elements.{Contains-append_cases, Contains-append_left, Contains-append_right, Contains-push_cases}
use Rattle.std.proofs.lemmas.List.Sums.{sum_by-cons}
use Rattle.std.proofs.lemmas.Option.{same_Some}
use Rattle.std.specs.List.{AllByRecursion, sum_by}
use Rattle.verdict.proofs.Holding.{one_of}
use Rattle.verdict.specs.Forest.{Hang, IsTree, first_piece, piece_of, pieces_of}
use Rattle.verdict.specs.Limits.{branch_count, branch_length, branches_length, net_length}
use Rattle.verdict.specs.Right.{AreBranches, HasBranches, HasParent, IsPath, Outline, all_shorts, names_on, outline, short_of}
use Rattle.verdict.specs.declared.verdict.Branch.{Branch}
use Rattle.verdict.specs.declared.verdict.PointLine.{PointLine}
use Rattle.verdict.specs.declared.verdict.Short.{Short}
use Rattle.verdict.specs.declared.verdict.Twig.{Twig}

-- ---- What stands in a list

abbrev has : List ℕ → ℕ → Bool
has [] p = false
has (x ∷ xs) p = (x == p) || has xs p

has_from : (xs : List ℕ) (p : ℕ) → Contains xs p → has xs p ≡ true
has_from [] p (k, below, same) = absurd (omega (arith, below))
has_from (x ∷ xs) p (zero, below, same) = or_left (x == p) (has xs p) (eq-eqb x p same)
has_from (x ∷ xs) p (suc k, below, same) = or_right (x == p) (has xs p) (has_from xs p (k, omega (arith, below), same))

has_to : (xs : List ℕ) (p : ℕ) → has xs p ≡ true → Contains xs p
has_to [] p h = absurd (false≢true h)
has_to (x ∷ xs) p h = elim (or_cases (x == p) (has xs p) h) [
  | inl e ↦ (0, omega arith, eqb-true x p e)
  | inr more ↦ (let rest = has_to xs p more in (suc rest.0, (let below = rest.1 in omega (arith, below)), rest.2))
]

-- how many numbers of a list are free, that is not taken
abbrev open_at : Bool → ℕ
open_at true = 0
open_at false = 1

abbrev free : (ℕ → Bool) → List ℕ → ℕ
free taken [] = 0
free taken (p ∷ ps) = open_at (taken p) + free taken ps

one_free : (x y : Bool) → (y ≡ true → x ≡ true) → open_at x ≤ open_at y
one_free true y more = omega arith
one_free false true more = absurd (false≢true (more refl))
one_free false false more = omega arith

free_le : (a b : ℕ → Bool) → ((p : ℕ) → b p ≡ true → a p ≡ true) → (ps : List ℕ) → free a ps ≤ free b ps
free_le a b more [] = omega arith
free_le a b more (p ∷ ps) = let one = one_free (a p) (b p) (more p) in let rest = free_le a b more ps in omega (arith, one, rest)

-- where one more is taken, one less is free
free_less : (a b : ℕ → Bool) → ((p : ℕ) → b p ≡ true → a p ≡ true) → (ps : List ℕ) (x : ℕ) → Contains ps x → a x ≡ true → b x ≡ false → free a ps + 1 ≤ free b ps
free_less a b more [] x (k, below, same) taken new = absurd (omega (arith, below))
free_less a b more (p ∷ ps) x (zero, below, same) taken new =
    let rest = free_le a b more ps in
    let none : open_at (a p) ≡ 0 = ap open_at (ap a same ∙ taken) in
    let one : open_at (b p) ≡ 1 = ap open_at (ap b same ∙ new) in
    omega (arith, rest, none, one)
free_less a b more (p ∷ ps) x (suc k, below, same) taken new =
    let one = one_free (a p) (b p) (more p) in
    let rest = free_less a b more ps x (k, omega (arith, below), same) taken new in
    omega (arith, one, rest)

free_few : (taken : ℕ → Bool) (ps : List ℕ) → free taken ps ≤ length ps
free_few taken [] = omega arith
free_few taken (p ∷ ps) = by (taken p) (free_few taken ps)
  where
    by : (b : Bool) → free taken ps ≤ length ps → open_at b + free taken ps ≤ suc (length ps)
    by true rest = omega (arith, rest)
    by false rest = omega (arith, rest)

-- ---- A path leads to earlier pieces

-- where a number stands first
abbrev rank : List ℕ → ℕ → ℕ
rank [] x = 0
rank (p ∷ ps) x = cond (p == x) zero (suc (rank ps x))

rank_most : (p y : ℕ) (ps : List ℕ) → rank (p ∷ ps) y ≤ suc (rank ps y)
rank_most p y ps = by (p == y)
  where
    by : (b : Bool) → cond b zero (suc (rank ps y)) ≤ suc (rank ps y)
    by true = omega arith
    by false = omega arith

behind : (p x y : ℕ) (ps : List ℕ) → (p ≡ x → ⊥) → (p ≡ y) ⊎ (rank ps y < rank ps x) → rank (p ∷ ps) y < rank (p ∷ ps) x
behind p x y ps other (inl same) =
    let here : rank (p ∷ ps) y ≡ zero = cond-true (p == y) zero (suc (rank ps y)) (eq-eqb p y same) in
    let there : rank (p ∷ ps) x ≡ suc (rank ps x) = cond-false (p == x) zero (suc (rank ps x)) (ne_eqb p x other) in
    omega (arith, here, there)
behind p x y ps other (inr less) =
    let here = rank_most p y ps in
    let there : rank (p ∷ ps) x ≡ suc (rank ps x) = cond-false (p == x) zero (suc (rank ps x)) (ne_eqb p x other) in
    omega (arith, here, there, less)

abbrev twig : ℕ → ℕ → Twig
twig piece parent = record { piece = piece; parent = Some parent }

piece_in : (net : List Twig) (t : Twig) → Contains net t → Contains (pieces_of net) t.piece
piece_in [] t (k, below, same) = absurd (omega (arith, below))
piece_in (s ∷ net) t (zero, below, same) = (0, omega arith, ap piece_of same)
piece_in (s ∷ net) t (suc k, below, same) = let rest = piece_in net t (k, omega (arith, below), same) in (suc rest.0, (let low = rest.1 in omega (arith, low)), rest.2)

abbrev pub AreApart : List ℕ → Type 0
AreApart ps = AllPairs (λ p q. p ≢ q) ps

apart_tail : (p : ℕ) (ps : List ℕ) → AreApart (p ∷ ps) → AreApart ps
apart_tail p ps apart i j d less below = apart (suc i) (suc j) d (omega (arith, less)) (omega (arith, below))

apart_head : (p x : ℕ) (ps : List ℕ) → AreApart (p ∷ ps) → Contains ps x → p ≡ x → ⊥
apart_head p x ps apart (k, below, same) e = apart 0 (suc k) x (omega arith) (omega (arith, below)) (e ∙ sym same)

hangs_behind : (near : ℕ → ℕ → Type 0) (earlier : List ℕ) (rest : List Twig) (x y : ℕ) → Hang near earlier rest → AreApart (pieces_of rest) → HasParent rest x y → Contains earlier y ⊎ (rank (pieces_of rest) y < rank (pieces_of rest) x)
hangs_behind near earlier [] x y hang apart (k, below, same) = absurd (omega (arith, below))
hangs_behind near earlier (t ∷ rest) x y (here, hang) apart up = elim (Contains-append_cases (t ∷ []) rest (twig x y) up) [
  | inl first ↦ (
      let same : t ≡ twig x y = one_of t (twig x y) first in
      let parent : here.parent ≡ y = same_Some here.parent y (sym here.named ∙ ap (λ (s : Twig). s.parent) same) in
      inl (subst (λ (p : ℕ). Contains earlier p) parent here.stands))
  | inr later ↦ (
      let other : t.piece ≡ x → ⊥ = apart_head t.piece x (pieces_of rest) apart (piece_in rest (twig x y) later) in
      by other (hangs_behind near (earlier ++ t.piece ∷ []) rest x y hang (apart_tail t.piece (pieces_of rest) apart) later))
]
  where
    new : (t.piece ≡ x → ⊥) → Contains earlier y ⊎ (t.piece ≡ y) → Contains earlier y ⊎ (rank (pieces_of (t ∷ rest)) y < rank (pieces_of (t ∷ rest)) x)
    new other (inl old) = inl old
    new other (inr same) = inr (behind t.piece x y (pieces_of rest) other (inl same))

    by : (t.piece ≡ x → ⊥) → Contains (earlier ++ t.piece ∷ []) y ⊎ (rank (pieces_of rest) y < rank (pieces_of rest) x) → Contains earlier y ⊎ (rank (pieces_of (t ∷ rest)) y < rank (pieces_of (t ∷ rest)) x)
    by other (inl stands) = new other (Contains-push_cases earlier t.piece y stands)
    by other (inr less) = inr (behind t.piece x y (pieces_of rest) other (inr less))

climbs : (near : ℕ → ℕ → Type 0) (net : List Twig) → IsTree near net → AreApart (pieces_of net) → (x y : ℕ) → HasParent net x y → rank (pieces_of net) y < rank (pieces_of net) x
climbs near [] tree apart x y up = absurd tree
climbs near (t ∷ rest) (root, least, hang) apart x y up = elim (Contains-append_cases (t ∷ []) rest (twig x y) up) [
  | inl first ↦ absurd (let same : t ≡ twig x y = one_of t (twig x y) first in let none : None ≡ Some y = sym root ∙ ap (λ (s : Twig). s.parent) same in cc)
  | inr later ↦ (
      let other : t.piece ≡ x → ⊥ = apart_head t.piece x (pieces_of rest) apart (piece_in rest (twig x y) later) in
      by other (hangs_behind near (t.piece ∷ []) rest x y hang (apart_tail t.piece (pieces_of rest) apart) later))
]
  where
    by : (t.piece ≡ x → ⊥) → Contains (t.piece ∷ []) y ⊎ (rank (pieces_of rest) y < rank (pieces_of rest) x) → rank (pieces_of (t ∷ rest)) y < rank (pieces_of (t ∷ rest)) x
    by other (inl stands) = behind t.piece x y (pieces_of rest) other (inl (one_of t.piece y stands))
    by other (inr less) = behind t.piece x y (pieces_of rest) other (inr less)

-- no piece of a path stands behind its first
falls : (near : ℕ → ℕ → Type 0) (net : List Twig) → IsTree near net → AreApart (pieces_of net) → (ends : List ℕ) (x : ℕ) (rest : List ℕ) → IsPath net ends (x ∷ rest) → (z : ℕ) → Contains (x ∷ rest) z → rank (pieces_of net) z ≤ rank (pieces_of net) x
falls near net tree apart ends x [] path z inside = let same : rank (pieces_of net) x ≡ rank (pieces_of net) z = ap (rank (pieces_of net)) (one_of x z inside) in omega (arith, same)
falls near net tree apart ends x (y ∷ rest) (going, up, path) z inside = elim (Contains-append_cases (x ∷ []) (y ∷ rest) z inside) [
  | inl first ↦ (let same : rank (pieces_of net) x ≡ rank (pieces_of net) z = ap (rank (pieces_of net)) (one_of x z first) in omega (arith, same))
  | inr later ↦ (let more = falls near net tree apart ends y rest path z later in let step = climbs near net tree apart x y up in omega (arith, more, step))
]

-- ---- Pieces that are taken

taken_too : (ends part : List ℕ) (x p : ℕ) → has (ends ++ part) p ≡ true → has (ends ++ x ∷ part) p ≡ true
taken_too ends part x p h = has_from (ends ++ x ∷ part) p (elim (Contains-append_cases ends part p (has_to (ends ++ part) p h)) [
  | inl old ↦ Contains-append_left ends (x ∷ part) p old
  | inr new ↦ Contains-append_right ends (x ∷ part) p (Contains-append_right (x ∷ []) part p new)
])

end_taken : (ends part : List ℕ) (p : ℕ) → has ends p ≡ true → has (ends ++ part) p ≡ true
end_taken ends part p h = has_from (ends ++ part) p (Contains-append_left ends part p (has_to ends p h))

-- a path takes a free piece for each that it lists but the last
path_takes : (near : ℕ → ℕ → Type 0) (net : List Twig) → IsTree near net → AreApart (pieces_of net) → (ends pieces : List ℕ) → IsPath net ends pieces → length pieces + free (has (ends ++ pieces)) (pieces_of net) ≤ 1 + free (has ends) (pieces_of net)
path_takes near net tree apart ends [] path = absurd path
path_takes near net tree apart ends (x ∷ []) path = let one = free_le (has (ends ++ x ∷ [])) (has ends) (end_taken ends (x ∷ [])) (pieces_of net) in omega (arith, one)
path_takes near net tree apart ends (x ∷ y ∷ rest) (going, up, path) =
    let more = path_takes near net tree apart ends (y ∷ rest) path in
    let taken : has (ends ++ x ∷ y ∷ rest) x ≡ true = has_from (ends ++ x ∷ y ∷ rest) x (Contains-append_right ends (x ∷ y ∷ rest) x (0, omega arith, refl)) in
    let less = free_less (has (ends ++ x ∷ y ∷ rest)) (has (ends ++ y ∷ rest)) (taken_too ends (y ∷ rest) x) (pieces_of net) x (piece_in net (twig x y) up) taken (false_from_ne_true (has (ends ++ y ∷ rest) x) new) in
    omega (arith, more, less)
  where
    new : has (ends ++ y ∷ rest) x ≡ true → ⊥
    new h = elim (Contains-append_cases ends (y ∷ rest) x (has_to (ends ++ y ∷ rest) x h)) [
      | inl old ↦ going old
      | inr later ↦ (let low = falls near net tree apart ends y rest path x later in let high = climbs near net tree apart x y up in absurd (omega (arith, low, high)))
    ]

branches_take : (near : ℕ → ℕ → Type 0) (net : List Twig) → IsTree near net → AreApart (pieces_of net) → (starts : ℕ → ℕ → Type 0) (lines : List PointLine) (number : ℕ) (ends : List ℕ) (branches : List Branch) → AreBranches net starts lines number ends branches → sum_by branch_length branches ≤ length branches + free (has ends) (pieces_of net)
branches_take near net tree apart starts lines number ends [] all = omega arith
branches_take near net tree apart starts lines number ends (b ∷ rest) (first, all) =
    let one = path_takes near net tree apart ends b.pieces first.path in
    let more = branches_take near net tree apart starts lines number (ends ++ b.pieces) rest all in
    let sum = sum_by-cons branch_length b rest in
    omega (arith, one, more, sum)

-- the branches of a short list no more pieces than its net has, and one more for each
short_takes : (near : ℕ → ℕ → Type 0) (net : List Twig) → IsTree near net → AreApart (pieces_of net) → (starts : ℕ → ℕ → Type 0) (lines : List PointLine) (s : Short) → AreBranches net starts lines s.net (first_piece net ∷ []) s.branches → branches_length s ≤ branch_count s + net_length net
short_takes near net tree apart starts lines s all =
    let one = branches_take near net tree apart starts lines s.net (first_piece net ∷ []) s.branches all in
    let two = free_few (has (first_piece net ∷ [])) (pieces_of net) in
    let long = length-map net piece_of in
    omega (arith, one, two, long)

-- ---- Each net has one short at most

-- the nets from number n on of all nets
abbrev AreFrom : List (List Twig) → ℕ → List (List Twig) → Type 0
AreFrom all n nets = (i : ℕ) → slice_get all (n + i) ≡ slice_get nets i

from_next : (all : List (List Twig)) (n : ℕ) (net : List Twig) (nets : List (List Twig)) → AreFrom all n (net ∷ nets) → AreFrom all (n + 1) nets
from_next all n net nets from i = let same : n + 1 + i ≡ n + suc i = omega arith in ap (λ (k : ℕ). slice_get all k) same ∙ from (suc i)

from_first : (all : List (List Twig)) (n : ℕ) (net : List Twig) (nets : List (List Twig)) → AreFrom all n (net ∷ nets) → slice_get all n ≡ Some net
from_first all n net nets from = let same : n ≡ n + 0 = omega arith in ap (λ (k : ℕ). slice_get all k) same ∙ from 0

-- the shorts of the nets from number n on list few pieces
abbrev TakeFew : List (List Twig) → (ℕ → ℕ → Type 0) → List (List ℕ) → List PointLine → ℕ → List (List Twig) → Type 0
TakeFew all starts names lines n nets = (shorts : List Short) → map outline shorts ≡ all_shorts n nets names lines → AllByRecursion (HasBranches all starts lines) shorts → sum_by branches_length shorts ≤ sum_by branch_count shorts + sum_by net_length nets

shorts_take : (near : ℕ → ℕ → Type 0) (all : List (List Twig)) (starts : ℕ → ℕ → Type 0) (names : List (List ℕ)) (lines : List PointLine) (n : ℕ) (nets : List (List Twig)) → AreFrom all n nets → AllByRecursion (IsTree near) nets → AllByRecursion (λ net. AreApart (pieces_of net)) nets → TakeFew all starts names lines n nets
shorts_take near all starts names lines n [] from trees apart [] same has_them = omega arith
shorts_take near all starts names lines n [] from trees apart (s ∷ shorts) same has_them = absurd cc
shorts_take near all starts names lines n (net ∷ nets) from trees apart shorts same has_them = by (names_on n 0 names lines) shorts same has_them (shorts_take near all starts names lines (n + 1) nets (from_next all n net nets from) trees.1 apart.1)
  where
    none : (shorts : List Short) → map outline shorts ≡ all_shorts (n + 1) nets names lines → AllByRecursion (HasBranches all starts lines) shorts → TakeFew all starts names lines (n + 1) nets → sum_by branches_length shorts ≤ sum_by branch_count shorts + sum_by net_length (net ∷ nets)
    none shorts same has_them rest = let more = rest shorts same has_them in let sum = sum_by-cons net_length net nets in omega (arith, more, sum)

    one : (s : Short) (shorts : List Short) → s.net ≡ n → map outline shorts ≡ all_shorts (n + 1) nets names lines → HasBranches all starts lines s → AllByRecursion (HasBranches all starts lines) shorts → TakeFew all starts names lines (n + 1) nets
        → sum_by branches_length (s ∷ shorts) ≤ sum_by branch_count (s ∷ shorts) + sum_by net_length (net ∷ nets)
    one s shorts number same here has_them rest =
        let its : here.net ≡ net = same_Some here.net net (sym here.there ∙ (ap (λ (k : ℕ). slice_get all k) number ∙ from_first all n net nets from)) in
        let takes = short_takes near net trees.0 apart.0 starts lines s (subst (λ (m : List Twig). AreBranches m starts lines s.net (first_piece m ∷ []) s.branches) its here.branches) in
        let more = rest shorts same has_them in
        let a = sum_by-cons branches_length s shorts in
        let b = sum_by-cons branch_count s shorts in
        let c = sum_by-cons net_length net nets in
        omega (arith, takes, more, a, b, c)

    by : (ns : List ℕ) (shorts : List Short) → map outline shorts ≡ short_of n ns ++ all_shorts (n + 1) nets names lines → AllByRecursion (HasBranches all starts lines) shorts → TakeFew all starts names lines (n + 1) nets → sum_by branches_length shorts ≤ sum_by branch_count shorts + sum_by net_length (net ∷ nets)
    by [] shorts same has_them rest = none shorts same has_them rest
    by (a ∷ []) shorts same has_them rest = none shorts same has_them rest
    by (a ∷ b ∷ ns) [] same has_them rest = absurd cc
    by (a ∷ b ∷ ns) (s ∷ shorts) same has_them rest =
        let first : outline s ≡ (record { net = n; names = a ∷ b ∷ ns }) = cc in
        let later : map outline shorts ≡ all_shorts (n + 1) nets names lines = cc in
        one s shorts (ap (λ (o : Outline). o.net) first) later has_them.0 has_them.1 rest

-- In all branches together no more pieces are listed than the nets have, and one more for each branch.
pub paths_are_few : (near : ℕ → ℕ → Type 0) (starts : ℕ → ℕ → Type 0) (names : List (List ℕ)) (lines : List PointLine) (nets : List (List Twig)) → AllByRecursion (IsTree near) nets → AllByRecursion (λ net. AreApart (pieces_of net)) nets
    → (shorts : List Short) → map outline shorts ≡ all_shorts 0 nets names lines → AllByRecursion (HasBranches nets starts lines) shorts → sum_by branches_length shorts ≤ sum_by branch_count shorts + sum_by net_length nets
paths_are_few near starts names lines nets trees apart shorts same has_them =
    shorts_take near nets starts names lines 0 nets (λ i. let e : 0 + i ≡ i = omega arith in ap (λ (k : ℕ). slice_get nets k) e) trees apart shorts same has_them
