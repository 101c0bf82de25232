-- How much a right verdict lists, by the pieces and the points of its board.
use Rattle.std.proofs.Common.{◌≡◌, ◌≢◌, ◌⊎◌, inl, inr, ℕ, zero, suc, ◌+◌, ◌<◌, ◌≤◌, AllPairs, Contains, Bool, true, false, cond, ◌==◌, ◌&&◌, if◌then◌else◌, List, [], ◌∷◌, ◌++◌, length, map, Option, Some, None, refl, sym, ap, ◌∙◌, arith, length-append}
use Rattle.std.proofs.lemmas.Bool.{cases_eq, eqb-true, true≢false}
use Rattle.std.proofs.lemmas.List.{length-map}
use Rattle.std.proofs.lemmas.List.Elements.{recursion_from_All}
use Rattle.std.proofs.lemmas.List.Sums.{sum_by-append, sum_by-cons}
use Rattle.std.specs.List.{AllByRecursion, list_any, sum_by}
use Rattle.tables.specs.Tables.{Stands, TestPoint}
use Rattle.verdict.specs.declared.verdict.Branch.{Branch}
use Rattle.verdict.specs.declared.verdict.Open.{Open}
use Rattle.verdict.specs.declared.verdict.PointLine.{PointLine}
use Rattle.verdict.specs.declared.verdict.Seat.{Seat}
use Rattle.verdict.specs.declared.verdict.Short.{Short}
use Rattle.verdict.specs.declared.verdict.Twig.{Twig}
use Rattle.verdict.specs.Laws.{RightVerdictsAreFew}
use Rattle.verdict.specs.Forest.{AreTrees, Holds, StandOnce, piece_of, pieces_of}
use Rattle.verdict.specs.Limits.{branch_count, net_length}
use Rattle.verdict.specs.Right.{Trees, Covers, Points, Opens, Shorts, Bare, Counts, AreLines, Outline, all_opens, all_shorts, bare_from, first_from, fresh, is_on, is_unconnected, marks, names_on, opens_against, opens_of, outline, seat, seats_from, short_of, where_some}
use Rattle.verdict.proofs.Marking.{same_test}
use Rattle.verdict.proofs.Trees.{nets_few}

-- ---- Sums over numbers

-- the sum of f over so many numbers from n on
abbrev total : (ℕ → ℕ) → ℕ → ℕ → ℕ
total f n zero = 0
total f n (suc m) = f n + total f (n + 1) m

abbrev hit : Bool → ℕ
hit b = cond b 1 0

total_none : (f : ℕ → ℕ) (n m : ℕ) → ((i : ℕ) → f i ≤ 0) → total f n m ≤ 0
total_none f n zero each = omega arith
total_none f n (suc m) each = let one = each n in let more = total_none f (n + 1) m each in omega (arith, one, more)

total_le : (f g : ℕ → ℕ) (n m : ℕ) → ((i : ℕ) → f i ≤ g i) → total f n m ≤ total g n m
total_le f g n zero each = omega arith
total_le f g n (suc m) each = let one = each n in let more = total_le f g (n + 1) m each in omega (arith, one, more)

total_sum : (f g h : ℕ → ℕ) (n m : ℕ) → ((i : ℕ) → h i ≤ f i + g i) → total h n m ≤ total f n m + total g n m
total_sum f g h n zero each = omega arith
total_sum f g h n (suc m) each = let one = each n in let more = total_sum f g h (n + 1) m each in omega (arith, one, more)

missed : (x i : ℕ) → x < i → hit (x == i) ≤ 0
missed x i less = by (x == i) refl
  where
    by : (b : Bool) → (x == i) ≡ b → hit b ≤ 0
    by true e = let same : x ≡ i = eqb-true x i e in absurd (omega (arith, less, same))
    by false e = omega arith

total_past : (x n m : ℕ) → x < n → total (λ i. hit (x == i)) n m ≤ 0
total_past x n zero less = omega arith
total_past x n (suc m) less = let one = missed x n less in let more = total_past x (n + 1) m (omega (arith, less)) in omega (arith, one, more)

-- a number is one of them at most once
total_once : (x n m : ℕ) → total (λ i. hit (x == i)) n m ≤ 1
total_once x n zero = omega arith
total_once x n (suc m) = by (x == n) refl (total_once x (n + 1) m)
  where
    by : (b : Bool) → (x == n) ≡ b → total (λ i. hit (x == i)) (n + 1) m ≤ 1 → hit b + total (λ i. hit (x == i)) (n + 1) m ≤ 1
    by true e more = let same : x ≡ n = eqb-true x n e in let past = total_past x (n + 1) m (omega (arith, same)) in omega (arith, past)
    by false e more = omega (arith, more)

-- ---- Points

lines_many : (nets : List (List Twig)) (beneath : List (List ℕ)) (points : List TestPoint) (lines : List PointLine) → AreLines nets beneath points lines → length lines ≡ length points
lines_many nets [] [] [] all = refl
lines_many nets [] [] (l ∷ lines) all = absurd all
lines_many nets [] (p ∷ points) [] all = absurd all
lines_many nets [] (p ∷ points) (l ∷ lines) all = absurd all
lines_many nets (u ∷ beneath) [] [] all = absurd all
lines_many nets (u ∷ beneath) [] (l ∷ lines) all = absurd all
lines_many nets (u ∷ beneath) (p ∷ points) [] all = absurd all
lines_many nets (u ∷ beneath) (p ∷ points) (l ∷ lines) all = ap suc (lines_many nets beneath points lines all.1)

bare_none : (n : ℕ) (line : PointLine) (lines : List PointLine) → line.net ≡ None → bare_from n (line ∷ lines) ≡ n ∷ bare_from (n + 1) lines
bare_none n line lines e = rw e refl

bare_some : (n net : ℕ) (line : PointLine) (lines : List PointLine) → line.net ≡ Some net → bare_from n (line ∷ lines) ≡ bare_from (n + 1) lines
bare_some n net line lines e = rw e refl

bare_few : (n : ℕ) (lines : List PointLine) → length (bare_from n lines) ≤ length lines
bare_few n [] = omega arith
bare_few n (line ∷ lines) = by line.net refl (bare_few (n + 1) lines)
  where
    by : (o : Option ℕ) → line.net ≡ o → length (bare_from (n + 1) lines) ≤ length lines → length (bare_from n (line ∷ lines)) ≤ suc (length lines)
    by None e more = let long = ap length (bare_none n line lines e) in omega (arith, more, long)
    by (Some net) e more = let long = ap length (bare_some n net line lines e) in omega (arith, more, long)

-- ---- Opens

fresh_few : (seen : List ℕ) (seats : List Seat) → length (fresh seen seats) ≤ length seats
fresh_few seen [] = omega arith
fresh_few seen (s ∷ rest) = by (list_any (λ net. net == s.net) seen) (fresh_few seen rest) (fresh_few (seen ++ s.net ∷ []) rest)
  where
    by : (b : Bool) → length (fresh seen rest) ≤ length rest → length (fresh (seen ++ s.net ∷ []) rest) ≤ length rest → length (if b then fresh seen rest else s ∷ fresh (seen ++ s.net ∷ []) rest) ≤ suc (length rest)
    by true old new = omega (arith, old)
    by false old new = omega (arith, new)

against_few : (name : ℕ) (seats : List Seat) → length (opens_against name seats) ≤ length seats
against_few name [] = omega arith
against_few name (home ∷ rest) = let long = length-map rest (λ (s : Seat). let o : Open = record { name = name; home = home.net; other = s.net; probe = s.probe } in o) in omega (arith, long)

opens_few : (name : ℕ) (lines : List PointLine) → length (opens_of name lines) ≤ length (seats_from name 0 lines)
opens_few name lines = let one = against_few name (fresh [] (seats_from name 0 lines)) in let two = fresh_few [] (seats_from name 0 lines) in omega (arith, one, two)

opens_total : (n : ℕ) (names : List (List ℕ)) (lines : List PointLine) → length (all_opens n names lines) ≤ total (λ name. length (seats_from name 0 lines)) n (length names)
opens_total n [] lines = omega arith
opens_total n (name ∷ names) lines = by (is_unconnected name) (opens_total (n + 1) names lines)
  where
    by : (b : Bool) → length (all_opens (n + 1) names lines) ≤ total (λ name. length (seats_from name 0 lines)) (n + 1) (length names) → length ((if b then [] else opens_of n lines) ++ all_opens (n + 1) names lines) ≤ length (seats_from n 0 lines) + total (λ name. length (seats_from name 0 lines)) (n + 1) (length names)
    by true more = omega (arith, more)
    by false more = let one = opens_few n lines in let long = length-append (opens_of n lines) (all_opens (n + 1) names lines) in omega (arith, more, one, long)

seat_one : (b : Bool) (o : Option ℕ) (k : ℕ) → length (if b then seat o k else []) ≤ hit b
seat_one true None k = omega arith
seat_one true (Some net) k = omega arith
seat_one false o k = omega arith

-- each point has one name, so it is the seat of one at most
seats_total : (lines : List PointLine) (k n m : ℕ) → total (λ name. length (seats_from name k lines)) n m ≤ length lines
seats_total [] k n m = total_none (λ name. length (seats_from name k [])) n m (λ i. omega arith)
seats_total (line ∷ lines) k n m =
    let each = total_sum (λ name. hit (line.name == name)) (λ name. length (seats_from name (k + 1) lines)) (λ name. length (seats_from name k (line ∷ lines))) n m one in
    let here = total_once line.name n m in
    let more = seats_total lines (k + 1) n m in
    omega (arith, each, here, more)
  where
    one : (name : ℕ) → length (seats_from name k (line ∷ lines)) ≤ hit (line.name == name) + length (seats_from name (k + 1) lines)
    one name = let a = seat_one (line.name == name) line.net k in let long = length-append (if line.name == name then seat line.net k else []) (seats_from name (k + 1) lines) in omega (arith, a, long)

-- ---- Shorts

short_one : (net : ℕ) (names : List ℕ) → length (short_of net names) ≤ 1
short_one net [] = omega arith
short_one net (name ∷ []) = omega arith
short_one net (name ∷ other ∷ names) = omega arith

shorts_few : (n : ℕ) (nets : List (List Twig)) (names : List (List ℕ)) (lines : List PointLine) → length (all_shorts n nets names lines) ≤ length nets
shorts_few n [] names lines = omega arith
shorts_few n (net ∷ nets) names lines =
    let one = short_one n (names_on n 0 names lines) in
    let more = shorts_few (n + 1) nets names lines in
    let long = length-append (short_of n (names_on n 0 names lines)) (all_shorts (n + 1) nets names lines) in
    omega (arith, one, more, long)

-- ---- Branches

abbrev name_count : Outline → ℕ
name_count o = length o.names

outlined : (shorts : List Short) → sum_by branch_count shorts ≡ sum_by name_count (map outline shorts)
outlined [] = refl
outlined (s ∷ shorts) =
    let more = outlined shorts in
    let one = sum_by-cons branch_count s shorts in
    let two = sum_by-cons name_count (outline s) (map outline shorts) in
    let long : name_count (outline s) ≡ branch_count s = length-map s.branches (λ (b : Branch). b.name) in
    omega (arith, more, one, two, long)

short_names : (net : ℕ) (names : List ℕ) → sum_by name_count (short_of net names) ≤ length names
short_names net [] = omega arith
short_names net (name ∷ []) = omega arith
short_names net (name ∷ other ∷ names) = omega (arith, sum_by-cons name_count (record { net = net; names = name ∷ other ∷ names }) [])

branches_total : (n : ℕ) (nets : List (List Twig)) (names : List (List ℕ)) (lines : List PointLine) → sum_by name_count (all_shorts n nets names lines) ≤ total (λ net. length (names_on net 0 names lines)) n (length nets)
branches_total n [] names lines = omega arith
branches_total n (net ∷ nets) names lines =
    let one = short_names n (names_on n 0 names lines) in
    let more = branches_total (n + 1) nets names lines in
    let both = sum_by-append name_count (short_of n (names_on n 0 names lines)) (all_shorts (n + 1) nets names lines) in
    omega (arith, one, more, both)

abbrev found : Option ℕ → ℕ
found None = 0
found (Some probe) = 1

found_one : (o : Option ℕ) (name : ℕ) → length (where_some o name) ≡ found o
found_one None name = refl
found_one (Some probe) name = refl

names_total : (net n : ℕ) (names : List (List ℕ)) (lines : List PointLine) → length (names_on net n names lines) ≤ total (λ name. found (first_from net name 0 lines)) n (length names)
names_total net n [] lines = omega arith
names_total net n (name ∷ names) lines =
    let one = found_one (first_from net n 0 lines) n in
    let more = names_total net (n + 1) names lines in
    let long = length-append (where_some (first_from net n 0 lines) n) (names_on net (n + 1) names lines) in
    omega (arith, one, more, long)

first_step : (b : Bool) (k : ℕ) (later : Option ℕ) → found (if b then Some k else later) ≤ hit b + found later
first_step true k later = omega arith
first_step false k later = omega arith

-- a point is of one name and on one net
marked_name : (b : Bool) (x n m : ℕ) → total (λ name. hit ((x == name) && b)) n m ≤ hit b
marked_name true x n m = let once = total_once x n m in let same = total_le (λ name. hit ((x == name) && true)) (λ name. hit (x == name)) n m (λ i. both (x == i)) in omega (arith, once, same)
  where
    both : (b : Bool) → hit (b && true) ≤ hit b
    both true = omega arith
    both false = omega arith
marked_name false x n m = total_none (λ name. hit ((x == name) && false)) n m (λ i. neither (x == i))
  where
    neither : (b : Bool) → hit (b && false) ≤ 0
    neither true = omega arith
    neither false = omega arith

marked_net : (o : Option ℕ) (x n m a c : ℕ) → total (λ net. total (λ name. hit ((x == name) && is_on o net)) n m) a c ≤ 1
marked_net None x n m a c = let none = total_none (λ net. total (λ name. hit ((x == name) && false)) n m) a c (λ net. marked_name false x n m) in omega (arith, none)
marked_net (Some y) x n m a c =
    let each = total_le (λ net. total (λ name. hit ((x == name) && (y == net))) n m) (λ net. hit (y == net)) a c (λ net. marked_name (y == net) x n m) in
    let once = total_once y a c in
    omega (arith, each, once)

marks_total : (lines : List PointLine) (k n m a c : ℕ) → total (λ net. total (λ name. found (first_from net name k lines)) n m) a c ≤ length lines
marks_total [] k n m a c = total_none (λ net. total (λ name. found (first_from net name k [])) n m) a c (λ net. total_none (λ name. found (first_from net name k [])) n m (λ name. omega arith))
marks_total (line ∷ lines) k n m a c =
    let each = total_sum (λ net. total (λ name. hit (marks net name line)) n m) (λ net. total (λ name. found (first_from net name (k + 1) lines)) n m) (λ net. total (λ name. found (first_from net name k (line ∷ lines))) n m) a c
    (λ net. total_sum (λ name. hit (marks net name line)) (λ name. found (first_from net name (k + 1) lines)) (λ name. found (first_from net name k (line ∷ lines))) n m (λ name. first_step (marks net name line) k (first_from net name (k + 1) lines))) in
    let here = marked_net line.net line.name n m a c in
    let more = marks_total lines (k + 1) n m a c in
    omega (arith, each, here, more)

branches_few : (nets : List (List Twig)) (names : List (List ℕ)) (lines : List PointLine) → sum_by name_count (all_shorts 0 nets names lines) ≤ length lines
branches_few nets names lines =
    let one = branches_total 0 nets names lines in
    let two = total_le (λ net. length (names_on net 0 names lines)) (λ net. total (λ name. found (first_from net name 0 lines)) 0 (length names)) 0 (length nets) (λ net. names_total net 0 names lines) in
    let three = marks_total lines 0 0 (length names) 0 (length nets) in
    omega (arith, one, two, three)

-- ---- Twigs

-- how often a number stands in a list, and in the pieces of nets
abbrev times : ℕ → List ℕ → ℕ
times p [] = 0
times p (x ∷ xs) = hit (x == p) + times p xs

abbrev times_in : ℕ → List (List Twig) → ℕ
times_in p [] = 0
times_in p (net ∷ nets) = times p (pieces_of net) + times_in p nets

-- what stands somewhere is there
stands : (p : ℕ) (xs : List ℕ) → 1 ≤ times p xs → Contains xs p
stands p [] some = absurd (omega (arith, some))
stands p (x ∷ xs) some = by (x == p) refl (stands p xs) some
  where
    by : (b : Bool) → (x == p) ≡ b → (1 ≤ times p xs → Contains xs p) → 1 ≤ hit b + times p xs → Contains (x ∷ xs) p
    by true e more h = (0, omega arith, eqb-true x p e)
    by false e more h = let rest = more (omega (arith, h)) in (suc rest.0, (let below = rest.1 in omega (arith, below)), rest.2)

stands_in : (p : ℕ) (nets : List (List Twig)) → 1 ≤ times_in p nets → (i : ℕ) × Holds nets i p
stands_in p [] some = absurd (omega (arith, some))
stands_in p (net ∷ nets) some = by (times p (pieces_of net)) refl (stands_in p nets)
  where
    by : (n : ℕ) → times p (pieces_of net) ≡ n → (1 ≤ times_in p nets → (i : ℕ) × Holds nets i p) → (i : ℕ) × Holds (net ∷ nets) i p
    by zero none more = let rest = more (omega (arith, none, some)) in (suc rest.0, rest.1)
    by (suc n) found more = (0, stands p (pieces_of net) (omega (arith, found)))

none_or_some : (n : ℕ) → (n ≤ 0) ⊎ (1 ≤ n)
none_or_some zero = inl (omega arith)
none_or_some (suc n) = inr (omega arith)

-- in a list without repeats a number stands once at most
once_in : (p : ℕ) (xs : List ℕ) → AllPairs (λ x y. x ≢ y) xs → times p xs ≤ 1
once_in p [] apart = omega arith
once_in p (x ∷ xs) apart = by (x == p) refl (once_in p xs (λ i j d less below. apart (suc i) (suc j) d (omega (arith, less)) (omega (arith, below))))
  where
    by : (b : Bool) → (x == p) ≡ b → times p xs ≤ 1 → hit b + times p xs ≤ 1
    by false e more = omega (arith, more)
    by true e more = elim (none_or_some (times p xs)) [
      | inl none ↦ omega (arith, none)
      | inr some ↦ (
          let (k, below, same) = stands p xs some in
          absurd (apart 0 (suc k) p (omega arith) (omega (arith, below)) (eqb-true x p e ∙ sym same)))
    ]

once_of : (p : ℕ) (nets : List (List Twig)) → ((i j : ℕ) → Holds nets i p → Holds nets j p → i ≡ j) → AllByRecursion (λ net. AllPairs (λ x y. x ≢ y) (pieces_of net)) nets → times_in p nets ≤ 1
once_of p [] one apart = omega arith
once_of p (net ∷ nets) one apart = by (none_or_some (times p (pieces_of net))) (none_or_some (times_in p nets)) (once_in p (pieces_of net) apart.0) (once_of p nets (λ i j h k. (let same = one (suc i) (suc j) h k in omega (arith, same))) apart.1)
  where
    by : (times p (pieces_of net) ≤ 0) ⊎ (1 ≤ times p (pieces_of net)) → (times_in p nets ≤ 0) ⊎ (1 ≤ times_in p nets) → times p (pieces_of net) ≤ 1 → times_in p nets ≤ 1 → times p (pieces_of net) + times_in p nets ≤ 1
    by (inl none) other a b = omega (arith, none, b)
    by (inr some) (inl none) a b = omega (arith, none, a)
    by (inr some) (inr more) a b = let rest = stands_in p nets more in let same : 0 ≡ suc rest.0 = one 0 (suc rest.0) (stands p (pieces_of net) some) rest.1 in absurd (omega (arith, same))

same_number : (x n : ℕ) → x ≡ n → 1 ≤ hit (x == n)
same_number x n same = by (x == n) refl
  where
    by : (b : Bool) → (x == n) ≡ b → 1 ≤ hit b
    by true e = omega arith
    by false e = absurd (true≢false (sym (same_test x n same) ∙ e))

-- a number within the range is one of it
total_has : (x n m : ℕ) → n ≤ x → x < n + m → 1 ≤ total (λ i. hit (x == i)) n m
total_has x n zero low high = absurd (omega (arith, low, high))
total_has x n (suc m) low high = elim (cases_eq x n) [
  | inl same ↦ (let one = same_number x n same in omega (arith, one))
  | inr other ↦ (let more = total_has x (n + 1) m (omega (arith, low, other)) (omega (arith, high)) in omega (arith, more))
]

total_both : (f g h : ℕ → ℕ) (n m : ℕ) → ((i : ℕ) → f i + g i ≤ h i) → total f n m + total g n m ≤ total h n m
total_both f g h n zero each = omega arith
total_both f g h n (suc m) each = let one = each n in let more = total_both f g h (n + 1) m each in omega (arith, one, more)

-- numbers below m, counted one by one
list_total : (m : ℕ) (xs : List ℕ) → ((p : ℕ) → Contains xs p → p < m) → length xs ≤ total (λ p. times p xs) 0 m
list_total m [] known = omega arith
list_total m (x ∷ xs) known =
    let one = total_has x 0 m (omega arith) (let low = known x (0, omega arith, refl) in omega (arith, low)) in
    let more = list_total m xs (λ p inside. known p (let (k, below, same) = inside in (suc k, omega (arith, below), same))) in
    let both = total_both (λ p. hit (x == p)) (λ p. times p xs) (λ p. times p (x ∷ xs)) 0 m (λ p. omega arith) in
    omega (arith, one, more, both)

nets_total : (m : ℕ) (nets : List (List Twig)) → ((i p : ℕ) → Holds nets i p → p < m) → sum_by net_length nets ≤ total (λ p. times_in p nets) 0 m
nets_total m [] known = omega arith
nets_total m (net ∷ nets) known =
    let one = list_total m (pieces_of net) (known 0) in
    let long = length-map net piece_of in
    let more = nets_total m nets (λ i p h. known (suc i) p h) in
    let both = total_both (λ p. times p (pieces_of net)) (λ p. times_in p nets) (λ p. times_in p (net ∷ nets)) 0 m (λ p. omega arith) in
    let sum = sum_by-cons net_length net nets in
    omega (arith, one, long, more, both, sum)

total_ones : (n m : ℕ) → total (λ p. 1) n m ≤ m
total_ones n zero = omega arith
total_ones n (suc m) = let more = total_ones (n + 1) m in omega (arith, more)

twigs_few : (count : ℕ) (near : ℕ → ℕ → Type 0) (nets : List (List Twig)) → AreTrees count near nets → StandOnce count nets → sum_by net_length nets ≤ count
twigs_few count near nets trees once =
    let sum = nets_total count nets trees.known in
    let each = total_le (λ p. times_in p nets) (λ p. 1) 0 count (λ p. once_of p nets (λ i j. once.one_net i j p) (recursion_from_All (λ net. AllPairs (λ x y. x ≢ y) (pieces_of net)) nets once.one_place)) in
    let ones = total_ones 0 count in
    omega (arith, sum, each, ones)

-- ---- The whole

pub right_verdicts_are_few : RightVerdictsAreFew
right_verdicts_are_few board v right =
    let points = lines_many v.nets board.beneath board.points v.points (right Points) in
    let opens_are = ap length (right Opens) in
    let opens_sum = opens_total 0 board.names v.points in
    let opens_seats = seats_total v.points 0 0 (length board.names) in
    let shorts_are = sym (length-map v.shorts outline) ∙ ap length (right Shorts) in
    let shorts_most = shorts_few 0 v.nets board.names v.points in
    let branches_are = outlined v.shorts ∙ ap (sum_by name_count) (right Shorts) in
    let branches_most = branches_few v.nets board.names v.points in
    let bare_are = ap length (right Bare) in
    let bare_most = bare_few 0 v.points in
    record {
      twigs = twigs_few (length board.near) (Stands board.near) v.nets (right Trees) (right Covers);
      nets = nets_few (length board.near) (Stands board.near) v.nets (right Trees) (length v.nets) refl;
      names = ap length (right Counts).1;
      points = points;
      opens = omega (arith, points, opens_are, opens_sum, opens_seats);
      shorts = omega (arith, shorts_are, shorts_most);
      branches = omega (arith, points, branches_are, branches_most);
      bare = omega (arith, points, bare_are, bare_most);
    }
