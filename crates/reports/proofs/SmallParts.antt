-- A right verdict on a small board has small numbers, and lists little.
use Rattle.std.proofs.Common.{◌≡◌, inl, inr, ℕ, suc, ◌+◌, ◌≤◌, Contains, Bool, true, false, ◌==◌, if◌then◌else◌, List, [], ◌∷◌, ◌++◌, length, map, Option, None, Some, IfSome, refl, sym, subst, arith}
use Rattle.std.proofs.lemmas.Bool.{and_parts, cond_both, eqb-true}
use Rattle.std.proofs.lemmas.List.Elements.{All-contains, All-from_recursion, Contains-append_cases, Contains-append_right, Contains-push_cases, recursion_from_All}
use Rattle.std.proofs.lemmas.Option.{get_or_from_slice_get, same_Some, slice_get_within}
use Rattle.std.specs.List.{AllByRecursion, list_any}
use Rattle.std.specs.Prelude.{MatchOption}
use Rattle.tables.specs.Tables.{Stands, Tables, TestPoint}
use Rattle.verdict.proofs.Holding.{held_within, one_of}
use Rattle.verdict.specs.Forest.{AreTrees, Hang, Holds, IsTree, first_piece, pieces_of}
use Rattle.verdict.specs.Limits.{HasCountsOf, HasSixDigits, IsRecordName, IsSmallBranch, IsSmallOpen, IsSmallPointLine, IsSmallShort, IsSmallTwig}
use Rattle.verdict.specs.Right.{Trees, Covers, Points, Opens, Shorts, Branches, Bare, Counts, AreBranches, AreLines, BeginsBeneath, HasBranches, IsPath, IsRight, all_opens, bare_from, first_from, fresh, is_unconnected, is_on, marks, opens_against, opens_of, seat, seats_from}
use Rattle.verdict.specs.declared.verdict.Branch.{Branch}
use Rattle.verdict.specs.declared.verdict.Open.{Open}
use Rattle.verdict.specs.declared.verdict.PointLine.{PointLine}
use Rattle.verdict.specs.declared.verdict.Seat.{Seat}
use Rattle.verdict.specs.declared.verdict.Short.{Short}
use Rattle.verdict.specs.declared.verdict.Twig.{Twig}
use Rattle.verdict.specs.declared.verdict.Verdict.{Verdict}
use Rattle.witness_check.specs.Opened.{open_by}
use Rattle.board_shapes.specs.declared.TheConstants.{MOST_PIECES}
use Rattle.reports.proofs.Ways.{AreApart, paths_are_few}
use Rattle.reports.specs.Laws.{IsSmallPoint, RightVerdictsAreSmall}

-- ---- Lists

pub all_both : {X : Type 0} (P : X → Type 0) (xs ys : List X) → AllByRecursion P xs → AllByRecursion P ys → AllByRecursion P (xs ++ ys)
all_both P [] ys one other = other
all_both P (x ∷ xs) ys one other = (one.0, all_both P xs ys one.1 other)

pub all_mapped : {X Y : Type 0} (P : X → Type 0) (Q : Y → Type 0) (f : X → Y) → ((x : X) → P x → Q (f x)) → (xs : List X) → AllByRecursion P xs → AllByRecursion Q (map f xs)
all_mapped P Q f each [] all = tt
all_mapped P Q f each (x ∷ xs) all = (each x all.0, all_mapped P Q f each xs all.1)

-- ---- Nets

hang_small : (near : ℕ → ℕ → Type 0) (earlier : List ℕ) (rest : List Twig) → ((p : ℕ) → Contains earlier p → HasSixDigits p) → ((p : ℕ) → Contains (pieces_of rest) p → HasSixDigits p) → Hang near earlier rest → AllByRecursion IsSmallTwig rest
hang_small near earlier [] old new hang = tt
hang_small near earlier (t ∷ rest) old new (here, hang) = (
  record { piece = new t.piece (0, omega arith, refl); parent = subst (λ (o : Option ℕ). IfSome o HasSixDigits) (sym here.named) (old here.parent here.stands) },
  hang_small near (earlier ++ t.piece ∷ []) rest both (λ p inside. new p (Contains-append_right (t.piece ∷ []) (pieces_of rest) p inside)) hang,
)
  where
    both : (p : ℕ) → Contains (earlier ++ t.piece ∷ []) p → HasSixDigits p
    both p inside = elim (Contains-push_cases earlier t.piece p inside) [
      | inl before ↦ old p before
      | inr same ↦ subst HasSixDigits same (new t.piece (0, omega arith, refl))
    ]

tree_small : (near : ℕ → ℕ → Type 0) (net : List Twig) → ((p : ℕ) → Contains (pieces_of net) p → HasSixDigits p) → IsTree near net → AllByRecursion IsSmallTwig net
tree_small near [] known tree = tt
tree_small near (t ∷ rest) known (root, least, hang) = (
  record { piece = known t.piece (0, omega arith, refl); parent = subst (λ (o : Option ℕ). IfSome o HasSixDigits) (sym root) tt },
  hang_small near (t.piece ∷ []) rest (λ p inside. subst HasSixDigits (one_of t.piece p inside) (known t.piece (0, omega arith, refl))) (λ p inside. known p (Contains-append_right (t.piece ∷ []) (pieces_of rest) p inside)) hang,
)

nets_small : (near : ℕ → ℕ → Type 0) (nets : List (List Twig)) → ((i p : ℕ) → Holds nets i p → HasSixDigits p) → AllByRecursion (IsTree near) nets → AllByRecursion (AllByRecursion IsSmallTwig) nets
nets_small near [] known trees = tt
nets_small near (net ∷ nets) known trees = (tree_small near net (known 0) trees.0, nets_small near nets (λ i p h. known (suc i) p h) trees.1)

-- ---- Points

net_small : (nets : List (List Twig)) (under : List ℕ) (o : Option ℕ) → length nets ≤ MOST_PIECES → MatchOption o (under ≡ []) (λ net. (piece : ℕ) × Contains under piece × Holds nets net piece) → IfSome o HasSixDigits
net_small nets under None few found = tt
net_small nets under (Some net) few (piece, inside, held) = let below = held_within nets net piece held in omega (arith, few, below)

lines_small : (most : ℕ) → most ≤ MOST_PIECES → (nets : List (List Twig)) (beneath : List (List ℕ)) (points : List TestPoint) (lines : List PointLine) → length nets ≤ MOST_PIECES → AreLines nets beneath points lines → AllByRecursion (IsSmallPoint most) points → AllByRecursion IsSmallPointLine lines
lines_small most low nets [] [] [] few all small = tt
lines_small most low nets [] [] (l ∷ lines) few all small = absurd all
lines_small most low nets [] (p ∷ points) [] few all small = absurd all
lines_small most low nets [] (p ∷ points) (l ∷ lines) few all small = absurd all
lines_small most low nets (u ∷ beneath) [] [] few all small = absurd all
lines_small most low nets (u ∷ beneath) [] (l ∷ lines) few all small = absurd all
lines_small most low nets (u ∷ beneath) (p ∷ points) [] few all small = absurd all
lines_small most low nets (u ∷ beneath) (p ∷ points) (l ∷ lines) few (here, all) (one, small) =
    let number = here.number in let count = one.number in
    let layer = here.layer in let deep = one.layer in
    let name = here.name in let named = one.name in (
      record { number = omega (arith, number, count); layer = omega (arith, layer, deep); name = omega (arith, name, named, low); net = net_small nets u l.net few here.net },
      lines_small most low nets beneath points lines few all small,
    )

bare_small : (n : ℕ) (lines : List PointLine) → n + length lines ≤ 1_000_000 → AllByRecursion HasSixDigits (bare_from n lines)
bare_small n [] few = tt
bare_small n (line ∷ lines) few = by line.net refl (bare_small (n + 1) lines (omega (arith, few)))
  where
    by : (o : Option ℕ) → line.net ≡ o → AllByRecursion HasSixDigits (bare_from (n + 1) lines) → AllByRecursion HasSixDigits (bare_from n (line ∷ lines))
    by None e more = rw e (omega (arith, few), more)
    by (Some net) e more = rw e more

-- ---- Opens

record IsSmallSeat (s : Seat) : Type 0 where
  net : HasSixDigits s.net
  probe : HasSixDigits s.probe

seat_small : (o : Option ℕ) (k : ℕ) → IfSome o HasSixDigits → HasSixDigits k → AllByRecursion IsSmallSeat (seat o k)
seat_small None k net low = tt
seat_small (Some n) k net low = (record { net = net; probe = low }, tt)

seats_small : (name k : ℕ) (lines : List PointLine) → k + length lines ≤ 1_000_000 → AllByRecursion IsSmallPointLine lines → AllByRecursion IsSmallSeat (seats_from name k lines)
seats_small name k [] few all = tt
seats_small name k (line ∷ lines) few all =
    all_both IsSmallSeat (if line.name == name then seat line.net k else []) (seats_from name (k + 1) lines)
    (cond_both (line.name == name) (seat line.net k) [] (λ (seats : List Seat). AllByRecursion IsSmallSeat seats) (λ e. seat_small line.net k all.0.net (omega (arith, few))) (λ e. tt))
    (seats_small name (k + 1) lines (omega (arith, few)) all.1)

fresh_small : (seen : List ℕ) (seats : List Seat) → AllByRecursion IsSmallSeat seats → AllByRecursion IsSmallSeat (fresh seen seats)
fresh_small seen [] all = tt
fresh_small seen (s ∷ rest) all = by (list_any (λ net. net == s.net) seen) (fresh_small seen rest all.1) (fresh_small (seen ++ s.net ∷ []) rest all.1)
  where
    by : (b : Bool) → AllByRecursion IsSmallSeat (fresh seen rest) → AllByRecursion IsSmallSeat (fresh (seen ++ s.net ∷ []) rest) → AllByRecursion IsSmallSeat (if b then fresh seen rest else s ∷ fresh (seen ++ s.net ∷ []) rest)
    by true old new = old
    by false old new = (all.0, new)

against_small : (name : ℕ) (seats : List Seat) → HasSixDigits name → AllByRecursion IsSmallSeat seats → AllByRecursion IsSmallOpen (opens_against name seats)
against_small name [] low all = tt
against_small name (home ∷ rest) low all = all_mapped IsSmallSeat IsSmallOpen (open_by name home.net) (λ s small. record { name = low; home = all.0.net; other = small.net; probe = small.probe }) rest all.1

opens_small : (n : ℕ) (names : List (List ℕ)) (lines : List PointLine) → n + length names ≤ 1_000_000 → length lines ≤ 1_000_000 → AllByRecursion IsSmallPointLine lines → AllByRecursion IsSmallOpen (all_opens n names lines)
opens_small n [] lines few short all = tt
opens_small n (name ∷ names) lines few short all =
    all_both IsSmallOpen (if is_unconnected name then [] else opens_of n lines) (all_opens (n + 1) names lines)
    (cond_both (is_unconnected name) [] (opens_of n lines) (λ (opens : List Open). AllByRecursion IsSmallOpen opens) (λ e. tt) (λ e. against_small n (fresh [] (seats_from n 0 lines)) (omega (arith, few)) (fresh_small [] (seats_from n 0 lines) (seats_small n 0 lines (omega (arith, short)) all))))
    (opens_small (n + 1) names lines (omega (arith, few)) short all)

-- ---- Shorts

-- the first point of a name has a small number, and so has the name
record IsSmallFirst (name probe : ℕ) : Type 0 where
  name_small : HasSixDigits name
  probe_small : HasSixDigits probe

first_small : (net name n : ℕ) (lines : List PointLine) (probe : ℕ) → n + length lines ≤ 1_000_000 → AllByRecursion IsSmallPointLine lines → first_from net name n lines ≡ Some probe → IsSmallFirst name probe
first_small net name n [] probe few all found = absurd cc
first_small net name n (line ∷ lines) probe few all found = by (marks net name line) refl (first_small net name (n + 1) lines probe (omega (arith, few)) all.1) found
  where
    by : (b : Bool) → marks net name line ≡ b → (first_from net name (n + 1) lines ≡ Some probe → IsSmallFirst name probe) → (if b then Some n else first_from net name (n + 1) lines) ≡ Some probe → IsSmallFirst name probe
    by false e more h = more h
    by true e more h =
        let here : n ≡ probe = same_Some n probe h in
        let same : line.name ≡ name = eqb-true line.name name (and_parts (line.name == name) (is_on line.net net) e).0 in
        record { name_small = subst HasSixDigits same all.0.name; probe_small = omega (arith, here, few) }

path_small : (net : List Twig) (ends pieces : List ℕ) → AllByRecursion IsSmallTwig net → ((p : ℕ) → Contains ends p → HasSixDigits p) → IsPath net ends pieces → AllByRecursion HasSixDigits pieces
path_small net ends [] twigs known path = tt
path_small net ends (x ∷ []) twigs known path = (known x path, tt)
path_small net ends (x ∷ y ∷ rest) twigs known (going, up, path) =
    let twig : Twig = record { piece = x; parent = Some y } in
    let small : IsSmallTwig twig = All-contains IsSmallTwig net twig (All-from_recursion IsSmallTwig net twigs) up in (
      small.piece,
      path_small net ends (y ∷ rest) twigs known path,
    )

branches_small : (net : List Twig) (starts : ℕ → ℕ → Type 0) (lines : List PointLine) (number : ℕ) (ends : List ℕ) (branches : List Branch) → length lines ≤ 1_000_000 → AllByRecursion IsSmallPointLine lines → AllByRecursion IsSmallTwig net → ((p : ℕ) → Contains ends p → HasSixDigits p)
    → AreBranches net starts lines number ends branches → AllByRecursion IsSmallBranch branches
branches_small net starts lines number ends [] short small twigs known all = tt
branches_small net starts lines number ends (b ∷ rest) short small twigs known (here, all) =
    let first = first_small number b.name 0 lines b.probe (omega (arith, short)) small here.probe in
    let pieces = path_small net ends b.pieces twigs known here.path in (
      record { name = first.name_small; probe = first.probe_small; pieces = pieces },
      branches_small net starts lines number (ends ++ b.pieces) rest short small twigs (both pieces) all,
    )
  where
    both : AllByRecursion HasSixDigits b.pieces → (p : ℕ) → Contains (ends ++ b.pieces) p → HasSixDigits p
    both pieces p inside = elim (Contains-append_cases ends b.pieces p inside) [
      | inl old ↦ known p old
      | inr new ↦ All-contains HasSixDigits b.pieces p (All-from_recursion HasSixDigits b.pieces pieces) new
    ]

first_is_small : (net : List Twig) → AllByRecursion IsSmallTwig net → HasSixDigits (first_piece net)
first_is_small [] twigs = omega arith
first_is_small (t ∷ rest) twigs = twigs.0.piece

short_small : (nets : List (List Twig)) (starts : ℕ → ℕ → Type 0) (lines : List PointLine) (s : Short) → length nets ≤ MOST_PIECES → length lines ≤ 1_000_000 → AllByRecursion IsSmallPointLine lines → AllByRecursion (AllByRecursion IsSmallTwig) nets → HasBranches nets starts lines s → IsSmallShort s
short_small nets starts lines s few short small twigs here =
    let below = slice_get_within nets s.net here.net here.there in
    let own : AllByRecursion IsSmallTwig here.net = All-contains (AllByRecursion IsSmallTwig) nets here.net (All-from_recursion (AllByRecursion IsSmallTwig) nets twigs) (s.net, below, get_or_from_slice_get nets s.net here.net here.net here.there) in
    record {
      net = omega (arith, below, few);
      branches = branches_small here.net starts lines s.net (first_piece here.net ∷ []) s.branches short small own
          (λ p inside. subst HasSixDigits (one_of (first_piece here.net) p inside) (first_is_small here.net own)) here.branches;
    }

all_small : {X : Type 0} (P Q : X → Type 0) → ((x : X) → P x → Q x) → (xs : List X) → AllByRecursion P xs → AllByRecursion Q xs
all_small P Q each [] all = tt
all_small P Q each (x ∷ xs) all = (each x all.0, all_small P Q each xs all.1)

-- ---- The whole

pub right_verdicts_are_small : ((board : Tables) (v : Verdict) → IsRight board v → HasCountsOf board v) → RightVerdictsAreSmall
right_verdicts_are_small counted board v b right =
    let near : ℕ → ℕ → Type 0 = Stands board.near in
    let starts : ℕ → ℕ → Type 0 = BeginsBeneath board.beneath in
    let counts = counted board v right in
    let forest : AreTrees (length board.near) near v.nets = right Trees in
    let trees : AllByRecursion (IsTree near) v.nets = recursion_from_All (IsTree near) v.nets forest.trees in
    let low_pieces = b.pieces in let low_points = b.points in let low_names = b.names in
    let count_nets = counts.nets in let count_twigs = counts.twigs in let count_names = counts.names in let count_points = counts.points in
    let count_opens = counts.opens in let count_shorts = counts.shorts in let count_branches = counts.branches in let count_bare = counts.bare in
    let few_nets : length v.nets ≤ MOST_PIECES = omega (arith, low_pieces, count_nets) in
    let few_lines : length v.points ≤ 1_000_000 = omega (arith, low_points, count_points) in
    let nets = nets_small near v.nets (λ i p h. let known = forest.known i p h in omega (arith, known, low_pieces)) trees in
    let lines = lines_small (length board.names) low_names v.nets board.beneath board.points v.points few_nets (right Points) (recursion_from_All (IsSmallPoint (length board.names)) board.points b.known) in
    let branches : AllByRecursion (HasBranches v.nets starts v.points) v.shorts = recursion_from_All (HasBranches v.nets starts v.points) v.shorts (right Branches) in
    let apart = recursion_from_All (λ (net : List Twig). AreApart (pieces_of net)) v.nets (right Covers).one_place in
    let paths = paths_are_few near starts board.names v.points v.nets trees apart v.shorts (right Shorts) branches in
    let pieces_are = (right Counts).0 in
    record {
      small = record {
        pieces = omega (arith, pieces_are, low_pieces);
        nets = nets;
        names = subst (λ (names : List (List ℕ)). AllByRecursion IsRecordName names) (sym (right Counts).1) (recursion_from_All IsRecordName board.names b.short_names);
        points = lines;
        opens = subst (λ (opens : List Open). AllByRecursion IsSmallOpen opens) (sym (right Opens)) (opens_small 0 board.names v.points (omega (arith, low_names)) few_lines lines);
        shorts = all_small (HasBranches v.nets starts v.points) IsSmallShort (λ s has. short_small v.nets starts v.points s few_nets few_lines lines nets has) v.shorts branches;
        bare = subst (λ (bare : List ℕ). AllByRecursion HasSixDigits bare) (sym (right Bare)) (bare_small 0 v.points (omega (arith, few_lines)));
      };
      few = record {
        nets = few_nets;
        twigs = omega (arith, count_twigs, low_pieces);
        names = omega (arith, count_names, low_names);
        points = omega (arith, count_points, low_points);
        opens = omega (arith, count_opens, low_points);
        shorts = omega (arith, count_shorts, few_nets);
        branches = omega (arith, count_branches, low_points);
        paths = omega (arith, paths, count_branches, low_points, count_twigs, low_pieces);
        bare = omega (arith, count_bare, low_points);
      };
    }
