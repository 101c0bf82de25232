-- Two joined points of different names have a listed short, and a path of pieces of its branches.
use Rattle.std.proofs.Common.{◌≡◌, ◌≢◌, inl, inr, ℕ, zero, suc, ◌+◌, ◌<◌, Bool, true, false, ◌&&◌, List, [], ◌∷◌, ◌++◌, length, map, All, Contains, Option, Some, None, slice_get, refl, sym, ap, subst, ◌∙◌, arith}
use Rattle.std.proofs.lemmas.Bool.{eq-eqb}
use Rattle.std.proofs.lemmas.List.Elements.{All-cons, All-contains, All-nil, All-tail, Contains-append_cases, Contains-append_left, Contains-append_right}
use Rattle.std.proofs.lemmas.Option.{get_or_from_slice_get, same_Some, slice_get_within}
use Rattle.std.specs.List.{flat_map}
use Rattle.tables.specs.Chains.{IsChain}
use Rattle.tables.specs.Consistent.{AreConsistent}
use Rattle.tables.specs.Tables.{Tables, TestPoint, Stands}
use Rattle.verdict.specs.Forest.{Hang, IsTree, first_piece}
use Rattle.verdict.specs.Right.{IsRight, Trees, Points, Shorts, Branches, AreBranches, AreLines, BeginsAt, BeginsBeneath, HasBranches, HasParent, IsOn, IsPath, Outline, all_shorts, first_from, first_on, is_on, marks, names_on, outline, short_of, where_some}
use Rattle.verdict.specs.declared.verdict.Branch.{Branch}
use Rattle.verdict.specs.declared.verdict.PointLine.{PointLine}
use Rattle.verdict.specs.declared.verdict.Short.{Short}
use Rattle.verdict.specs.declared.verdict.Twig.{Twig}
use Rattle.verdict.specs.declared.verdict.Verdict.{Verdict}
use Rattle.witness_check.specs.Laws.{AreJoinedWithin, HasBranchFrom, HasPath, IsNamed, ShortsHavePaths, branch_pieces}
use Rattle.witness_check.proofs.Joins.{net_numbers_are_joins, piece_on}
use Rattle.verdict.proofs.Holding.{held_within, one_of}

-- ---- Chains of pieces of a list

pub within_itself : (near : ℕ → ℕ → Type 0) (pieces : List ℕ) (p : ℕ) → Contains pieces p → AreJoinedWithin near pieces p p
within_itself near pieces p inside = record { chain = []; leads = refl; within = All-cons (λ x. Contains pieces x) p [] inside (All-nil (λ x. Contains pieces x)) }

pub within_step : (near : ℕ → ℕ → Type 0) (pieces : List ℕ) (p next q : ℕ) → Contains pieces p → near p next → AreJoinedWithin near pieces next q → AreJoinedWithin near pieces p q
within_step near pieces p next q inside touches j = record { chain = next ∷ j.chain; leads = (touches, j.leads); within = All-cons (λ x. Contains pieces x) p (next ∷ j.chain) inside j.within }

within_along : (near : ℕ → ℕ → Type 0) (pieces : List ℕ) (p q r : ℕ) (chain : List ℕ) → IsChain near p chain q → All (λ x. Contains pieces x) (p ∷ chain) → AreJoinedWithin near pieces q r → AreJoinedWithin near pieces p r
within_along near pieces p q r [] same all j = subst (λ (x : ℕ). AreJoinedWithin near pieces x r) (sym same) j
within_along near pieces p q r (next ∷ chain) (touches, more) all j =
    within_step near pieces p next r (all 0 0 (omega arith)) touches (within_along near pieces next q r chain more (All-tail (λ x. Contains pieces x) p (next ∷ chain) all) j)

pub AreJoinedWithin-trans : (near : ℕ → ℕ → Type 0) (pieces : List ℕ) (p q r : ℕ) → AreJoinedWithin near pieces p q → AreJoinedWithin near pieces q r → AreJoinedWithin near pieces p r
AreJoinedWithin-trans near pieces p q r i j = within_along near pieces p q r i.chain i.leads i.within j

within_back : (near : ℕ → ℕ → Type 0) → ((p q : ℕ) → near p q → near q p) → (pieces : List ℕ) (p q : ℕ) (chain : List ℕ) → IsChain near p chain q → All (λ x. Contains pieces x) (p ∷ chain) → AreJoinedWithin near pieces q p
within_back near both pieces p q [] same all = subst (λ (x : ℕ). AreJoinedWithin near pieces x p) same (within_itself near pieces p (all 0 0 (omega arith)))
within_back near both pieces p q (next ∷ chain) (touches, more) all =
    let rest = All-tail (λ x. Contains pieces x) p (next ∷ chain) all in
    let step = within_step near pieces next p p (rest 0 0 (omega arith)) (both p next touches) (within_itself near pieces p (all 0 0 (omega arith))) in
    AreJoinedWithin-trans near pieces q next p (within_back near both pieces next q chain more rest) step

pub AreJoinedWithin-sym : (near : ℕ → ℕ → Type 0) → ((p q : ℕ) → near p q → near q p) → (pieces : List ℕ) (p q : ℕ) → AreJoinedWithin near pieces p q → AreJoinedWithin near pieces q p
AreJoinedWithin-sym near both pieces p q j = within_back near both pieces p q j.chain j.leads j.within

-- ---- From a branch to the first piece of its net

-- A twig that hangs has its parent near it.
hung : (near : ℕ → ℕ → Type 0) (earlier : List ℕ) (rest : List Twig) (t : Twig) (parent : ℕ) → Hang near earlier rest → Contains rest t → t.parent ≡ Some parent → near parent t.piece
hung near earlier [] t parent hang (k, below, same) named = absurd (omega arith)
hung near earlier (s ∷ rest) t parent (here, hang) inside named = elim (Contains-append_cases (s ∷ []) rest t inside) [
  | inl first ↦ (let same : s ≡ t = one_of s t first in
      let up : here.parent ≡ parent = same_Some here.parent parent (sym here.named ∙ (ap (λ (x : Twig). x.parent) same ∙ named)) in
      subst (λ (x : Twig). near parent x.piece) same (subst (λ (x : ℕ). near x s.piece) up here.touches))
  | inr later ↦ hung near (earlier ++ s.piece ∷ []) rest t parent hang later named
]

parent_near : (near : ℕ → ℕ → Type 0) (net : List Twig) (piece parent : ℕ) → IsTree near net → HasParent net piece parent → near parent piece
parent_near near [] piece parent tree has = absurd tree
parent_near near (t ∷ rest) piece parent (root, least, hang) has =
    let twig : Twig = record { piece = piece; parent = Some parent } in
    elim (Contains-append_cases (t ∷ []) rest twig has) [
      | inl first ↦ absurd (let same : t ≡ twig = one_of t twig first in let none : None ≡ Some parent = sym root ∙ ap (λ (x : Twig). x.parent) same in cc)
      | inr later ↦ hung near (t.piece ∷ []) rest twig parent hang later refl
    ]

-- Each piece of a path is joined to where the ends are.
path_joined : (near : ℕ → ℕ → Type 0) → ((p q : ℕ) → near p q → near q p) → (net : List Twig) → IsTree near net → (among ends pieces : List ℕ) (root : ℕ) → IsPath net ends pieces → ((p : ℕ) → Contains pieces p → Contains among p) → ((p : ℕ) → Contains ends p → AreJoinedWithin near among p root) → (p : ℕ) → Contains pieces p → AreJoinedWithin near among p root
path_joined near both net tree among ends [] root path inside known p here = absurd path
path_joined near both net tree among ends (x ∷ []) root path inside known p here = subst (λ (y : ℕ). AreJoinedWithin near among y root) (one_of x p here) (known x path)
path_joined near both net tree among ends (x ∷ y ∷ rest) root (going, up, path) inside known p here =
    let further : (q : ℕ) → Contains (y ∷ rest) q → AreJoinedWithin near among q root = path_joined near both net tree among ends (y ∷ rest) root path (λ q h. inside q (Contains-append_right (x ∷ []) (y ∷ rest) q h)) known in
    elim (Contains-append_cases (x ∷ []) (y ∷ rest) p here) [
      | inl first ↦ subst (λ (z : ℕ). AreJoinedWithin near among z root) (one_of x p first) (within_step near among x y root (inside x (0, omega arith, refl)) (both y x (parent_near near net x y tree up)) (further y (0, omega arith, refl)))
      | inr later ↦ further p later
    ]

branches_joined : (near : ℕ → ℕ → Type 0) → ((p q : ℕ) → near p q → near q p) → (net : List Twig) → IsTree near net → (among : List ℕ) (root : ℕ) (starts : ℕ → ℕ → Type 0) (lines : List PointLine) (number : ℕ) (ends : List ℕ) (branches : List Branch) → AreBranches net starts lines number ends branches
    → ((p : ℕ) → Contains (flat_map (λ b. b.pieces) branches) p → Contains among p) → ((p : ℕ) → Contains ends p → AreJoinedWithin near among p root) → (b : Branch) → Contains branches b → (p : ℕ) → Contains b.pieces p → AreJoinedWithin near among p root
branches_joined near both net tree among root starts lines number ends [] all inside known b (k, below, same) p here = absurd (omega arith)
branches_joined near both net tree among root starts lines number ends (c ∷ rest) (first, all) inside known b listed p here =
    let mine : (q : ℕ) → Contains c.pieces q → AreJoinedWithin near among q root =
    path_joined near both net tree among ends c.pieces root first.path (λ q h. inside q (Contains-append_left c.pieces (flat_map (λ b. b.pieces) rest) q h)) known in
    let more : (q : ℕ) → Contains (ends ++ c.pieces) q → AreJoinedWithin near among q root = λ q h. elim (Contains-append_cases ends c.pieces q h) [ inl old ↦ known q old | inr new ↦ mine q new ] in
    elim (Contains-append_cases (c ∷ []) rest b listed) [
      | inl same ↦ mine p (subst (λ (x : Branch). Contains x.pieces p) (sym (one_of c b same)) here)
      | inr later ↦ branches_joined near both net tree among root starts lines number (ends ++ c.pieces) rest all (λ q h. inside q (Contains-append_right c.pieces (flat_map (λ b. b.pieces) rest) q h)) more b later p here
    ]

-- A path ends at one of the ends.
way_end : (net : List Twig) (ends pieces : List ℕ) → IsPath net ends pieces → (p : ℕ) × Contains ends p × Contains pieces p
way_end net ends [] path = absurd path
way_end net ends (x ∷ []) path = (x, path, (0, omega arith, refl))
way_end net ends (x ∷ y ∷ rest) (going, up, path) = let e = way_end net ends (y ∷ rest) path in (e.0, e.1, Contains-append_right (x ∷ []) (y ∷ rest) e.0 e.2)

-- The first branch holds the first piece of the net.
root_inside : (net : List Twig) (root : ℕ) (starts : ℕ → ℕ → Type 0) (lines : List PointLine) (number : ℕ) (branches : List Branch) (b : Branch) → Contains branches b → AreBranches net starts lines number (root ∷ []) branches → Contains (flat_map (λ b. b.pieces) branches) root
root_inside net root starts lines number [] b (k, below, same) all = absurd (omega arith)
root_inside net root starts lines number (c ∷ rest) b listed (first, all) =
    let e = way_end net (root ∷ []) c.pieces first.path in
    Contains-append_left c.pieces (flat_map (λ b. b.pieces) rest) root (subst (λ (x : ℕ). Contains c.pieces x) (sym (one_of root e.0 e.1)) e.2)

-- ---- The branch of a name

begin_of : (start : ℕ → Type 0) (pieces : List ℕ) → BeginsAt start pieces → (p : ℕ) × BeginsAt (λ x. x ≡ p) pieces × start p × Contains pieces p
begin_of start [] h = absurd h
begin_of start (p ∷ rest) h = (p, refl, h, (0, omega arith, refl))

abbrev name_of : Branch → ℕ
name_of b = b.name

named_branch : (branches : List Branch) (name : ℕ) → Contains (map name_of branches) name → (b : Branch) × Contains branches b × (b.name ≡ name)
named_branch [] name (k, below, same) = absurd (omega arith)
named_branch (b ∷ rest) name (zero, below, same) = (b, (0, omega arith, refl), same)
named_branch (b ∷ rest) name (suc k, below, same) = let r = named_branch rest name (k, omega arith, same) in (r.0, Contains-append_right (b ∷ []) rest r.0 r.1, r.2)

branch_is : (net : List Twig) (starts : ℕ → ℕ → Type 0) (lines : List PointLine) (number : ℕ) (ends : List ℕ) (branches : List Branch) → AreBranches net starts lines number ends branches → (b : Branch) → Contains branches b → (first_on number b.name lines ≡ Some b.probe) × BeginsAt (starts b.probe) b.pieces
branch_is net starts lines number ends [] all b (k, below, same) = absurd (omega arith)
branch_is net starts lines number ends (c ∷ rest) (first, all) b listed = elim (Contains-append_cases (c ∷ []) rest b listed) [
  | inl same ↦ subst (λ (x : Branch). (first_on number x.name lines ≡ Some x.probe) × BeginsAt (starts x.probe) x.pieces) (one_of c b same) (first.probe, first.start)
  | inr later ↦ branch_is net starts lines number (ends ++ c.pieces) rest all b later
]

-- ---- The short is listed

-- A point of the name on the net gives the name a first point there.
first_there : (net name n : ℕ) (lines : List PointLine) (k : ℕ) (line : PointLine) → slice_get lines k ≡ Some line → marks net name line ≡ true → (probe : ℕ) × (first_from net name n lines ≡ Some probe)
first_there net name n [] k line there e = cc
first_there net name n (l ∷ lines) zero line there e = let same : l ≡ line = cc in let here : marks net name l ≡ true = ap (marks net name) same ∙ e in (n, rw here refl)
first_there net name n (l ∷ lines) (suc k) line there e = by (marks net name l) refl (first_there net name (n + 1) lines k line there e) where
  by : (b : Bool) → marks net name l ≡ b → (probe : ℕ) × (first_from net name (n + 1) lines ≡ Some probe) → (probe : ℕ) × (first_from net name n (l ∷ lines) ≡ Some probe)
  by true m r = (n, rw m refl)
  by false m r = (r.0, rw m r.1)

marked : (net name : ℕ) (line : PointLine) → line.name ≡ name → line.net ≡ Some net → marks net name line ≡ true
marked net name line named on =
    ap (λ (b : Bool). b && is_on line.net net) (eq-eqb line.name name named) ∙ (ap (λ (o : Option ℕ). is_on o net) on ∙ eq-eqb net net refl)

-- Such a name, being one of the names, is on the net.
name_listed : (net n name : ℕ) (names : List (List ℕ)) (lines : List PointLine) (probe : ℕ) (j : ℕ) → name ≡ n + j → j < length names → first_on net name lines ≡ Some probe → Contains (names_on net n names lines) name
name_listed net n name [] lines probe j same below found = absurd (omega arith)
name_listed net n name (t ∷ names) lines probe zero same below found =
    let here : n ≡ name = omega arith in
    let some : first_on net n lines ≡ Some probe = ap (λ (x : ℕ). first_on net x lines) here ∙ found in
    let one : where_some (first_on net n lines) n ≡ n ∷ [] = ap (λ (o : Option ℕ). where_some o n) some in
    Contains-append_left (where_some (first_on net n lines) n) (names_on net (n + 1) names lines) name (subst (λ (xs : List ℕ). Contains xs name) (sym one) (0, omega arith, here))
name_listed net n name (t ∷ names) lines probe (suc j) same below found =
    Contains-append_right (where_some (first_on net n lines) n) (names_on net (n + 1) names lines) name (name_listed net (n + 1) name names lines probe j (omega arith) (omega arith) found)

abbrev outline_of : ℕ → List ℕ → Outline
outline_of net names = record { net = net; names = names }

-- A net with two names is short.
is_short : (net a b : ℕ) (names : List ℕ) → a ≢ b → Contains names a → Contains names b → short_of net names ≡ outline_of net names ∷ []
is_short net a b [] differ (k, below, same) there = absurd (omega arith)
is_short net a b (x ∷ []) differ here there = absurd (differ (sym (one_of x a here) ∙ one_of x b there))
is_short net a b (x ∷ y ∷ names) differ here there = refl

shorts_have : (n net : ℕ) (nets : List (List Twig)) (names : List (List ℕ)) (lines : List PointLine) (j : ℕ) (o : Outline) → net ≡ n + j → j < length nets → Contains (short_of net (names_on net 0 names lines)) o → Contains (all_shorts n nets names lines) o
shorts_have n net [] names lines j o same below inside = absurd (omega arith)
shorts_have n net (t ∷ nets) names lines zero o same below inside =
    let here : net ≡ n = omega arith in
    Contains-append_left (short_of n (names_on n 0 names lines)) (all_shorts (n + 1) nets names lines) o (subst (λ (x : ℕ). Contains (short_of x (names_on x 0 names lines)) o) here inside)
shorts_have n net (t ∷ nets) names lines (suc j) o same below inside = Contains-append_right (short_of n (names_on n 0 names lines)) (all_shorts (n + 1) nets names lines) o (shorts_have (n + 1) net nets names lines j o (omega arith) (omega arith) inside)

outlined : (shorts : List Short) (o : Outline) → Contains (map outline shorts) o → (s : Short) × Contains shorts s × (outline s ≡ o)
outlined [] o (k, below, same) = absurd (omega arith)
outlined (s ∷ rest) o (zero, below, same) = (s, (0, omega arith, refl), same)
outlined (s ∷ rest) o (suc k, below, same) = let r = outlined rest o (k, omega arith, same) in (r.0, Contains-append_right (s ∷ []) rest r.0 r.1, r.2)

-- ---- The path

-- The branch of a name, and that its first piece is joined to the first piece of the net.
record HasWayUp (board : Tables) (v : Verdict) (s : Short) (name root : ℕ) : Type 0 where
  pub first : ℕ
  pub branch : HasBranchFrom board v s name first
  pub joined : AreJoinedWithin (Stands board.near) (branch_pieces s) first root

way_up : (board : Tables) (v : Verdict) → AreConsistent board → (net : List Twig) → IsTree (Stands board.near) net → (s : Short) → AreBranches net (BeginsBeneath board.beneath) v.points s.net (first_piece net ∷ []) s.branches → (name : ℕ) → Contains (map name_of s.branches) name → HasWayUp board v s name (first_piece net)
way_up board v tables net tree s all name inside =
    let near : ℕ → ℕ → Type 0 = Stands board.near in
    let starts : ℕ → ℕ → Type 0 = BeginsBeneath board.beneath in
    let root : ℕ = first_piece net in
    let b = named_branch s.branches name inside in
    let fact = branch_is net starts v.points s.net (root ∷ []) s.branches all b.0 b.1 in
    let begin = begin_of (starts b.0.probe) b.0.pieces fact.1 in
    let at_root = root_inside net root starts v.points s.net s.branches b.0 b.1 all in
    let known : (p : ℕ) → Contains (root ∷ []) p → AreJoinedWithin near (branch_pieces s) p root = λ p h. subst (λ (x : ℕ). AreJoinedWithin near (branch_pieces s) x root) (one_of root p h) (within_itself near (branch_pieces s) root at_root) in
    record {
      first = begin.0;
      branch = record { branch = b.0; listed = b.1; named = b.2; probe = subst (λ (x : ℕ). first_on s.net x v.points ≡ Some b.0.probe) b.2 fact.0; begins = begin.1; least = begin.2 };
      joined = branches_joined near tables.both net tree (branch_pieces s) root starts v.points s.net (root ∷ []) s.branches all (λ p h. h) known b.0 b.1 begin.0 begin.3;
    }

-- The line of a point has its name.
line_named : (nets : List (List Twig)) (beneath : List (List ℕ)) (points : List TestPoint) (lines : List PointLine) (k : ℕ) (point : TestPoint) (line : PointLine) → AreLines nets beneath points lines → slice_get points k ≡ Some point → slice_get lines k ≡ Some line → line.name ≡ point.name
line_named nets beneath points [] k point line all here there = cc
line_named nets beneath [] (l ∷ lines) k point line all here there = cc
line_named nets [] (p ∷ points) (l ∷ lines) k point line all here there = absurd all
line_named nets (u ∷ beneath) (p ∷ points) (l ∷ lines) zero point line (first, rest) here there =
    let mine : p ≡ point = cc in
    let its : l ≡ line = cc in
    sym (ap (λ (x : PointLine). x.name) its) ∙ (first.name ∙ ap (λ (x : TestPoint). x.name) mine)
line_named nets (u ∷ beneath) (p ∷ points) (l ∷ lines) (suc k) point line (first, rest) here there = line_named nets beneath points lines k point line rest here there

-- A point of the name on a net has the name among those of the net.
name_on : (board : Tables) (v : Verdict) → IsRight board v → (k name net : ℕ) → IsNamed board k name → IsOn v k net → Contains (names_on net 0 board.names v.points) name
name_on board v right k name net (point, here, named, below) (line, there, on) =
    let name_is : line.name ≡ name = line_named v.nets board.beneath board.points v.points k point line (right Points) here there ∙ named in
    let first = first_there net name 0 v.points k line there (marked net name line name_is on) in
    name_listed net 0 name board.names v.points first.0 name (omega arith) below first.1

path : (board : Tables) (v : Verdict) → AreConsistent board → IsRight board v → (net name other : ℕ) → net < length v.nets → name ≢ other → Contains (names_on net 0 board.names v.points) name → Contains (names_on net 0 board.names v.points) other → HasPath board v net name other
path board v tables right net name other below differ one two =
    let names : List ℕ = names_on net 0 board.names v.points in
    let o : Outline = outline_of net names in
    let among : Contains (short_of net names) o = subst (λ (xs : List Outline). Contains xs o) (sym (is_short net name other names differ one two)) (0, omega arith, refl) in
    let told : Contains (map outline v.shorts) o = subst (λ (xs : List Outline). Contains xs o) (sym (right Shorts)) (shorts_have 0 net v.nets board.names v.points net o (omega arith) below among) in
    let found = outlined v.shorts o told in
    let s : Short = found.0 in
    let number : s.net ≡ net = ap (λ (x : Outline). x.net) found.2 in
    let branch_names : map name_of s.branches ≡ names = ap (λ (x : Outline). x.names) found.2 in
    let has : HasBranches v.nets (BeginsBeneath board.beneath) v.points s = All-contains (HasBranches v.nets (BeginsBeneath board.beneath) v.points) v.shorts s (right Branches) found.1 in
    let tree : IsTree (Stands board.near) has.net = All-contains (IsTree (Stands board.near)) v.nets has.net (right Trees).trees (there s.net has.net has.there) in
    let up = way_up board v tables has.net tree s has.branches name (subst (λ (xs : List ℕ). Contains xs name) (sym branch_names) one) in
    let down = way_up board v tables has.net tree s has.branches other (subst (λ (xs : List ℕ). Contains xs other) (sym branch_names) two) in
    let near : ℕ → ℕ → Type 0 = Stands board.near in
    let root : ℕ = first_piece has.net in
    let forth : AreJoinedWithin near (branch_pieces s) up.first down.first = AreJoinedWithin-trans near (branch_pieces s) up.first root down.first up.joined (AreJoinedWithin-sym near tables.both (branch_pieces s) down.first root down.joined) in
    record {
      short = s;
      listed = found.1;
      number = number;
      first = up.first;
      last = down.first;
      one = up.branch;
      two = down.branch;
      forth = forth;
      back = AreJoinedWithin-sym near tables.both (branch_pieces s) up.first down.first forth;
    }
  where
    there : (i : ℕ) (n : List Twig) → slice_get v.nets i ≡ Some n → Contains v.nets n
    there i n e = (i, slice_get_within v.nets i n e, get_or_from_slice_get v.nets i n n e)

pub shorts_have_paths : (board : Tables) (v : Verdict) → AreConsistent board → IsRight board v → ShortsHavePaths board v
shorts_have_paths board v tables right a b name other one two differ joined =
    let on = ((net_numbers_are_joins board v tables right).joined a b).1 joined in
    let held = piece_on board v right a on.0 on.1 in
    (on.0, on.1, on.2, path board v tables right on.0 name other (held_within v.nets on.0 held.0 held.2) differ (name_on board v right a name on.0 one on.1) (name_on board v right b other on.0 two on.2))
