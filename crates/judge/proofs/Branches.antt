-- The branches of shorts.
use Rattle.std.proofs.Common.{◌≡◌, ℕ, ◌+◌, ◌<◌, ◌≤◌, Bool, true, false, List, [], ◌∷◌, ◌++◌, length, map, get_or, take, drop, Contains, All, Option, Some, None, refl, sym, ap, subst, ◌∙◌, append-nil, arith, slice_get}
use Rattle.std.proofs.lemmas.List.{drop_all, length-map, map-append, take_more}
use Rattle.std.proofs.lemmas.List.Elements.{All-get_or, Contains-append_left}
use Rattle.verdict.specs.declared.verdict.Twig.{Twig}
use Rattle.verdict.specs.declared.verdict.Branch.{Branch}
use Rattle.verdict.specs.declared.verdict.PointLine.{PointLine}
use Rattle.verdict.specs.declared.verdict.Mark.{Mark}
use Rattle.verdict.specs.Forest.{first_piece}
use Rattle.verdict.specs.Right.{IsPath, BeginsAt, IsBranch, AreBranches, HasBranches, all_shorts, names_on, outline, short_of, Outline, BeginsAtHome}
use Rattle.judge.specs.Judged.{AreFlags}
use Rattle.judge.proofs.PointLines.{turn}
use Rattle.std.proofs.lemmas.Option.{slice_get-get_or}
use Rattle.verdict.specs.declared.verdict.Short.{Short}
use Rattle.verdict.specs.Places.{twig_at}
use Rattle.verdict.specs.Seats.{AreFirst, AreNamed, IsFirst, mark_name, marks_at, branch_name}

-- the ends of a path that follows these branches
abbrev pub held : List ℕ → List Branch → List ℕ
held ends [] = ends
held ends (b ∷ rest) = held (ends ++ b.pieces) rest

held_still : (ends : List ℕ) (branches : List Branch) (p : ℕ) → Contains ends p → Contains (held ends branches) p
held_still ends [] p h = h
held_still ends (b ∷ rest) p h = held_still (ends ++ b.pieces) rest p (Contains-append_left ends b.pieces p h)

held-push : (ends : List ℕ) (branches : List Branch) (b : Branch) → held ends (branches ++ b ∷ []) ≡ held ends branches ++ b.pieces
held-push ends [] b = refl
held-push ends (c ∷ rest) b = held-push (ends ++ c.pieces) rest b

branches_push : (net : List Twig) (starts : ℕ → ℕ → Type 0) (lines : List PointLine) (number : ℕ) (ends : List ℕ) (branches : List Branch) (b : Branch) → AreBranches net starts lines number ends branches → IsBranch net starts lines number (held ends branches) b → AreBranches net starts lines number ends (branches ++ b ∷ [])
branches_push net starts lines number ends [] b all one = (one, tt)
branches_push net starts lines number ends (c ∷ rest) b (first, all) one = (first, branches_push net starts lines number (ends ++ c.pieces) rest b all one)

-- The marks before i have their branches.
pub record AreBranched (net : List Twig) (homes : List (Option ℕ)) (marks : List Mark) (i : ℕ) (branches : List Branch) (flags : List Bool) : Type 0 where
  pub long : length flags ≡ length net
  pub flagged : AreFlags net (held (first_piece net ∷ []) branches) flags
  pub names : map branch_name branches ≡ map mark_name (take i marks)
  pub right : (number : ℕ) (lines : List PointLine) → All (IsFirst number lines) marks → AreBranches net (BeginsAtHome homes) lines number (first_piece net ∷ []) branches

first_is : (net : List Twig) → (twig_at net 0).piece ≡ first_piece net
first_is [] = refl
first_is (t ∷ rest) = refl

pub branched_root : (net : List Twig) (homes : List (Option ℕ)) (marks : List Mark) (i : ℕ) (branches : List Branch) (flags : List Bool) → AreBranched net homes marks i branches flags → 0 < length net → get_or flags 0 false ≡ true
branched_root net homes marks i branches flags b some = (b.flagged 0 some).0 (held_still (first_piece net ∷ []) branches (twig_at net 0).piece (0, omega arith, sym (first_is net)))

pub branched_more : (net : List Twig) (homes : List (Option ℕ)) (marks : List Mark) (i : ℕ) (d : Mark) (branches branches' : List Branch) (flags flags' : List Bool) (home : ℕ) (pieces : List ℕ) → i < length marks → AreBranched net homes marks i branches flags → length flags' ≡ length flags
    → get_or homes (get_or marks i d).probe None ≡ Some home → BeginsAt (λ piece. piece ≡ home) pieces → ((ends : List ℕ) → AreFlags net ends flags → IsPath net ends pieces) → ((ends : List ℕ) → AreFlags net ends flags → AreFlags net (ends ++ pieces) flags')
    → branches' ≡ branches ++ record { name = (get_or marks i d).name; probe = (get_or marks i d).probe; pieces = pieces } ∷ [] → AreBranched net homes marks (i + 1) branches' flags'
branched_more net homes marks i d branches branches' flags flags' home pieces below b long start begins path flag now =
    let m : Mark = get_or marks i d in
    let ends : List ℕ = first_piece net ∷ [] in
    let new : Branch = record { name = m.name; probe = m.probe; pieces = pieces } in
    record {
      long = long ∙ b.long;
      flagged = subst (λ (xs : List ℕ). AreFlags net xs flags') (sym (ap (held ends) now ∙ held-push ends branches new)) (flag (held ends branches) b.flagged);
      names = ap (map branch_name) now ∙ (map-append branch_name branches (new ∷ []) ∙ (ap (λ (xs : List ℕ). xs ++ m.name ∷ []) b.names ∙ (sym (map-append mark_name (take i marks) (m ∷ [])) ∙ ap (map mark_name) (sym (take_more marks i d below)))));
      right = λ number lines firsts. subst (λ (xs : List Branch). AreBranches net (BeginsAtHome homes) lines number ends xs) (sym now)
          (branches_push net (BeginsAtHome homes) lines number ends branches new (b.right number lines firsts)
          (record { probe = All-get_or (IsFirst number lines) marks i d below firsts; start = begun pieces begins; path = path (held ends branches) b.flagged }));
    }
  where
    begun : (pieces : List ℕ) → BeginsAt (λ piece. piece ≡ home) pieces → BeginsAt (BeginsAtHome homes (get_or marks i d).probe) pieces
    begun [] h = absurd h
    begun (p ∷ rest) h = start ∙ ap Some (sym h)

pub short_few : (n : ℕ) (names : List ℕ) → length names < 2 → short_of n names ≡ []
short_few n [] few = refl
short_few n (a ∷ []) few = refl
short_few n (a ∷ b ∷ rest) few = absurd (omega arith)

pub short_many : (n : ℕ) (names : List ℕ) → 2 ≤ length names → short_of n names ≡ record { net = n; names = names } ∷ []
short_many n [] many = absurd (omega arith)
short_many n (a ∷ []) many = absurd (omega arith)
short_many n (a ∷ b ∷ rest) many = refl

pub short_pushed : (n : ℕ) (names : List ℕ) (shorts shorts' : List Short) (branches : List Branch) (marks : List Mark) → 2 ≤ length marks → map mark_name marks ≡ names → map branch_name branches ≡ map mark_name marks → shorts' ≡ shorts ++ record { net = n; branches = branches } ∷ [] → map outline shorts' ≡ map outline shorts ++ short_of n names
short_pushed n names shorts shorts' branches marks many named same now =
    let s : Short = record { net = n; branches = branches } in
    let o : ℕ → List ℕ → Outline = λ net list. record { net = net; names = list } in
    let long : length names ≡ length marks = sym (ap length named) ∙ length-map marks mark_name in
    ap (map outline) now ∙ (map-append outline shorts (s ∷ []) ∙ ap (λ (xs : List Outline). map outline shorts ++ xs) (ap (λ (xs : List ℕ). o n xs ∷ []) (same ∙ named) ∙ sym (short_many n names (omega arith))))

-- The shorts of the nets before n stand.
pub record AreShorted (nets : List (List Twig)) (table : List (List Mark)) (homes : List (Option ℕ)) (n : ℕ) (shorts : List Short) : Type 0 where
  pub outlines : (names : List (List ℕ)) (lines : List PointLine) → AreNamed names lines table → map outline shorts ++ all_shorts n (drop n nets) names lines ≡ all_shorts 0 nets names lines
  pub branches : (lines : List PointLine) → AreFirst lines table → All (HasBranches nets (BeginsAtHome homes) lines) shorts

shorts_turn : (nets : List (List Twig)) (table : List (List Mark)) (n : ℕ) (outlines outlines' : List Outline) (names : List (List ℕ)) (lines : List PointLine) → n < length nets → length table ≡ length nets → AreNamed names lines table
    → outlines ++ all_shorts n (drop n nets) names lines ≡ all_shorts 0 nets names lines → outlines' ≡ outlines ++ short_of n (map mark_name (marks_at table n)) → outlines' ++ all_shorts (n + 1) (drop (n + 1) nets) names lines ≡ all_shorts 0 nets names lines
shorts_turn nets table n outlines outlines' names lines below long named before now =
    turn (λ xs. all_shorts n xs names lines) (short_of n (names_on n 0 names lines)) (λ xs. all_shorts (n + 1) xs names lines) outlines outlines' (all_shorts 0 nets names lines) nets n [] below refl before (now ∙ ap (λ (xs : List ℕ). outlines ++ short_of n xs) (named n (omega arith)))

pub shorted_more : (nets : List (List Twig)) (table : List (List Mark)) (homes : List (Option ℕ)) (n : ℕ) (shorts shorts' : List Short) (net : List Twig) (row : List Mark) → n < length nets → length table ≡ length nets → net ≡ get_or nets n [] → row ≡ marks_at table n → AreShorted nets table homes n shorts
    → map outline shorts' ≡ map outline shorts ++ short_of n (map mark_name row)
    → ((ns : List (List Twig)) (lines : List PointLine) → slice_get ns n ≡ Some net → All (IsFirst n lines) row → All (HasBranches ns (BeginsAtHome homes) lines) shorts → All (HasBranches ns (BeginsAtHome homes) lines) shorts')
    → AreShorted nets table homes (n + 1) shorts'
shorted_more nets table homes n shorts shorts' net row below long here named done outlined branched = record {
  outlines = λ names lines given. shorts_turn nets table n (map outline shorts) (map outline shorts') names lines below long given (done.outlines names lines given) (outlined ∙ ap (λ (ms : List Mark). map outline shorts ++ short_of n (map mark_name ms)) named);
  branches = λ lines firsts. branched nets lines (slice_get-get_or nets n [] below ∙ ap Some (sym here)) (subst (λ (ms : List Mark). All (IsFirst n lines) ms) (sym named) (firsts n (omega arith))) (done.branches lines firsts);
}

pub shorted_skip : (nets : List (List Twig)) (table : List (List Mark)) (homes : List (Option ℕ)) (n : ℕ) (shorts : List Short) (row : List Mark) → n < length nets → length table ≡ length nets → row ≡ marks_at table n → length row < 2 → AreShorted nets table homes n shorts → AreShorted nets table homes (n + 1) shorts
shorted_skip nets table homes n shorts row below long named few done =
    let none : short_of n (map mark_name (marks_at table n)) ≡ [] = short_few n (map mark_name (marks_at table n)) (let a = length-map (marks_at table n) mark_name in let b = ap length named in omega arith) in
    record {
      outlines = λ names lines given. shorts_turn nets table n (map outline shorts) (map outline shorts) names lines below long given (done.outlines names lines given) (sym (append-nil (map outline shorts)) ∙ ap (λ (xs : List Outline). map outline shorts ++ xs) (sym none));
      branches = done.branches;
    }

pub shorted_all : (nets : List (List Twig)) (table : List (List Mark)) (homes : List (Option ℕ)) (n : ℕ) (shorts : List Short) (names : List (List ℕ)) (lines : List PointLine) → length nets ≤ n → AreShorted nets table homes n shorts → AreNamed names lines table → map outline shorts ≡ all_shorts 0 nets names lines
shorted_all nets table homes n shorts names lines all done given =
    let none : drop n nets ≡ [] = drop_all n nets all in
    sym (append-nil (map outline shorts)) ∙ (ap (λ (xs : List (List Twig)). map outline shorts ++ all_shorts n xs names lines) (sym none) ∙ done.outlines names lines given)
