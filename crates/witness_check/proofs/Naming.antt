-- Branches with the names of marks, and shorts with those of nets.
use Rattle.std.proofs.Common.{◌≡◌, ◌↔◌, inl, inr, ℕ, suc, ◌+◌, ◌<◌, ◌≤◌, List, [], ◌∷◌, ◌++◌, length, map, get_or, drop, All, refl, sym, ap, subst, ◌∙◌, arith}
use Rattle.std.proofs.lemmas.List.{at_drop_all, drop_more, get_or-map, length-map}
use Rattle.std.proofs.lemmas.List.Elements.{All-append, All-cons, All-head, All-nil, All-tail, All-weaker}
use Rattle.verdict.specs.declared.verdict.Branch.{Branch}
use Rattle.verdict.specs.declared.verdict.PointLine.{PointLine}
use Rattle.verdict.specs.declared.verdict.Short.{Short}
use Rattle.verdict.specs.declared.verdict.Twig.{Twig}
use Rattle.verdict.specs.declared.verdict.Mark.{Mark}
use Rattle.verdict.specs.Right.{Outline, all_shorts, names_on, outline, short_of}
use Rattle.verdict.specs.Seats.{AreNamed, branch_name, mark_name, marks_at}
use Rattle.verdict.proofs.Holding.{le_or_lt}
use Rattle.witness_check.specs.Marked.{HasMarks, outlines_from}

-- ---- Names of branches

-- The names are the same exactly where those from i on are.
abbrev pub AreNamedTo : List Branch → List Mark → ℕ → Type 0
AreNamedTo branches marks i = (map branch_name branches ≡ map mark_name marks) ↔ (map branch_name (drop i branches) ≡ map mark_name (drop i marks))

pub named_long : (branches : List Branch) (marks : List Mark) → map branch_name branches ≡ map mark_name marks → length branches ≡ length marks
named_long branches marks same = sym (length-map branches branch_name) ∙ (ap length same ∙ length-map marks mark_name)

pub name_at : (branches : List Branch) (marks : List Mark) (i : ℕ) (b : Branch) (m : Mark) → map branch_name branches ≡ map mark_name marks → i < length branches → b ≡ get_or branches i b → b.name ≡ (get_or marks i m).name
name_at branches marks i b m same below item =
    let long = named_long branches marks same in
    ap (λ (x : Branch). x.name) item ∙ (sym (get_or-map branch_name branches i b 0 below) ∙ (ap (λ (xs : List ℕ). get_or xs i 0) same ∙ get_or-map mark_name marks i m 0 (omega arith)))

-- ---- Shorts

-- The shorts are those of the nets exactly where those from `next` on are those of the nets from n on.
pub record AreShortTo (shorts : List Short) (table : List (List Mark)) (next n : ℕ) : Type 0 where
  pub within : next ≤ length shorts
  pub same : (map outline shorts ≡ outlines_from 0 table) ↔ (map outline (drop next shorts) ≡ outlines_from n (drop n table))

short_next : (shorts : List Short) (next : ℕ) (d : Short) → next < length shorts → map outline (drop next shorts) ≡ outline (get_or shorts next d) ∷ map outline (drop (next + 1) shorts)
short_next shorts next d below = ap (map outline) (drop_more shorts next d below)

pub none_cons : {X : Type 0} (x : X) (xs : List X) → [] ≡ x ∷ xs → ⊥
none_cons x xs e = cc

pub shorts_done : (shorts : List Short) (table : List (List Mark)) (next n : ℕ) (d : Short) → length table ≤ n → AreShortTo shorts table next n → (next ≡ length shorts) ↔ (map outline shorts ≡ outlines_from 0 table)
shorts_done shorts table next n d past to =
    let none : outlines_from n (drop n table) ≡ [] = at_drop_all (outlines_from n) table n past in
    ((λ e. to.same.1 (at_drop_all (map outline) shorts next (omega arith) ∙ sym none)), λ whole. all (to.same.0 whole ∙ none))
  where
    all : map outline (drop next shorts) ≡ [] → next ≡ length shorts
    all e = elim (le_or_lt (length shorts) next) [
      | inl past ↦ let w = to.within in omega arith
      | inr there ↦ absurd (none_cons (outline (get_or shorts next d)) (map outline (drop (next + 1) shorts)) (sym e ∙ short_next shorts next d there))
    ]

-- ---- The marks of nets

-- The outline is that of a row of marks, numbered from n.
abbrev IsOfRow : ℕ → List (List Mark) → Outline → Type 0
IsOfRow n table o = (k : ℕ) × (k < length table) × (o.net ≡ n + k) × (o.names ≡ map mark_name (marks_at table k))

later : (n : ℕ) (row : List Mark) (rest : List (List Mark)) (o : Outline) → IsOfRow (n + 1) rest o → IsOfRow n (row ∷ rest) o
later n row rest o (k, below, net, names) = (suc k, omega arith, omega arith, names)

short_row : (n : ℕ) (names : List ℕ) (row : List Mark) (rest : List (List Mark)) → names ≡ map mark_name row → All (IsOfRow n (row ∷ rest)) (short_of n names)
short_row n [] row rest same = All-nil (IsOfRow n (row ∷ rest))
short_row n (a ∷ []) row rest same = All-nil (IsOfRow n (row ∷ rest))
short_row n (a ∷ b ∷ more) row rest same = All-cons (IsOfRow n (row ∷ rest)) (record { net = n; names = a ∷ b ∷ more }) [] (0, omega arith, omega arith, same) (All-nil (IsOfRow n (row ∷ rest)))

rows_of : (n : ℕ) (table : List (List Mark)) → All (IsOfRow n table) (outlines_from n table)
rows_of n [] = All-nil (IsOfRow n [])
rows_of n (row ∷ rest) =
    All-append (IsOfRow n (row ∷ rest)) (short_of n (map mark_name row)) (outlines_from (n + 1) rest) (short_row n (map mark_name row) row rest refl)
    (All-weaker (IsOfRow (n + 1) rest) (IsOfRow n (row ∷ rest)) (later n row rest) (outlines_from (n + 1) rest) (rows_of (n + 1) rest))

marked_one : (table : List (List Mark)) (s : Short) → IsOfRow 0 table (outline s) → HasMarks table s
marked_one table s (k, below, net, names) =
    let at : s.net ≡ k = omega arith in
    record { within = omega arith; names = names ∙ ap (λ (j : ℕ). map mark_name (marks_at table j)) (sym at) }

unmap : (table : List (List Mark)) (shorts : List Short) → All (IsOfRow 0 table) (map outline shorts) → All (HasMarks table) shorts
unmap table [] all = All-nil (HasMarks table)
unmap table (s ∷ rest) all = All-cons (HasMarks table) s rest (marked_one table s (All-head (IsOfRow 0 table) (outline s) (map outline rest) all)) (unmap table rest (All-tail (IsOfRow 0 table) (outline s) (map outline rest) all))

pub shorts_marked : (table : List (List Mark)) (shorts : List Short) → map outline shorts ≡ outlines_from 0 table → All (HasMarks table) shorts
shorts_marked table shorts same = unmap table shorts (subst (All (IsOfRow 0 table)) (sym same) (rows_of 0 table))

-- the rows from n on have the names on the nets
from_rows : (n : ℕ) (table : List (List Mark)) (nets : List (List Twig)) (names : List (List ℕ)) (lines : List PointLine) → length table ≡ length nets → ((k : ℕ) → k < length table → map mark_name (marks_at table k) ≡ names_on (n + k) 0 names lines) → outlines_from n table ≡ all_shorts n nets names lines
from_rows n [] [] names lines long named = refl
from_rows n [] (net ∷ nets) names lines long named = absurd (omega arith)
from_rows n (row ∷ rest) [] names lines long named = absurd (omega arith)
from_rows n (row ∷ rest) (net ∷ nets) names lines long named =
    let zeroth : n + 0 ≡ n = omega arith in
    let here : map mark_name row ≡ names_on n 0 names lines = named 0 (omega arith) ∙ ap (λ (k : ℕ). names_on k 0 names lines) zeroth in
    ap (λ (xs : List ℕ). short_of n xs ++ outlines_from (n + 1) rest) here ∙
    ap (λ (os : List Outline). short_of n (names_on n 0 names lines) ++ os) (from_rows (n + 1) rest nets names lines (omega arith) (λ k below. let next : n + suc k ≡ n + 1 + k = omega arith in named (suc k) (omega arith) ∙ ap (λ (j : ℕ). names_on j 0 names lines) next))

pub outlines_named : (table : List (List Mark)) (nets : List (List Twig)) (names : List (List ℕ)) (lines : List PointLine) → length table ≡ length nets → AreNamed names lines table → outlines_from 0 table ≡ all_shorts 0 nets names lines
outlines_named table nets names lines long named = from_rows 0 table nets names lines long (λ k below. let same : k ≡ 0 + k = omega arith in named k below ∙ ap (λ (j : ℕ). names_on j 0 names lines) same)
