-- The lines of points by homes and by tables.
use Rattle.std.proofs.Common.{◌≡◌, ◌⊎◌, inl, inr, ℕ, zero, suc, ◌+◌, ◌<◌, Bool, true, false, if◌then◌else◌, List, [], ◌∷◌, ◌++◌, length, map, get_or, Contains, All, Option, Some, None, MatchOption, IfSome, refl, sym, ap, subst, ◌∙◌, arith}
use Rattle.std.proofs.lemmas.List.Elements.{All-from_get_or, All-tail}
use Rattle.std.proofs.lemmas.Option.{slice_get_cases, slice_get_within, slice_get-get_or}
use Rattle.board_shapes.specs.Lawful.{IsProbe}
use Rattle.board_shapes.specs.Plain.{PlainBoard}
use Rattle.board_shapes.specs.Tables.{point_of}
use Rattle.board_shapes.specs.Touching.{UnderAt}
use Rattle.board_shapes.specs.declared.probe.Probe.{Probe}
use Rattle.tables.specs.Lists.{IsLeast, Lists}
use Rattle.tables.specs.Tables.{row_at}
use Rattle.tables.proofs.Listing.{none_listed}
use Rattle.verdict.specs.declared.verdict.Twig.{Twig}
use Rattle.verdict.specs.declared.verdict.Branch.{Branch}
use Rattle.verdict.specs.declared.verdict.PointLine.{PointLine}
use Rattle.verdict.specs.declared.verdict.Short.{Short}
use Rattle.verdict.specs.Forest.{IsForest, Holds, first_piece}
use Rattle.verdict.specs.Right.{AreBranches, AreLines, BeginsAtHome, BeginsBeneath, HasBranches, IsLeastOf, first_from, marks}
use Rattle.verdict.proofs.Holding.{held_within}
use Rattle.verdict.specs.Seats.{net_by}
use Rattle.verdict.proofs.Chains.{begins_along}
use Rattle.witness_check.specs.Homes.{AreHomes, IsOneOf}
use Rattle.witness_check.specs.Lines.{AreLinesBy, IsLineAt, IsLineBy}

-- ---- One line

none_inside : (row : List ℕ) (p : ℕ) → row ≡ [] → Contains row p → ⊥
none_inside row p empty h = let k : Contains [] p = subst (λ (xs : List ℕ). Contains xs p) empty h in let b = k.1 in omega arith

-- What a line says of its net, by the pieces under its probe.
abbrev NetIs : List (List Twig) → List ℕ → Option ℕ → Type 0
NetIs nets row net = MatchOption net (row ≡ []) (λ n. (piece : ℕ) × Contains row piece × Holds nets n piece)

net_right : (size : ℕ) (near : ℕ → ℕ → Type 0) (nets : List (List Twig)) (numbers : List ℕ) → IsForest size near nets → ((i p : ℕ) → Holds nets i p → get_or numbers p 0 ≡ i)
    → (P : ℕ → Type 0) (row : List ℕ) (home : Option ℕ) → Lists P row → IsOneOf P home → IfSome home (λ p. p < size) → NetIs nets row (net_by numbers home)
net_right size near nets numbers forest numbered P row None lists least known = none_listed P row lists least
net_right size near nets numbers forest numbered P row (Some p) lists least known =
    let home = forest.covers.held p known in
    (p, lists.all p least, subst (λ (i : ℕ). Holds nets i p) (sym (numbered home.0 p home.1)) home.1)

net_back : (size : ℕ) (near : ℕ → ℕ → Type 0) (nets : List (List Twig)) (numbers : List ℕ) → IsForest size near nets → ((i p : ℕ) → Holds nets i p → get_or numbers p 0 ≡ i)
    → (P : ℕ → Type 0) → ((p q : ℕ) → P p → P q → (p ≡ q) ⊎ near p q) → (row : List ℕ) (home net : Option ℕ) → Lists P row → IsOneOf P home → IfSome home (λ p. p < size) → NetIs nets row net → net ≡ net_by numbers home
net_back size near nets numbers forest numbered P close row None None lists least known is = refl
net_back size near nets numbers forest numbered P close row None (Some n) lists least known (piece, inside, held) = absurd (least piece (lists.only piece inside))
net_back size near nets numbers forest numbered P close row (Some p) None lists least known is = absurd (none_inside row p is (lists.all p least))
net_back size near nets numbers forest numbered P close row (Some p) (Some n) lists least known (piece, inside, held) =
    let home = forest.covers.held p known in
    let same : home.0 ≡ n = elim (close p piece least (lists.only piece inside)) [
      | inl one ↦ forest.covers.one_net home.0 n piece (subst (λ (x : ℕ). Holds nets home.0 x) one home.1) held
      | inr touch ↦ forest.apart home.0 n p piece home.1 held touch
    ] in
    let number : n ≡ get_or numbers p 0 = sym same ∙ sym (numbered home.0 p home.1) in
    ap Some number

-- ---- All lines

some_one : {A : Type 0} (x y : A) → Some x ≡ Some y → x ≡ y
some_one x y e = cc

line_first : (numbers : List ℕ) (p : Probe) (h : Option ℕ) (l : PointLine) (probe : Probe) (line : PointLine) → IsLineBy numbers p h l → Some p ≡ Some probe → Some l ≡ Some line → IsLineBy numbers probe h line
line_first numbers p h l probe line is e f = subst (λ (x : Probe). IsLineBy numbers x h line) (some_one p probe e) (subst (λ (x : PointLine). IsLineBy numbers p h x) (some_one l line f) is)

pub lines_right : (size : ℕ) (near : ℕ → ℕ → Type 0) (nets : List (List Twig)) (numbers : List ℕ) → IsForest size near nets → ((i p : ℕ) → Holds nets i p → get_or numbers p 0 ≡ i)
    → (R : ℕ → ℕ → Type 0) (probes : List Probe) (homes : List (Option ℕ)) (beneath : List (List ℕ)) (lines : List PointLine) → length homes ≡ length probes → length beneath ≡ length probes → length lines ≡ length probes
    → ((k : ℕ) → k < length probes → IsOneOf (R k) (get_or homes k None)) → ((k : ℕ) → k < length probes → Lists (R k) (row_at beneath k)) → ((k : ℕ) → k < length probes → IfSome (get_or homes k None) (λ p. p < size))
    → ((k : ℕ) → k < length probes → IsLineAt numbers probes homes lines k) → AreLines nets beneath (map point_of probes) lines
lines_right size near nets numbers forest numbered R [] [] [] [] long many all least rows known each = tt
lines_right size near nets numbers forest numbered R [] [] [] (l ∷ ls) long many all least rows known each = absurd (omega arith)
lines_right size near nets numbers forest numbered R [] [] (r ∷ rs) lines long many all least rows known each = absurd (omega arith)
lines_right size near nets numbers forest numbered R [] (h ∷ hs) beneath lines long many all least rows known each = absurd (omega arith)
lines_right size near nets numbers forest numbered R (p ∷ ps) [] beneath lines long many all least rows known each = absurd (omega arith)
lines_right size near nets numbers forest numbered R (p ∷ ps) (h ∷ hs) [] lines long many all least rows known each = absurd (omega arith)
lines_right size near nets numbers forest numbered R (p ∷ ps) (h ∷ hs) (r ∷ rs) [] long many all least rows known each = absurd (omega arith)
lines_right size near nets numbers forest numbered R (p ∷ ps) (h ∷ hs) (r ∷ rs) (l ∷ ls) long many all least rows known each =
    let first : IsLineBy numbers p h l = each 0 (omega arith) p l refl refl in (
      record { number = first.number; layer = first.layer; name = first.name; net = subst (λ (n : Option ℕ). NetIs nets r n) (sym first.net) (net_right size near nets numbers forest numbered (R 0) r h (rows 0 (omega arith)) (least 0 (omega arith)) (known 0 (omega arith))) },
      lines_right size near nets numbers forest numbered (λ k. R (suc k)) ps hs rs ls (omega arith) (omega arith) (omega arith) (λ k below. least (suc k) (omega arith)) (λ k below. rows (suc k) (omega arith)) (λ k below. known (suc k) (omega arith)) (λ k below. each (suc k) (omega arith)),
    )

pub lines_many : (nets : List (List Twig)) (beneath : List (List ℕ)) (probes : List Probe) (lines : List PointLine) → AreLines nets beneath (map point_of probes) lines → length lines ≡ length probes
lines_many nets [] [] [] all = refl
lines_many nets [] [] (l ∷ ls) all = absurd all
lines_many nets [] (p ∷ ps) lines all = absurd all
lines_many nets (r ∷ rs) [] lines all = absurd all
lines_many nets (r ∷ rs) (p ∷ ps) [] all = absurd all
lines_many nets (r ∷ rs) (p ∷ ps) (l ∷ ls) (first, all) = let e = lines_many nets rs ps ls all in omega arith

pub lines_each : (size : ℕ) (near : ℕ → ℕ → Type 0) (nets : List (List Twig)) (numbers : List ℕ) → IsForest size near nets → ((i p : ℕ) → Holds nets i p → get_or numbers p 0 ≡ i)
    → (R : ℕ → ℕ → Type 0) → ((k p q : ℕ) → R k p → R k q → (p ≡ q) ⊎ near p q) → (probes : List Probe) (homes : List (Option ℕ)) (beneath : List (List ℕ)) (lines : List PointLine) → length homes ≡ length probes
    → ((k : ℕ) → k < length probes → IsOneOf (R k) (get_or homes k None)) → ((k : ℕ) → k < length probes → Lists (R k) (row_at beneath k)) → ((k : ℕ) → k < length probes → IfSome (get_or homes k None) (λ p. p < size))
    → AreLines nets beneath (map point_of probes) lines → (k : ℕ) → k < length probes → IsLineAt numbers probes homes lines k
lines_each size near nets numbers forest numbered R close [] homes beneath lines long least rows known all k below = absurd (omega arith)
lines_each size near nets numbers forest numbered R close (p ∷ ps) [] beneath lines long least rows known all k below = absurd (omega arith)
lines_each size near nets numbers forest numbered R close (p ∷ ps) (h ∷ hs) [] lines long least rows known all k below = absurd all
lines_each size near nets numbers forest numbered R close (p ∷ ps) (h ∷ hs) (r ∷ rs) [] long least rows known all k below = absurd all
lines_each size near nets numbers forest numbered R close (p ∷ ps) (h ∷ hs) (r ∷ rs) (l ∷ ls) long least rows known (first, all) zero below = λ probe line e f.
    line_first numbers p h l probe line (record { number = first.number; layer = first.layer; name = first.name; net = net_back size near nets numbers forest numbered (R 0) (close 0) r h l.net (rows 0 (omega arith)) (least 0 (omega arith)) (known 0 (omega arith)) first.net }) e f
lines_each size near nets numbers forest numbered R close (p ∷ ps) (h ∷ hs) (r ∷ rs) (l ∷ ls) long least rows known (first, all) (suc k) below =
    lines_each size near nets numbers forest numbered (λ i. R (suc i)) (λ i. close (suc i)) ps hs rs ls (omega arith) (λ i b. least (suc i) (omega arith)) (λ i b. rows (suc i) (omega arith)) (λ i b. known (suc i) (omega arith)) all k (omega arith)

-- ---- What right lines say

-- the piece of a home is a piece of the board
pub home_known : (b : PlainBoard) (shorts : List Short) (homes : List (Option ℕ)) → AreHomes (length b.probes) (UnderAt b) shorts homes → (k : ℕ) → k < length b.probes → IfSome (get_or homes k None) (λ p. p < length b.pieces)
home_known b shorts homes are k below = known (get_or homes k None) (are.each k below) where
  known : (home : Option ℕ) → IsOneOf (UnderAt b k) home → IfSome home (λ p. p < length b.pieces)
  known None one = tt
  known (Some p) one = slice_get_within b.pieces p one.piece one.piece_is

pub homes_known : (b : PlainBoard) (shorts : List Short) (homes : List (Option ℕ)) → AreHomes (length b.probes) (UnderAt b) shorts homes → All (λ home. IfSome home (λ p. p < length b.pieces)) homes
homes_known b shorts homes are = All-from_get_or (λ home. IfSome home (λ p. p < length b.pieces)) homes None (λ k below. home_known b shorts homes are k (let e = are.many in omega arith))

-- a fact that each line has from its probe and its home
all_lines : (Q : PointLine → Type 0) (numbers : List ℕ) (probes : List Probe) (homes : List (Option ℕ)) (lines : List PointLine) → AreLinesBy numbers probes homes lines
    → ((k : ℕ) (probe : Probe) (line : PointLine) → k < length probes → get_or probes k probe ≡ probe → IsLineBy numbers probe (get_or homes k None) line → Q line) → All Q lines
all_lines Q numbers probes homes lines by tells = λ k d below. (
    let e = by.many in
    elim (slice_get_cases probes k).1 [
      | inl (probe, within, there, same) ↦ tells k probe (get_or lines k d) within same (by.each k within probe (get_or lines k d) there (slice_get-get_or lines k d below))
      | inr (past, none) ↦ absurd (omega arith)
    ]
    )

pub lines_named : (names layers : ℕ) (numbers : List ℕ) (probes : List Probe) (homes : List (Option ℕ)) (lines : List PointLine) → AreLinesBy numbers probes homes lines → All (IsProbe names layers) probes → All (λ line. line.name < names) lines
lines_named names layers numbers probes homes lines by known = all_lines (λ line. line.name < names) numbers probes homes lines by named where
  named : (k : ℕ) (probe : Probe) (line : PointLine) → k < length probes → get_or probes k probe ≡ probe → IsLineBy numbers probe (get_or homes k None) line → line.name < names
  named k probe line within same is = (let e = is.name in let f : IsProbe names layers probe = subst (IsProbe names layers) same (known k probe within) in let g = f.named in omega arith)

pub lines_netted : (size : ℕ) (near : ℕ → ℕ → Type 0) (nets : List (List Twig)) (numbers : List ℕ) → IsForest size near nets → ((i p : ℕ) → Holds nets i p → get_or numbers p 0 ≡ i)
    → (probes : List Probe) (homes : List (Option ℕ)) (lines : List PointLine) → AreLinesBy numbers probes homes lines → ((k : ℕ) → k < length probes → IfSome (get_or homes k None) (λ p. p < size)) → All (λ line. IfSome line.net (λ net. net < length nets)) lines
lines_netted size near nets numbers forest numbered probes homes lines by known =
    all_lines (λ line. IfSome line.net (λ net. net < length nets)) numbers probes homes lines by
    (λ k probe line within same is. subst (λ (net : Option ℕ). IfSome net (λ n. n < length nets)) (sym is.net) (netted (get_or homes k None) (known k within)))
  where
    netted : (home : Option ℕ) → IfSome home (λ p. p < size) → IfSome (net_by numbers home) (λ net. net < length nets)
    netted None below = tt
    netted (Some q) below = let held = forest.covers.held q below in subst (λ (i : ℕ). i < length nets) (sym (numbered held.0 q held.1)) (held_within nets held.0 q held.1)

-- ---- Where branches begin

home_begins : (P : ℕ → Type 0) (row : List ℕ) (home : Option ℕ) (p : ℕ) → Lists P row → IsLeast P home → home ≡ Some p → IsLeastOf row p
home_begins P row None p lists least same = cc
home_begins P row (Some q) p lists least same = let e : q ≡ p = some_one q p same in subst (λ (x : ℕ). IsLeastOf row x) e (lists.all q least.0, λ r inside. least.1 r (lists.only r inside))

begins_home : (P : ℕ → Type 0) (row : List ℕ) (home : Option ℕ) (p : ℕ) → Lists P row → IsLeast P home → IsLeastOf row p → home ≡ Some p
begins_home P row None p lists least (inside, all) = absurd (least p (lists.only p inside))
begins_home P row (Some q) p lists least (inside, all) =
    let low = all q (lists.all q least.0) in
    let high = least.1 p (lists.only p inside) in
    let same : q ≡ p = omega arith in
    ap Some same

pub at_home : (P : ℕ → Type 0) (homes : List (Option ℕ)) (beneath : List (List ℕ)) (k p : ℕ) → IsLeast P (get_or homes k None) → Lists P (row_at beneath k) → BeginsBeneath beneath k p → BeginsAtHome homes k p
at_home P homes beneath k p least rows begins = begins_home P (row_at beneath k) (get_or homes k None) p rows least begins

pub from_home : (P : ℕ → Type 0) (homes : List (Option ℕ)) (beneath : List (List ℕ)) (k p : ℕ) → IsLeast P (get_or homes k None) → Lists P (row_at beneath k) → BeginsAtHome homes k p → BeginsBeneath beneath k p
from_home P homes beneath k p least rows home = home_begins P (row_at beneath k) (get_or homes k None) p rows least home

first_step : (m : Bool) (n probe more : ℕ) (later : Option ℕ) → (later ≡ Some probe → probe < n + 1 + more) → (if m then Some n else later) ≡ Some probe → probe < n + (more + 1)
first_step true n probe more later rest e = let same : n ≡ probe = some_one n probe e in omega arith
first_step false n probe more later rest e = let b = rest e in omega arith

first_within : (net name n : ℕ) (lines : List PointLine) (probe : ℕ) → first_from net name n lines ≡ Some probe → probe < n + length lines
first_within net name n [] probe e = cc
first_within net name n (line ∷ rest) probe e = let b = first_step (marks net name line) n probe (length rest) (first_from net name (n + 1) rest) (first_within net name (n + 1) rest probe) e in omega arith

-- What holds of a branch's start goes along to another.
abbrev pub GoesAlong : (starts more : ℕ → ℕ → Type 0) → ℕ → Branch → Type 0
GoesAlong starts more count b = b.probe < count → (p : ℕ) → starts b.probe p → more b.probe p

branches_along : (net : List Twig) (starts more : ℕ → ℕ → Type 0) (lines : List PointLine) (number : ℕ) (ends : List ℕ) (branches : List Branch) → All (GoesAlong starts more (length lines)) branches → AreBranches net starts lines number ends branches → AreBranches net more lines number ends branches
branches_along net starts more lines number ends [] along all = tt
branches_along net starts more lines number ends (b ∷ rest) along (first, all) = (
  record { probe = first.probe; start = begins_along (starts b.probe) (more b.probe) (λ p. along 0 b (omega arith) (let w = first_within number b.name 0 lines b.probe first.probe in omega arith) p) b.pieces first.start; path = first.path },
  branches_along net starts more lines number (ends ++ b.pieces) rest (All-tail (GoesAlong starts more (length lines)) b rest along) all,
)

pub shorts_along : (nets : List (List Twig)) (starts more : ℕ → ℕ → Type 0) (lines : List PointLine) (shorts : List Short) → All (λ s. All (GoesAlong starts more (length lines)) s.branches) shorts → All (HasBranches nets starts lines) shorts → All (HasBranches nets more lines) shorts
shorts_along nets starts more lines shorts along all = λ k d below. one (get_or shorts k d) (along k d below) (all k d below) where
  one : (s : Short) → All (GoesAlong starts more (length lines)) s.branches → HasBranches nets starts lines s → HasBranches nets more lines s
  one s goes has = record { net = has.net; there = has.there; branches = branches_along has.net starts more lines s.net (first_piece has.net ∷ []) s.branches goes has.branches }
