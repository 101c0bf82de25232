-- From the tests of a verdict to its ruling.
use Rattle.std.proofs.Common.{◌≡◌, ℕ, ◌<◌, ◌+◌, ◌==◌, if◌then◌else◌, inl, inr, List, length, map, get_or, All, Option, Some, None, IfSome, refl, sym, ap, subst, ◌∙◌, arith}
use Rattle.std.proofs.lemmas.Bool.{cases_lt}
use Rattle.board_shapes.specs.Laws.{PiecesUnderOneProbeTouch}
use Rattle.board_shapes.specs.Plain.{PlainBoard}
use Rattle.board_shapes.specs.Tables.{IsNear, IsTables, point_of}
use Rattle.board_shapes.specs.Touching.{UnderAt}
use Rattle.tables.specs.Lists.{AreRows}
use Rattle.tables.specs.Tables.{Source, Tables, TestPoint}
use Rattle.verdict.specs.declared.verdict.Branch.{Branch}
use Rattle.verdict.specs.declared.verdict.Short.{Short}
use Rattle.verdict.specs.declared.verdict.Twig.{Twig}
use Rattle.verdict.specs.declared.verdict.Verdict.{Verdict}
use Rattle.verdict.specs.Forest.{AreTrees, IsForest, Holds, StandApart, StandOnce}
use Rattle.verdict.specs.Right.{Clause, Trees, Covers, Apart, Points, Opens, Shorts, Branches, Bare, Counts, Spots, Sources, AreLines, BeginsAtHome, BeginsBeneath, FailsFirst, HasBranches, IsRight, Says, all_opens, all_shorts, bare_from, number_of, outline, source_of, spot_of}
use Rattle.witness_check.specs.Findings.{FindingsFail, FindingsSay}
use Rattle.witness_check.specs.Homes.{AreHomes, HasLeast}
use Rattle.witness_check.specs.Lines.{AreLinesBy}
use Rattle.witness_check.specs.Supplied.{AreSources, AreSpots, SupplementRuled}
use Rattle.witness_check.proofs.Lines.{GoesAlong, at_home, from_home, home_known, lines_each, lines_many, lines_right, shorts_along}
use Rattle.witness_check.proofs.Tables.{apart_as, apart_where, once_as, once_where, trees_as, trees_where, under_close}

-- The nets are a forest, and the table has the number of each piece's net.
pub record AreNetted (b : PlainBoard) (nets : List (List Twig)) (numbers : List ℕ) : Type 0 where
  pub forest : IsForest (length b.pieces) (IsNear b) nets
  pub numbered : (i p : ℕ) → Holds nets i p → get_or numbers p 0 ≡ i

-- So are they, and the lines are right by their homes, which are pieces under the probes.
pub record ArePointed (b : PlainBoard) (v : Verdict) (numbers : List ℕ) (homes : List (Option ℕ)) : Type 0 where
  pub netted : AreNetted b v.nets numbers
  pub under : AreHomes (length b.probes) (UnderAt b) v.shorts homes
  pub lines : AreLinesBy numbers b.probes homes v.points

-- ---- What a clause says by the tables

points_where : (b : PlainBoard) (t : Tables) (v : Verdict) (numbers : List ℕ) (homes : List (Option ℕ)) → IsTables b t → ArePointed b v numbers homes → Says t v Points
points_where b t v numbers homes is p =
    subst (λ (points : List TestPoint). AreLines v.nets t.beneath points v.points) (sym is.points)
    (lines_right (length b.pieces) (IsNear b) v.nets numbers p.netted.forest p.netted.numbered (UnderAt b) b.probes homes t.beneath v.points p.under.many is.beneath.many p.lines.many p.under.each is.beneath.each (home_known b v.shorts homes p.under) p.lines.each)

points_as : PiecesUnderOneProbeTouch → (b : PlainBoard) (t : Tables) (v : Verdict) (numbers : List ℕ) (homes : List (Option ℕ)) → IsTables b t → AreNetted b v.nets numbers → AreHomes (length b.probes) (UnderAt b) v.shorts homes → Says t v Points → AreLinesBy numbers b.probes homes v.points
points_as law b t v numbers homes is netted under says =
    let all : AreLines v.nets t.beneath (map point_of b.probes) v.points = subst (λ (points : List TestPoint). AreLines v.nets t.beneath points v.points) is.points says in
    record {
      many = lines_many v.nets t.beneath b.probes v.points all;
      each = lines_each (length b.pieces) (IsNear b) v.nets numbers netted.forest netted.numbered (UnderAt b) (under_close law b) b.probes homes t.beneath v.points under.many under.each is.beneath.each (home_known b v.shorts homes under) all;
    }

-- Where branches begin, by their homes and by the tables.
homes_along : (count : ℕ) (R : ℕ → ℕ → Type 0) (homes : List (Option ℕ)) (beneath : List (List ℕ)) → AreRows count R beneath → (s : Short) → All (HasLeast count R homes) s.branches → All (λ b. GoesAlong (BeginsAtHome homes) (BeginsBeneath beneath) count b × GoesAlong (BeginsBeneath beneath) (BeginsAtHome homes) count b) s.branches
homes_along count R homes beneath rows s least = λ k d below. one (get_or s.branches k d) (least k d below) where
  one : (b : Branch) → HasLeast count R homes b → GoesAlong (BeginsAtHome homes) (BeginsBeneath beneath) count b × GoesAlong (BeginsBeneath beneath) (BeginsAtHome homes) count b
  one b has = (
    (λ within p. from_home (R b.probe) homes beneath b.probe p (has within) (rows.each b.probe within)),
    λ within p. at_home (R b.probe) homes beneath b.probe p (has within) (rows.each b.probe within),
  )

-- The same of the verdict's shorts.
shorts_go : (b : PlainBoard) (t : Tables) (v : Verdict) (numbers : List ℕ) (homes : List (Option ℕ)) → IsTables b t → ArePointed b v numbers homes → All (λ s. All (λ b. GoesAlong (BeginsAtHome homes) (BeginsBeneath t.beneath) (length v.points) b × GoesAlong (BeginsBeneath t.beneath) (BeginsAtHome homes) (length v.points) b) s.branches) v.shorts
shorts_go b t v numbers homes is p = λ k d below. homes_along (length v.points) (UnderAt b) homes t.beneath rows (get_or v.shorts k d) (subst (λ (n : ℕ). All (HasLeast n (UnderAt b) homes) (get_or v.shorts k d).branches) (sym p.lines.many) (p.under.least k d below)) where
  rows : AreRows (length v.points) (UnderAt b) t.beneath
  rows = subst (λ (n : ℕ). AreRows n (UnderAt b) t.beneath) (sym p.lines.many) is.beneath

shorts_where : (b : PlainBoard) (t : Tables) (v : Verdict) (numbers : List ℕ) (homes : List (Option ℕ)) → IsTables b t → ArePointed b v numbers homes → All (HasBranches v.nets (BeginsAtHome homes) v.points) v.shorts → Says t v Branches
shorts_where b t v numbers homes is p all = shorts_along v.nets (BeginsAtHome homes) (BeginsBeneath t.beneath) v.points v.shorts (λ k d below i e within. (shorts_go b t v numbers homes is p k d below i e within).0) all

shorts_as : (b : PlainBoard) (t : Tables) (v : Verdict) (numbers : List ℕ) (homes : List (Option ℕ)) → IsTables b t → ArePointed b v numbers homes → Says t v Branches → All (HasBranches v.nets (BeginsAtHome homes) v.points) v.shorts
shorts_as b t v numbers homes is p all = shorts_along v.nets (BeginsBeneath t.beneath) (BeginsAtHome homes) v.points v.shorts (λ k d below i e within. (shorts_go b t v numbers homes is p k d below i e within).1) all

opens_where : (b : PlainBoard) (t : Tables) (v : Verdict) → IsTables b t → v.opens ≡ all_opens 0 b.names v.points → Says t v Opens
opens_where b t v is e = subst (λ (names : List (List ℕ)). v.opens ≡ all_opens 0 names v.points) (sym is.names) e

outlines_where : (b : PlainBoard) (t : Tables) (v : Verdict) → IsTables b t → map outline v.shorts ≡ all_shorts 0 v.nets b.names v.points → Says t v Shorts
outlines_where b t v is e = subst (λ (names : List (List ℕ)). map outline v.shorts ≡ all_shorts 0 v.nets names v.points) (sym is.names) e

-- the counts by the tables and by the board
counts_where : (b : PlainBoard) (t : Tables) (v : Verdict) → IsTables b t → (v.pieces ≡ length b.pieces) × (v.names ≡ b.names) → Says t v Counts
counts_where b t v is (pieces, names) = (pieces ∙ sym is.near.many, names ∙ sym is.names)

spots_where : (b : PlainBoard) (t : Tables) (v : Verdict) → IsTables b t → AreSpots b v.more → Says t v Spots
spots_where b t v is all = subst (λ (points : List TestPoint). IfSome v.more (λ m. m.spots ≡ map spot_of points)) (sym is.points) all

spots_as : (b : PlainBoard) (t : Tables) (v : Verdict) → IsTables b t → Says t v Spots → AreSpots b v.more
spots_as b t v is all = subst (λ (points : List TestPoint). IfSome v.more (λ m. m.spots ≡ map spot_of points)) is.points all

sources_where : (b : PlainBoard) (t : Tables) (v : Verdict) → IsTables b t → AreSources b v.more → Says t v Sources
sources_where b t v is all = subst (λ (sources : List Source). IfSome v.more (λ m. m.sources ≡ map source_of sources)) (sym is.sources) all

sources_as : (b : PlainBoard) (t : Tables) (v : Verdict) → IsTables b t → Says t v Sources → AreSources b v.more
sources_as b t v is all = subst (λ (sources : List Source). IfSome v.more (λ m. m.sources ≡ map source_of sources)) is.sources all

-- ---- The clauses before one

-- Each clause before n holds.
abbrev Before : Tables → Verdict → ℕ → Type 0
Before t v n = (clause : Clause) → number_of clause < n → Says t v clause

-- the clause of a number
abbrev clause_at : ℕ → Clause
clause_at n = if n == 1 then Trees else if n == 2 then Covers else if n == 3 then Apart else if n == 4 then Points else if n == 5 then Opens else if n == 6 then Shorts else if n == 7 then Branches else if n == 8 then Bare else if n == 9 then Counts else if n == 10 then Spots else Sources

-- The numbers go from 1 to 11, and each is that of one clause.
numbered : (clause : Clause) → (0 < number_of clause) × (number_of clause < 12) × (clause_at (number_of clause) ≡ clause)
numbered Trees = (omega arith, omega arith, refl)
numbered Covers = (omega arith, omega arith, refl)
numbered Apart = (omega arith, omega arith, refl)
numbered Points = (omega arith, omega arith, refl)
numbered Opens = (omega arith, omega arith, refl)
numbered Shorts = (omega arith, omega arith, refl)
numbered Branches = (omega arith, omega arith, refl)
numbered Bare = (omega arith, omega arith, refl)
numbered Counts = (omega arith, omega arith, refl)
numbered Spots = (omega arith, omega arith, refl)
numbered Sources = (omega arith, omega arith, refl)

none_before : (t : Tables) (v : Verdict) → Before t v 1
none_before t v clause below = let n = (numbered clause).0 in absurd (omega arith)

-- One clause more holds.
with_clause : (t : Tables) (v : Verdict) (n : ℕ) (clause : Clause) → number_of clause ≡ n → Before t v n → Says t v clause → Before t v (n + 1)
with_clause t v n clause is before says other below = elim (cases_lt (number_of other) n) [
  | inl low ↦ before other low
  | inr high ↦ let same : number_of other ≡ n = omega arith in subst (Says t v) (sym (numbered clause).2 ∙ (ap clause_at (is ∙ sym same) ∙ (numbered other).2)) says
]

past_trees : (b : PlainBoard) (t : Tables) (v : Verdict) → IsTables b t → AreTrees (length b.pieces) (IsNear b) v.nets → Before t v 2
past_trees b t v is trees = with_clause t v 1 Trees refl (none_before t v) (trees_where b t v.nets is trees)

past_covers : (b : PlainBoard) (t : Tables) (v : Verdict) → IsTables b t → AreTrees (length b.pieces) (IsNear b) v.nets → StandOnce (length b.pieces) v.nets → Before t v 3
past_covers b t v is trees once = with_clause t v 2 Covers refl (past_trees b t v is trees) (once_where b t v.nets is once)

past_apart : (b : PlainBoard) (t : Tables) (v : Verdict) (numbers : List ℕ) → IsTables b t → AreNetted b v.nets numbers → Before t v 4
past_apart b t v numbers is n = with_clause t v 3 Apart refl (past_covers b t v is n.forest.trees n.forest.covers) (apart_where b t v.nets is n.forest.apart)

past_points : (b : PlainBoard) (t : Tables) (v : Verdict) (numbers : List ℕ) (homes : List (Option ℕ)) → IsTables b t → ArePointed b v numbers homes → Before t v 5
past_points b t v numbers homes is p = with_clause t v 4 Points refl (past_apart b t v numbers is p.netted) (points_where b t v numbers homes is p)

finding_where : (b : PlainBoard) (t : Tables) (v : Verdict) (numbers : List ℕ) (homes : List (Option ℕ)) → IsTables b t → ArePointed b v numbers homes → (clause : Clause) → number_of clause < 8 → FindingsSay b.names homes v clause → Says t v clause
finding_where b t v numbers homes is p Trees below says = past_points b t v numbers homes is p Trees (omega arith)
finding_where b t v numbers homes is p Covers below says = past_points b t v numbers homes is p Covers (omega arith)
finding_where b t v numbers homes is p Apart below says = past_points b t v numbers homes is p Apart (omega arith)
finding_where b t v numbers homes is p Points below says = past_points b t v numbers homes is p Points (omega arith)
finding_where b t v numbers homes is p Opens below says = opens_where b t v is says
finding_where b t v numbers homes is p Shorts below says = outlines_where b t v is says
finding_where b t v numbers homes is p Branches below says = shorts_where b t v numbers homes is p says
finding_where b t v numbers homes is p Bare below says = absurd (omega arith)
finding_where b t v numbers homes is p Counts below says = absurd (omega arith)
finding_where b t v numbers homes is p Spots below says = absurd (omega arith)
finding_where b t v numbers homes is p Sources below says = absurd (omega arith)

-- What the tests have told before the supplement's.
pub record AreTold (b : PlainBoard) (v : Verdict) (homes : List (Option ℕ)) : Type 0 where
  pub found : (clause : Clause) → FindingsSay b.names homes v clause
  pub bare : v.bare ≡ bare_from 0 v.points
  pub counts : (v.pieces ≡ length b.pieces) × (v.names ≡ b.names)

past_findings : (b : PlainBoard) (t : Tables) (v : Verdict) (numbers : List ℕ) (homes : List (Option ℕ)) → IsTables b t → ArePointed b v numbers homes → ((clause : Clause) → FindingsSay b.names homes v clause) → Before t v 8
past_findings b t v numbers homes is p found clause below = finding_where b t v numbers homes is p clause below (found clause)

past_bare : (b : PlainBoard) (t : Tables) (v : Verdict) (numbers : List ℕ) (homes : List (Option ℕ)) → IsTables b t → ArePointed b v numbers homes → ((clause : Clause) → FindingsSay b.names homes v clause) → v.bare ≡ bare_from 0 v.points → Before t v 9
past_bare b t v numbers homes is p found bare = with_clause t v 8 Bare refl (past_findings b t v numbers homes is p found) bare

past_counts : (b : PlainBoard) (t : Tables) (v : Verdict) (numbers : List ℕ) (homes : List (Option ℕ)) → IsTables b t → ArePointed b v numbers homes → AreTold b v homes → Before t v 10
past_counts b t v numbers homes is p told = with_clause t v 9 Counts refl (past_bare b t v numbers homes is p told.found told.bare) (counts_where b t v is told.counts)

past_spots : (b : PlainBoard) (t : Tables) (v : Verdict) (numbers : List ℕ) (homes : List (Option ℕ)) → IsTables b t → ArePointed b v numbers homes → AreTold b v homes → AreSpots b v.more → Before t v 11
past_spots b t v numbers homes is p told spots = with_clause t v 10 Spots refl (past_counts b t v numbers homes is p told) (spots_where b t v is spots)

past_sources : (b : PlainBoard) (t : Tables) (v : Verdict) (numbers : List ℕ) (homes : List (Option ℕ)) → IsTables b t → ArePointed b v numbers homes → AreTold b v homes → AreSpots b v.more → AreSources b v.more → Before t v 12
past_sources b t v numbers homes is p told spots sources = with_clause t v 11 Sources refl (past_spots b t v numbers homes is p told spots) (sources_where b t v is sources)

-- ---- Rulings

pub trees_fail : (b : PlainBoard) (t : Tables) (v : Verdict) → IsTables b t → (AreTrees (length b.pieces) (IsNear b) v.nets → ⊥) → FailsFirst t v 1
trees_fail b t v is not = record { clause = Trees; number = refl; fails = λ says. not (trees_as b t v.nets is says); before = none_before t v }

pub covers_fail : (b : PlainBoard) (t : Tables) (v : Verdict) → IsTables b t → AreTrees (length b.pieces) (IsNear b) v.nets → (StandOnce (length b.pieces) v.nets → ⊥) → FailsFirst t v 2
covers_fail b t v is trees not = record { clause = Covers; number = refl; fails = λ says. not (once_as b t v.nets is says); before = past_trees b t v is trees }

pub apart_fail : (b : PlainBoard) (t : Tables) (v : Verdict) → IsTables b t → AreTrees (length b.pieces) (IsNear b) v.nets → StandOnce (length b.pieces) v.nets → (StandApart (IsNear b) v.nets → ⊥) → FailsFirst t v 3
apart_fail b t v is trees once not = record { clause = Apart; number = refl; fails = λ says. not (apart_as b t v.nets is says); before = past_covers b t v is trees once }

pub points_fail : PiecesUnderOneProbeTouch → (b : PlainBoard) (t : Tables) (v : Verdict) (numbers : List ℕ) (homes : List (Option ℕ)) → IsTables b t → AreNetted b v.nets numbers → AreHomes (length b.probes) (UnderAt b) v.shorts homes → (AreLinesBy numbers b.probes homes v.points → ⊥) → FailsFirst t v 4
points_fail law b t v numbers homes is n under not = record { clause = Points; number = refl; fails = λ says. not (points_as law b t v numbers homes is n under says); before = past_apart b t v numbers is n }

-- The clause is one of the findings.
finding_number : (names : List (List ℕ)) (homes : List (Option ℕ)) (v : Verdict) (clause : Clause) → (FindingsSay names homes v clause → ⊥) → (4 < number_of clause) × (number_of clause < 8)
finding_number names homes v Trees not = absurd (not tt)
finding_number names homes v Covers not = absurd (not tt)
finding_number names homes v Apart not = absurd (not tt)
finding_number names homes v Points not = absurd (not tt)
finding_number names homes v Opens not = (omega arith, omega arith)
finding_number names homes v Shorts not = (omega arith, omega arith)
finding_number names homes v Branches not = (omega arith, omega arith)
finding_number names homes v Bare not = absurd (not tt)
finding_number names homes v Counts not = absurd (not tt)
finding_number names homes v Spots not = absurd (not tt)
finding_number names homes v Sources not = absurd (not tt)

finding_as : (b : PlainBoard) (t : Tables) (v : Verdict) (numbers : List ℕ) (homes : List (Option ℕ)) → IsTables b t → ArePointed b v numbers homes → (clause : Clause) → Says t v clause → FindingsSay b.names homes v clause
finding_as b t v numbers homes is p Trees says = tt
finding_as b t v numbers homes is p Covers says = tt
finding_as b t v numbers homes is p Apart says = tt
finding_as b t v numbers homes is p Points says = tt
finding_as b t v numbers homes is p Opens says = subst (λ (names : List (List ℕ)). v.opens ≡ all_opens 0 names v.points) is.names says
finding_as b t v numbers homes is p Shorts says = subst (λ (names : List (List ℕ)). map outline v.shorts ≡ all_shorts 0 v.nets names v.points) is.names says
finding_as b t v numbers homes is p Branches says = shorts_as b t v numbers homes is p says
finding_as b t v numbers homes is p Bare says = tt
finding_as b t v numbers homes is p Counts says = tt
finding_as b t v numbers homes is p Spots says = tt
finding_as b t v numbers homes is p Sources says = tt

pub findings_fail : (b : PlainBoard) (t : Tables) (v : Verdict) (numbers : List ℕ) (homes : List (Option ℕ)) (n : ℕ) → IsTables b t → ArePointed b v numbers homes → FindingsFail b.names homes v n → FailsFirst t v n
findings_fail b t v numbers homes n is p f =
    let within = finding_number b.names homes v f.clause f.fails in
    let e = f.number in
    record {
      clause = f.clause;
      number = f.number;
      fails = λ says. f.fails (finding_as b t v numbers homes is p f.clause says);
      before = λ clause below. finding_where b t v numbers homes is p clause (omega arith) (f.before clause below);
    }

pub bare_fails : (b : PlainBoard) (t : Tables) (v : Verdict) (numbers : List ℕ) (homes : List (Option ℕ)) → IsTables b t → ArePointed b v numbers homes → ((clause : Clause) → FindingsSay b.names homes v clause) → (v.bare ≡ bare_from 0 v.points → ⊥) → FailsFirst t v 8
bare_fails b t v numbers homes is p found not = record { clause = Bare; number = refl; fails = not; before = past_findings b t v numbers homes is p found }

pub counts_fail : (b : PlainBoard) (t : Tables) (v : Verdict) (numbers : List ℕ) (homes : List (Option ℕ)) → IsTables b t → ArePointed b v numbers homes → ((clause : Clause) → FindingsSay b.names homes v clause) → v.bare ≡ bare_from 0 v.points → ((v.pieces ≡ length b.pieces) × (v.names ≡ b.names) → ⊥) → FailsFirst t v 9
counts_fail b t v numbers homes is p found bare not = record { clause = Counts; number = refl; fails = λ says. not (says.0 ∙ is.near.many, says.1 ∙ is.names); before = past_bare b t v numbers homes is p found bare }

pub supplement_fails : (b : PlainBoard) (t : Tables) (v : Verdict) (numbers : List ℕ) (homes : List (Option ℕ)) (n : ℕ) → IsTables b t → ArePointed b v numbers homes → AreTold b v homes → SupplementRuled b v.more (Some n) → FailsFirst t v n
supplement_fails b t v numbers homes n is p told ruled = elim ruled [
  | inl (same, not) ↦ subst (FailsFirst t v) (sym same) (record { clause = Spots; number = refl; fails = λ says. not (spots_as b t v is says); before = past_counts b t v numbers homes is p told })
  | inr (same, spots, not) ↦ subst (FailsFirst t v) (sym same) (record { clause = Sources; number = refl; fails = λ says. not (sources_as b t v is says); before = past_spots b t v numbers homes is p told spots })
]

pub all_right : (b : PlainBoard) (t : Tables) (v : Verdict) (numbers : List ℕ) (homes : List (Option ℕ)) → IsTables b t → ArePointed b v numbers homes → AreTold b v homes → SupplementRuled b v.more None → IsRight t v
all_right b t v numbers homes is p told (spots, sources) clause = past_sources b t v numbers homes is p told spots sources clause (numbered clause).1
