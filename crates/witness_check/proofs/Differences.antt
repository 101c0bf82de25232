-- Two right verdicts of one board differ in witnesses only.
use Rattle.std.proofs.Common.{◌≡◌, inl, inr, ℕ, suc, ◌+◌, ◌<◌, List, [], ◌∷◌, ◌++◌, length, map, All, Contains, Option, Some, None, MatchOption, IfSome, refl, sym, ap, subst, ◌∙◌, arith}
use Rattle.std.proofs.lemmas.Bool.{cases_lt}
use Rattle.std.proofs.lemmas.List.{get_or_past, length-map}
use Rattle.std.proofs.lemmas.List.Elements.{All-get_or, All-head, All-tail}
use Rattle.std.proofs.lemmas.List.Sorted.{IsPermutation-refl}
use Rattle.std.proofs.lemmas.Option.{same_Some}
use Rattle.tables.specs.Consistent.{AreConsistent}
use Rattle.tables.specs.Tables.{Tables, TestPoint, Stands, row_at}
use Rattle.verdict.specs.Forest.{Holds, first_piece, net_at, pieces_of}
use Rattle.verdict.specs.ReportText.{Agrees}
use Rattle.verdict.specs.Right.{IsRight, Covers, Apart, Points, Opens, Shorts, Branches, Bare, Counts, Spots, Sources, AreBranches, AreLines, BeginsBeneath, HasBranches, Outline, all_opens, all_shorts, bare_from, first_on, names_on, outline, short_of, source_of, spot_of}
use Rattle.verdict.specs.declared.verdict.Branch.{Branch}
use Rattle.verdict.specs.declared.verdict.PointLine.{PointLine}
use Rattle.verdict.specs.declared.verdict.Short.{Short}
use Rattle.verdict.specs.declared.verdict.SourceLine.{SourceLine}
use Rattle.verdict.specs.declared.verdict.SpotLine.{SpotLine}
use Rattle.verdict.specs.declared.verdict.Supplement.{Supplement}
use Rattle.verdict.specs.declared.verdict.Twig.{Twig}
use Rattle.verdict.specs.declared.verdict.Verdict.{Verdict}
use Rattle.witness_check.specs.Laws.{AreOneNet, BranchPoint, DifferInWitnessesOnly, ShortPoints, branch_point, short_points}
use Rattle.witness_check.proofs.Joins.{right_nets}
use Rattle.witness_check.proofs.Members.{AreDistinct, rearranged}
use Rattle.verdict.proofs.Holding.{none_inside}
use Rattle.verdict.proofs.OneForest.{first_alike, forests_as_long, held_alike}

-- ---- Nets

pub nets_as_many : (board : Tables) (v w : Verdict) → AreConsistent board → IsRight board v → IsRight board w → length v.nets ≡ length w.nets
nets_as_many board v w tables right other = forests_as_long (length board.near) (Stands board.near) tables.known tables.both v.nets w.nets (right_nets board v right) (right_nets board w other)

first_same : (board : Tables) (v w : Verdict) → AreConsistent board → IsRight board v → IsRight board w → (i : ℕ) → i < length v.nets → first_piece (net_at v.nets i) ≡ first_piece (net_at w.nets i)
first_same board v w tables right other = first_alike (length board.near) (Stands board.near) tables.known tables.both v.nets w.nets (right_nets board v right) (right_nets board w other)

pub held_too : (board : Tables) (v w : Verdict) → AreConsistent board → IsRight board v → IsRight board w → (i p : ℕ) → Holds v.nets i p → Holds w.nets i p
held_too board v w tables right other = held_alike (length board.near) (Stands board.near) tables.known tables.both v.nets w.nets (right_nets board v right) (right_nets board w other)

distinct_net : (board : Tables) (v : Verdict) → IsRight board v → (i : ℕ) → i < length v.nets → AreDistinct (pieces_of (net_at v.nets i))
distinct_net board v right i below = All-get_or (λ net. AreDistinct (pieces_of net)) v.nets i [] below (right Covers).one_place

one_net : (board : Tables) (v w : Verdict) → AreConsistent board → IsRight board v → IsRight board w → (i : ℕ) → AreOneNet (net_at v.nets i) (net_at w.nets i)
one_net board v w tables right other i =
    let many = nets_as_many board v w tables right other in
    elim (cases_lt i (length v.nets)) [
      | inl below ↦ record {
        first = first_same board v w tables right other i below;
        order = rearranged (pieces_of (net_at v.nets i)) (pieces_of (net_at w.nets i)) (distinct_net board v right i below) (distinct_net board w other i (omega arith)) (held_too board v w tables right other i) (held_too board w v tables other right i);
      }
      | inr past ↦ none (net_at v.nets i) (net_at w.nets i) (get_or_past v.nets i [] past) (get_or_past w.nets i [] (omega arith))
    ]
  where
    none : (net twin : List Twig) → net ≡ [] → twin ≡ [] → AreOneNet net twin
    none net twin e f =
        let empty : AreOneNet [] [] = record { first = refl; order = IsPermutation-refl [] } in
        subst (λ (x : List Twig). AreOneNet x twin) (sym e) (subst (λ (x : List Twig). AreOneNet [] x) (sym f) empty)

-- ---- Lines

-- Two pieces under one point are in one net.
abbrev AreTogether : List (List Twig) → List (List Twig) → List (List ℕ) → Type 0
AreTogether nets others beneath = (k p q n m : ℕ) → Contains (row_at beneath k) p → Contains (row_at beneath k) q → Holds nets n p → Holds others m q → n ≡ m

together : (board : Tables) (v w : Verdict) → AreConsistent board → IsRight board v → IsRight board w → AreTogether v.nets w.nets board.beneath
together board v w tables right other k p q n m here there holds held =
    let also : Holds v.nets m q = held_too board w v tables other right m q held in
    elim (tables.close k p q here there) [
      | inl same ↦ (right Covers).one_net n m q (subst (λ (x : ℕ). Holds v.nets n x) same holds) also
      | inr touches ↦ right Apart n m p q holds also touches
    ]

net_same : (nets others : List (List Twig)) (under : List ℕ) → ((p q n m : ℕ) → Contains under p → Contains under q → Holds nets n p → Holds others m q → n ≡ m) → (o t : Option ℕ)
    → MatchOption o (under ≡ []) (λ net. (piece : ℕ) × Contains under piece × Holds nets net piece) → MatchOption t (under ≡ []) (λ net. (piece : ℕ) × Contains under piece × Holds others net piece) → o ≡ t
net_same nets others under one None None h k = refl
net_same nets others under one None (Some m) h (q, inside, held) = absurd (none_inside q (subst (λ (xs : List ℕ). Contains xs q) h inside))
net_same nets others under one (Some n) None (p, inside, held) k = absurd (none_inside p (subst (λ (xs : List ℕ). Contains xs p) k inside))
net_same nets others under one (Some n) (Some m) (p, inside, held) (q, within, holds) = ap Some (one p q n m inside within held holds)

abbrev line_of : ℕ → ℕ → ℕ → Option ℕ → PointLine
line_of number layer name net = record { number = number; layer = layer; name = name; net = net }

line_same : (l m : PointLine) → l.number ≡ m.number → l.layer ≡ m.layer → l.name ≡ m.name → l.net ≡ m.net → l ≡ m
line_same l m a b c d =
    ap (λ (x : ℕ). line_of x l.layer l.name l.net) a ∙ (ap (λ (x : ℕ). line_of m.number x l.name l.net) b ∙ (ap (λ (x : ℕ). line_of m.number m.layer x l.net) c ∙ ap (line_of m.number m.layer m.name) d))

lines_same : (nets others : List (List Twig)) (beneath : List (List ℕ)) (points : List TestPoint) (lines twins : List PointLine) → AreTogether nets others beneath → AreLines nets beneath points lines → AreLines others beneath points twins → lines ≡ twins
lines_same nets others [] [] [] [] one a b = refl
lines_same nets others [] [] [] (t ∷ twins) one a b = absurd b
lines_same nets others [] [] (l ∷ lines) twins one a b = absurd a
lines_same nets others [] (p ∷ points) lines twins one a b = absurd a
lines_same nets others (u ∷ beneath) [] lines twins one a b = absurd a
lines_same nets others (u ∷ beneath) (p ∷ points) [] twins one a b = absurd a
lines_same nets others (u ∷ beneath) (p ∷ points) (l ∷ lines) [] one a b = absurd b
lines_same nets others (u ∷ beneath) (p ∷ points) (l ∷ lines) (t ∷ twins) one (a, more) (b, rest) =
    let net = net_same nets others u (one 0) l.net t.net a.net b.net in
    let head : l ≡ t = line_same l t (a.number ∙ sym b.number) (a.layer ∙ sym b.layer) (a.name ∙ sym b.name) net in
    let tail : lines ≡ twins = lines_same nets others beneath points lines twins (λ k. one (suc k)) more rest in
    ap (λ (x : PointLine). x ∷ lines) head ∙ ap (λ (xs : List PointLine). t ∷ xs) tail

-- ---- Shorts

shorts_by_count : (n : ℕ) (nets others : List (List Twig)) (names : List (List ℕ)) (lines : List PointLine) → length nets ≡ length others → all_shorts n nets names lines ≡ all_shorts n others names lines
shorts_by_count n [] [] names lines e = refl
shorts_by_count n [] (o ∷ others) names lines e = absurd (omega arith)
shorts_by_count n (t ∷ nets) [] names lines e = absurd (omega arith)
shorts_by_count n (t ∷ nets) (o ∷ others) names lines e = ap (λ (xs : List Outline). short_of n (names_on n 0 names lines) ++ xs) (shorts_by_count (n + 1) nets others names lines (omega arith))

abbrev name_of : Branch → ℕ
name_of b = b.name

point_same : (b c : Branch) → b.name ≡ c.name → b.probe ≡ c.probe → branch_point b ≡ branch_point c
point_same b c e f =
    let make : ℕ → ℕ → BranchPoint = λ name probe. record { name = name; probe = probe } in
    ap (λ (x : ℕ). make x b.probe) e ∙ ap (make c.name) f

-- Branches of one net with the same names have the same points.
branches_same : (net twin : List Twig) (starts : ℕ → ℕ → Type 0) (lines : List PointLine) (number : ℕ) (ends stops : List ℕ) (branches twins : List Branch) → AreBranches net starts lines number ends branches → AreBranches twin starts lines number stops twins → map name_of branches ≡ map name_of twins → map branch_point branches ≡ map branch_point twins
branches_same net twin starts lines number ends stops [] [] a b e = refl
branches_same net twin starts lines number ends stops [] (c ∷ twins) a b e = cc
branches_same net twin starts lines number ends stops (b ∷ branches) [] a c e = cc
branches_same net twin starts lines number ends stops (b ∷ branches) (c ∷ twins) (a, more) (d, rest) e =
    let name : b.name ≡ c.name = cc in
    let names : map name_of branches ≡ map name_of twins = cc in
    let probe : b.probe ≡ c.probe = same_Some b.probe c.probe (sym a.probe ∙ (ap (λ (x : ℕ). first_on number x lines) name ∙ d.probe)) in
    let tail = branches_same net twin starts lines number (ends ++ b.pieces) (stops ++ c.pieces) branches twins more rest names in
    ap (λ (x : BranchPoint). x ∷ map branch_point branches) (point_same b c name probe) ∙ ap (λ (xs : List BranchPoint). branch_point c ∷ xs) tail

short_same : (nets others : List (List Twig)) (starts : ℕ → ℕ → Type 0) (lines : List PointLine) (s t : Short) → HasBranches nets starts lines s → HasBranches others starts lines t → outline s ≡ outline t → short_points s ≡ short_points t
short_same nets others starts lines s t a b e =
    let make : ℕ → List BranchPoint → ShortPoints = λ net branches. record { net = net; branches = branches } in
    let net : s.net ≡ t.net = ap (λ (o : Outline). o.net) e in
    let names : map name_of s.branches ≡ map name_of t.branches = ap (λ (o : Outline). o.names) e in
    let theirs : AreBranches b.net starts lines s.net (first_piece b.net ∷ []) t.branches = subst (λ (n : ℕ). AreBranches b.net starts lines n (first_piece b.net ∷ []) t.branches) (sym net) b.branches in
    let points = branches_same a.net b.net starts lines s.net (first_piece a.net ∷ []) (first_piece b.net ∷ []) s.branches t.branches a.branches theirs names in
    ap (λ (n : ℕ). make n (map branch_point s.branches)) net ∙ ap (make t.net) points

shorts_same : (nets others : List (List Twig)) (starts : ℕ → ℕ → Type 0) (lines : List PointLine) (shorts twins : List Short) → All (HasBranches nets starts lines) shorts → All (HasBranches others starts lines) twins → map outline shorts ≡ map outline twins → map short_points shorts ≡ map short_points twins
shorts_same nets others starts lines [] [] a b e = refl
shorts_same nets others starts lines [] (t ∷ twins) a b e = cc
shorts_same nets others starts lines (s ∷ shorts) [] a b e = cc
shorts_same nets others starts lines (s ∷ shorts) (t ∷ twins) a b e =
    let head : outline s ≡ outline t = cc in
    let names : map outline shorts ≡ map outline twins = cc in
    let first = short_same nets others starts lines s t (All-head (HasBranches nets starts lines) s shorts a) (All-head (HasBranches others starts lines) t twins b) head in
    let tail = shorts_same nets others starts lines shorts twins (All-tail (HasBranches nets starts lines) s shorts a) (All-tail (HasBranches others starts lines) t twins b) names in
    ap (λ (x : ShortPoints). x ∷ map short_points shorts) first ∙ ap (λ (xs : List ShortPoints). short_points t ∷ xs) tail

-- ---- The supplement

supplement_same : (a b : Supplement) → a.spots ≡ b.spots → a.sources ≡ b.sources → a ≡ b
supplement_same a b e f =
    let make : List SpotLine → List SourceLine → Supplement = λ spots sources. record { spots = spots; sources = sources } in
    ap (λ (x : List SpotLine). make x a.sources) e ∙ ap (make b.spots) f

told_more : {A : Type 0} (f : Supplement → A) (whole : A) (m : Option Supplement) (one : Supplement) → IfSome m (λ more. f more ≡ whole) → m ≡ Some one → f one ≡ whole
told_more f whole m one says is = subst (λ (o : Option Supplement). IfSome o (λ more. f more ≡ whole)) is says

more_same : (board : Tables) (v w : Verdict) → IsRight board v → IsRight board w → (one other : Supplement) → v.more ≡ Some one → w.more ≡ Some other → one ≡ other
more_same board v w right also one other is has =
    let spots = λ (m : Supplement). m.spots in
    let sources = λ (m : Supplement). m.sources in
    supplement_same one other
    (told_more spots (map spot_of board.points) v.more one (right Spots) is ∙ sym (told_more spots (map spot_of board.points) w.more other (also Spots) has))
    (told_more sources (map source_of board.sources) v.more one (right Sources) is ∙ sym (told_more sources (map source_of board.sources) w.more other (also Sources) has))

-- ---- The whole

none_mapped : (shorts twins : List Short) → map short_points shorts ≡ map short_points twins → shorts ≡ [] → twins ≡ []
none_mapped shorts [] e none = refl
none_mapped [] (t ∷ twins) e none = cc
none_mapped (s ∷ shorts) (t ∷ twins) e none = cc

agrees_too : (v w : Verdict) → v.opens ≡ w.opens → map short_points v.shorts ≡ map short_points w.shorts → v.bare ≡ w.bare → Agrees v → Agrees w
agrees_too v w opens shorts bare a = record { opens = sym opens ∙ a.opens; shorts = none_mapped v.shorts w.shorts shorts a.shorts; bare = sym bare ∙ a.bare }

pub verdicts_differ_in_witnesses_only : (board : Tables) (v w : Verdict) → AreConsistent board → IsRight board v → IsRight board w → DifferInWitnessesOnly v w
verdicts_differ_in_witnesses_only board v w tables right other =
    let many = nets_as_many board v w tables right other in
    let starts : ℕ → ℕ → Type 0 = BeginsBeneath board.beneath in
    let points : v.points ≡ w.points = lines_same v.nets w.nets board.beneath board.points v.points w.points (together board v w tables right other) (right Points) (other Points) in
    let opens : v.opens ≡ w.opens = right Opens ∙ (ap (all_opens 0 board.names) points ∙ sym (other Opens)) in
    let bare : v.bare ≡ w.bare = right Bare ∙ (ap (bare_from 0) points ∙ sym (other Bare)) in
    let outlines : map outline v.shorts ≡ map outline w.shorts =
    right Shorts ∙ (ap (all_shorts 0 v.nets board.names) points ∙ (shorts_by_count 0 v.nets w.nets board.names w.points many ∙ sym (other Shorts))) in
    let branches : All (HasBranches v.nets starts w.points) v.shorts = subst (λ (ls : List PointLine). All (HasBranches v.nets starts ls) v.shorts) points (right Branches) in
    let shorts : map short_points v.shorts ≡ map short_points w.shorts = shorts_same v.nets w.nets starts w.points v.shorts w.shorts branches (other Branches) outlines in
    record {
      pieces = (right Counts).0 ∙ sym (other Counts).0;
      names = (right Counts).1 ∙ sym (other Counts).1;
      points = points;
      opens = opens;
      bare = bare;
      net_count = many;
      nets = one_net board v w tables right other;
      holds = λ i p. (held_too board v w tables right other i p, held_too board w v tables other right i p);
      shorts = shorts;
      status = (agrees_too v w opens shorts bare, agrees_too w v (sym opens) (sym shorts) (sym bare));
      open_count = ap length opens;
      short_count = sym (length-map v.shorts short_points) ∙ (ap length shorts ∙ length-map w.shorts short_points);
      bare_count = ap length bare;
      more = more_same board v w right other;
    }
