-- What two verdicts decide of a board between theirs: once, and of every copper that the real board may have.
use Rattle.std.proofs.Common.{◌≡◌, inl, inr, ℕ, List, [], ◌∷◌, map, ap, refl, subst, sym, ◌∙◌, arith}
use Rattle.std.proofs.lemmas.Simd.{map-map}
use Rattle.std.specs.Cmp.Lexicographic.{slice_cmp}
use Rattle.std.specs.Ordering.{nat_cmp}
use Rattle.std.specs.declared.cmp.Ordering.{Ordering}
use Rattle.arc_covers.specs.Laws.{AreBoundsOf, AreJudged, FindingsAreCertain, RealBoardAgrees, RealBoardIsDecided, TakenAreBounds}
use Rattle.arc_covers.specs.declared.side.Side.TheVariants.{Below, Above}
use Rattle.board_shapes.proofs.BoardTables.{tables_are_one}
use Rattle.board_shapes.specs.Plain.{PlainBoard}
use Rattle.boardnet.proofs.Alike.{same_verdicts}
use Rattle.reports.proofs.Besides.{besides_none, found_are}
use Rattle.boardnet.proofs.Bounds.{real_alike}
use Rattle.boardnet.proofs.Sound.{Laws}
use Rattle.reports.specs.BetweenText.{IsDecision, IsDecisionBy}
use Rattle.reports.specs.Decision.{IsDecisionOn}
use Rattle.boardnet.specs.Command.{BoundNames}
use Rattle.reports.specs.Findings.{Findings, NoneFound, besides, certain, possible, short_points, undecided, without}
use Rattle.boardnet.specs.Laws.{BoundedBoardsAgree, BoundedBoardsAreDecided, BoundedFindingsAreCertain, IsLaidOut}
use Rattle.boardnet.specs.Outcome.{IsDecided, Source}
use Rattle.reports.specs.Right.{IsRightOn}
use Rattle.boardnet.specs.commands.Between.{AreBounded}
use Rattle.covers.specs.Boards.{Layout}
use Rattle.planar.specs.Plane.{Point}
use Rattle.tables.specs.Tables.{Tables}
use Rattle.verdict.specs.Right.{IsRight}
use Rattle.verdict.specs.declared.verdict.Open.{Open}
use Rattle.verdict.specs.declared.verdict.Short.{Short}
use Rattle.verdict.specs.declared.verdict.Verdict.{Verdict}
use Rattle.witness_check.specs.BoardLaws.{IsRightFor}
use Rattle.witness_check.specs.Laws.{BranchPoint, DifferInWitnessesOnly, ShortPoints, branch_point, short_points as points_of}

-- ---- Findings

-- what is read of some branches is read of their points
points_read : (s : Short) → short_points s ≡ map (λ (b : BranchPoint). b.probe) (points_of s).branches
points_read s = sym (map-map (λ (b : BranchPoint). b.probe) branch_point s.branches)

abbrev read_of : ShortPoints → List ℕ
read_of s = map (λ (b : BranchPoint). b.probe) s.branches

all_read : (shorts : List Short) → map short_points shorts ≡ map read_of (map points_of shorts)
all_read [] = refl
all_read (s ∷ rest) = ap (λ (points : List ℕ). points ∷ map short_points rest) (points_read s) ∙ ap (λ (all : List (List ℕ)). read_of (points_of s) ∷ all) (all_read rest)

shorts_alike : (v w : Verdict) → DifferInWitnessesOnly v w → map short_points v.shorts ≡ map short_points w.shorts
shorts_alike v w d = all_read v.shorts ∙ (ap (map read_of) d.shorts ∙ sym (all_read w.shorts))

certain_alike : (v v' w w' : Verdict) → DifferInWitnessesOnly v v' → DifferInWitnessesOnly w w' → certain v w ≡ certain v' w'
certain_alike v v' w w' d e =
    found_are (certain v' w') (map (λ (o : Open). o.probe) w.opens) (map short_points v.shorts) w.bare (ap (map (λ (o : Open). o.probe)) e.opens) (shorts_alike v v' d) e.bare

undecided_alike : (v v' w w' : Verdict) → DifferInWitnessesOnly v v' → DifferInWitnessesOnly w w' → undecided v w ≡ undecided v' w'
undecided_alike v v' w w' d e = ap (λ (f : Findings). without f (certain v w)) (certain_alike w w' v v' e d) ∙ ap (λ (f : Findings). without (possible v' w') f) (certain_alike v v' w w' d e)

pub unmapped : {X Y : Type 0} (f : X → Y) (xs : List X) → map f xs ≡ [] → xs ≡ []
unmapped f [] e = refl
unmapped f (x ∷ xs) e = absurd cc

-- what is left besides nothing is all
left_all : {X : Type 0} (compare : X → X → Ordering) (ours theirs : List X) → theirs ≡ [] → besides compare ours theirs ≡ [] → ours ≡ []
left_all compare ours theirs none left = sym (besides_none compare ours) ∙ (ap (besides compare ours) (sym none) ∙ left)

pub all_found : (ours theirs : Findings) → NoneFound theirs → NoneFound (without ours theirs) → NoneFound ours
all_found ours theirs none left = record {
  opens_none = left_all nat_cmp ours.opens theirs.opens none.opens_none left.opens_none;
  shorts_none = left_all (slice_cmp nat_cmp) ours.shorts theirs.shorts none.shorts_none left.shorts_none;
  missing_none = left_all nat_cmp ours.missing theirs.missing none.missing_none left.missing_none;
}

-- ---- One decision

same_decisions : (sure unsure : Findings) (s t : ℕ) (l k : List ℕ) → IsDecisionBy sure unsure s l → IsDecisionBy sure unsure t k → (s ≡ t) × (l ≡ k)
same_decisions sure unsure s t l k (inl (none, left, is, said)) (inl (none', left', is', said')) = (is ∙ sym is', said ∙ sym said')
same_decisions sure unsure s t l k (inl (none, left, is, said)) (inr (inl (some, is', said'))) = absurd (some none)
same_decisions sure unsure s t l k (inl (none, left, is, said)) (inr (inr (none', some, is', said'))) = absurd (some left)
same_decisions sure unsure s t l k (inr (inl (some, is, said))) (inl (none, left, is', said')) = absurd (some none)
same_decisions sure unsure s t l k (inr (inl (some, is, said))) (inr (inl (some', is', said'))) = (is ∙ sym is', said ∙ sym said')
same_decisions sure unsure s t l k (inr (inl (some, is, said))) (inr (inr (none, some', is', said'))) = absurd (some none)
same_decisions sure unsure s t l k (inr (inr (none, some, is, said))) (inl (none', left, is', said')) = absurd (some left)
same_decisions sure unsure s t l k (inr (inr (none, some, is, said))) (inr (inl (some', is', said'))) = absurd (some' none)
same_decisions sure unsure s t l k (inr (inr (none, some, is, said))) (inr (inr (none', some', is', said'))) = (is ∙ sym is', said ∙ sym said')

same_findings : (v v' w w' : Verdict) (s : ℕ) (l : List ℕ) → DifferInWitnessesOnly v v' → DifferInWitnessesOnly w w' → IsDecision v w s l → IsDecision v' w' s l
same_findings v v' w w' s l d e h =
    subst (λ (f : Findings). IsDecisionBy (certain v' w') f s l) (undecided_alike v v' w w' d e) (subst (λ (f : Findings). IsDecisionBy f (undecided v w) s l) (certain_alike v v' w w' d e) h)

pub same_decision : Laws → (r r' : ℕ) (l l' u u' : PlainBoard) (text said : List ℕ) (s t : ℕ) (line other : List ℕ) → l ≡ l' → u ≡ u' → IsDecisionOn r l u text s line → IsDecisionOn r' l' u' said t other → (s ≡ t) × (line ≡ other)
same_decision same r r' l l' u u' text said s t line other e h x y =
    same_decisions (certain y.below y.above) (undecided y.below y.above) s t line other
    (same_findings x.below y.below x.above y.above s line (same_verdicts same l l' x.below y.below e x.lower_right y.lower_right) (same_verdicts same u u' x.above y.above h x.upper_right y.upper_right) x.status_is) y.status_is

-- ---- Of every copper of the real board

pub right_for : (b : PlainBoard) (v : Verdict) → IsRightOn b v → IsRightFor b v
right_for b v r = λ t is. subst (λ (z : Tables). IsRight z v) (tables_are_one b r.tables t r.tables_are is) r.right

pub bounds_of : TakenAreBounds → (holds : ℕ → Point → Type 0) (source : Source) (names : BoundNames) (d : AreBounded source names) (b : Layout) → IsLaidOut d.real holds b → AreBoundsOf d.lower d.upper holds b
bounds_of law holds source names d b laid =
    let c = d.bounded.counted in
    record {
      pieces = c.pieces;
      lower_counts = c.lower_counts;
      upper_counts = c.upper_counts;
      below = law Below c.pieces c.lower_counts d.lower.pieces d.bounded.below;
      above = law Above c.pieces c.upper_counts d.upper.pieces d.bounded.above;
      real_is = real_alike laid.pieces c.pieces holds b (laid.are ∙ sym c.are) laid.real_is;
      lower_netlist = record { probes = c.lower_netlist.probes ∙ sym laid.probes; names = c.lower_netlist.names ∙ sym laid.names; layers = c.lower_netlist.layers ∙ sym laid.layers };
      upper_netlist = record { probes = c.upper_netlist.probes ∙ sym laid.probes; names = c.upper_netlist.names ∙ sym laid.names; layers = c.upper_netlist.layers ∙ sym laid.layers };
    }

pub judged : (source : Source) (names : BoundNames) (text line : List ℕ) (status : ℕ) (d : IsDecided source names text status line) → AreJudged d.bounds.lower d.bounds.upper d.decision.below d.decision.above
judged source names text line status d = record {
  lower_lawful = d.decision.lower_lawful;
  upper_lawful = d.decision.upper_lawful;
  lower_right = right_for d.bounds.lower d.decision.below d.decision.lower_right;
  upper_right = right_for d.bounds.upper d.decision.above d.decision.upper_right;
}

-- under 0 nothing is possible
nothing : (v w : Verdict) (line : List ℕ) → IsDecision v w 0 line → NoneFound (possible v w)
nothing v w line (inl (none, left, is, said)) = all_found (possible v w) (certain v w) none left
nothing v w line (inr (inl (some, is, said))) = absurd (omega (arith, is))
nothing v w line (inr (inr (none, some, is, said))) = absurd (omega (arith, is))

pub bounded_boards_agree : (holds : ℕ → Point → Type 0) → TakenAreBounds → RealBoardAgrees holds → BoundedBoardsAgree holds
bounded_boards_agree holds taken law source names text line d b laid =
    let v = d.decision.below in
    let w = d.decision.above in
    let none : NoneFound (possible v w) = nothing v w line d.decision.status_is in
    law d.bounds.lower d.bounds.upper v w b (bounds_of taken holds source names d.bounds b laid) (judged source names text line 0 d) (unmapped (λ (o : Open). o.probe) v.opens none.opens_none) none.missing_none (unmapped short_points w.shorts none.shorts_none)

pub bounded_boards_are_decided : (holds : ℕ → Point → Type 0) → TakenAreBounds → RealBoardIsDecided holds → BoundedBoardsAreDecided holds
bounded_boards_are_decided holds taken law source names text line status d b laid =
    law d.bounds.lower d.bounds.upper d.decision.below d.decision.above b (bounds_of taken holds source names d.bounds b laid) (judged source names text line status d)

pub bounded_findings_are_certain : (holds : ℕ → Point → Type 0) → TakenAreBounds → FindingsAreCertain holds → BoundedFindingsAreCertain holds
bounded_findings_are_certain holds taken law source names text line status d b laid =
    law d.bounds.lower d.bounds.upper d.decision.below d.decision.above b (bounds_of taken holds source names d.bounds b laid) (judged source names text line status d)
