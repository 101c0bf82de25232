-- What a board between two others has amiss is listed of them.
use Rattle.std.proofs.Common.{◌≡◌, ◌≢◌, ◌⊎◌, ◌↔◌, inl, inr, ℕ, zero, suc, ◌+◌, ◌<◌, false, List, [], ◌∷◌, length, map, All, Contains, Option, Some, None, option_map, slice_get, ap, refl, subst, sym, ◌∙◌, arith}
use Rattle.std.proofs.lemmas.Bool.{cases_eq}
use Rattle.std.proofs.lemmas.List.Elements.{Contains-append_right}
use Rattle.std.proofs.lemmas.Map.Lookups.{exact_bytes, exact_unsigned}
use Rattle.std.proofs.lemmas.Option.{same_Some, slice_get-map, slice_get_cases}
use Rattle.std.specs.Cmp.Lexicographic.{slice_cmp}
use Rattle.std.specs.Ordering.{nat_cmp}
use Rattle.arc_covers.specs.Findings.{IsWithoutCopper}
use Rattle.arc_covers.specs.Laws.{AreBoundsOf, AreJudged, CertainFindings, FindingsAreCertain, HasItsNetlist, RealBoardAgrees, RealBoardIsDecided, TakenAreBounds}
use Rattle.board_shapes.specs.Lawful.{IsProbe}
use Rattle.board_shapes.specs.LawfulBoard.{IsLawfulBoard}
use Rattle.board_shapes.specs.Plain.{PlainBoard}
use Rattle.board_shapes.specs.Tables.{IsTables, point_of}
use Rattle.board_shapes.specs.declared.probe.Probe.{Probe}
use Rattle.reports.proofs.Besides.{in_map, listed}
use Rattle.boardnet.proofs.Decisions.{all_found, bounds_of, judged, unmapped}
use Rattle.reports.specs.Findings.{NoneFound, besides, certain, possible, short_points, undecided}
use Rattle.boardnet.specs.Laws.{AllIsListed, BoundedFindingsAreListed, HasBranch, HasListedOpen, HasListedShort, IsListedMissing}
use Rattle.covers.specs.Agreeing.{AgreesWithNames, HasName}
use Rattle.covers.specs.Boards.{HasCopper, Layout, PointsJoined}
use Rattle.covers.specs.Laws.{Decides}
use Rattle.planar.specs.Plane.{Point}
use Rattle.tables.specs.Tables.{Tables, TestPoint}
use Rattle.verdict.specs.Right.{AreLines, Bare, IsRight, Points, bare_from, is_unconnected}
use Rattle.verdict.specs.declared.verdict.Open.{Open}
use Rattle.verdict.specs.declared.verdict.PointLine.{PointLine}
use Rattle.verdict.specs.declared.verdict.Short.{Short}
use Rattle.verdict.specs.declared.verdict.Twig.{Twig}
use Rattle.verdict.specs.declared.verdict.Verdict.{Verdict}
use Rattle.witness_check.specs.BoardLaws.{HasName as IsNamedOn, IsRightFor, NetNumbersJoinProbes, OpensCoverNamesOf, ShortsHavePathsOn}
use Rattle.witness_check.specs.Laws.{HasOther, IsSeated}
use Rattle.witness_check.proofs.Bare.{opened_none}

-- ---- Lines of test points

line_of : (nets : List (List Twig)) (beneath : List (List ℕ)) (points : List TestPoint) (lines : List PointLine) (k : ℕ) (point : TestPoint) → AreLines nets beneath points lines → slice_get points k ≡ Some point → (line : PointLine) × (slice_get lines k ≡ Some line) × (line.name ≡ point.name)
line_of nets beneath [] lines k point all here = absurd cc
line_of nets [] (p ∷ points) lines k point all here = absurd all
line_of nets (u ∷ beneath) (p ∷ points) [] k point all here = absurd all
line_of nets (u ∷ beneath) (p ∷ points) (l ∷ lines) zero point (first, rest) here = let same : p ≡ point = cc here in (l, refl, first.name ∙ ap (λ (x : TestPoint). x.name) same)
line_of nets (u ∷ beneath) (p ∷ points) (l ∷ lines) (suc k) point (first, rest) here = line_of nets beneath points lines k point rest here

bare_later : (n : ℕ) (line : PointLine) (rest : List PointLine) (k : ℕ) → Contains (bare_from (n + 1) rest) k → Contains (bare_from n (line ∷ rest)) k
bare_later n line rest k inside = Contains-append_right _ (bare_from (n + 1) rest) k inside

-- a line without a net is listed
in_bare : (n : ℕ) (lines : List PointLine) (k : ℕ) (line : PointLine) → slice_get lines k ≡ Some line → line.net ≡ None → Contains (bare_from n lines) (n + k)
in_bare n [] k line here none = absurd cc
in_bare n (l ∷ lines) zero line here none =
    let same : l ≡ line = cc here in
    let at : n + 0 ≡ n = omega arith in
    subst (λ (xs : List ℕ). Contains xs (n + 0)) (sym (opened_none n l lines (ap (λ (x : PointLine). x.net) same ∙ none))) (0, omega arith, sym at)
in_bare n (l ∷ lines) (suc k) line here none =
    let at : n + 1 + k ≡ n + suc k = omega arith in
    bare_later n l lines (n + suc k) (subst (λ (j : ℕ). Contains (bare_from (n + 1) lines) j) at (in_bare (n + 1) lines k line here none))

on_or_off : (o : Option ℕ) → (o ≡ None) ⊎ ((net : ℕ) × (o ≡ Some net))
on_or_off None = inl refl
on_or_off (Some net) = inr (net, refl)

known_at : (P : Probe → Type 0) (probes : List Probe) (k : ℕ) (probe : Probe) → All P probes → slice_get probes k ≡ Some probe → P probe
known_at P probes k probe all here = elim (slice_get_cases probes k).1 [
  | inl (found, within, there, same) ↦ subst P (same ∙ same_Some found probe (sym there ∙ here)) (all k found within)
  | inr (past, none) ↦ (let e : None ≡ Some probe = sym none ∙ here in absurd cc)
]

-- ---- What is listed

listed_missing : (v w : Verdict) (k : ℕ) → Contains v.bare k → IsListedMissing v w k
listed_missing v w k inside = listed nat_cmp exact_unsigned v.bare w.bare k inside

listed_open : (v w : Verdict) (o : Open) (name : ℕ) → Contains v.opens o → o.name ≡ name → HasListedOpen v w name
listed_open v w o name inside named = record {
  entry = o;
  found = inside;
  named = named;
  listed = listed nat_cmp exact_unsigned (map (λ (o : Open). o.probe) v.opens) (map (λ (o : Open). o.probe) w.opens) o.probe (in_map (λ (o : Open). o.probe) v.opens o inside);
}

listed_short : (v w : Verdict) (s : Short) (name other : ℕ) → Contains w.shorts s → HasBranch s name → HasBranch s other → HasListedShort v w name other
listed_short v w s name other inside one two = record {
  short = s;
  found = inside;
  first = one;
  second = two;
  listed = listed (slice_cmp nat_cmp) exact_bytes (map short_points w.shorts) (map short_points v.shorts) (short_points s) (in_map short_points w.shorts s inside);
}

either_open : (v w : Verdict) (name n m : ℕ) → HasOther v name n ⊎ HasOther v name m → HasListedOpen v w name
either_open v w name n m (inl x) = listed_open v w x.entry name x.listed x.named
either_open v w name n m (inr x) = listed_open v w x.entry name x.listed x.named

-- ---- Boards

module _ (lower upper : PlainBoard) (v w : Verdict) (holds : ℕ → Point → Type 0) (real : Layout) (decides : Decides v w holds real) where
  -- the line of a test point below: without a net it is listed
  below_line : (t : Tables) → IsTables lower t → IsRight t v → HasItsNetlist lower real → (k name : ℕ) → HasName real k name → Contains v.bare k ⊎ ((net : ℕ) × IsSeated v k name net)
  below_line t is right netlist k name (probe, there, named) =
      let at : slice_get t.points k ≡ Some (point_of probe) = ap (λ (ps : List TestPoint). slice_get ps k) is.points ∙ (slice_get-map point_of lower.probes k ∙ ap (λ (o : Option Probe). option_map point_of o) (ap (λ (ps : List Probe). slice_get ps k) netlist.probes ∙ there)) in
      let line = line_of v.nets t.beneath t.points v.points k (point_of probe) (right Points) at in
      elim (on_or_off line.0.net) [
        | inl none ↦ inl (subst (λ (xs : List ℕ). Contains xs k) (sym (right Bare)) (let at : 0 + k ≡ k = omega arith in subst (λ (j : ℕ). Contains (bare_from 0 v.points) j) at (in_bare 0 v.points k line.0 line.1 none)))
        | inr on ↦ inr (on.0, (line.0, line.1, line.2 ∙ named, on.1))
      ]

  copper_below : (k name net : ℕ) → IsSeated v k name net → HasCopper holds real k
  copper_below k name net (line, there, named, on) = let joined = decides.shorts k k (net, (line, there, on), (line, there, on)) in (joined.i, joined.first)

  missing_is : (t : Tables) → IsTables lower t → IsRight t v → HasItsNetlist lower real → (k : ℕ) → IsWithoutCopper holds real k → IsListedMissing v w k
  missing_is t is right netlist k (below, bare) = elim (slice_get_cases real.probes k).1 [
    | inl (probe, within, there, same) ↦ elim (below_line t is right netlist k probe.name (probe, there, refl)) [
      | inl inside ↦ listed_missing v w k inside
      | inr on ↦ absurd (bare (copper_below k probe.name on.0 on.1))
    ]
    | inr (past, none) ↦ absurd (omega (arith, below, past))
  ]

  apart_is : OpensCoverNamesOf lower v → HasItsNetlist lower real → (k l name n m : ℕ) (text : List ℕ) → slice_get real.names name ≡ Some text → is_unconnected text ≡ false → (PointsJoined holds real k l → ⊥) → IsSeated v k name n → IsSeated v l name m → HasListedOpen v w name
  apart_is law netlist k l name n m text is connected apart (x, there, named, on) (y, here, called, off) = elim (cases_eq n m) [
    | inl same ↦ absurd (apart (decides.shorts k l (m, (x, there, on ∙ ap Some same), (y, here, off))))
    | inr other ↦ either_open v w name n m (law.listed k l name n m text (ap (λ (names : List (List ℕ)). slice_get names name) netlist.names ∙ is) connected (x, there, named, on) (y, here, called, off) other).0
  ]

  open_is : (t : Tables) → IsTables lower t → IsRight t v → HasItsNetlist lower real → OpensCoverNamesOf lower v → (k l name : ℕ) (text : List ℕ) → slice_get real.names name ≡ Some text → is_unconnected text ≡ false
      → HasName real k name → HasName real l name → (PointsJoined holds real k l → ⊥) → IsListedMissing v w k ⊎ IsListedMissing v w l ⊎ HasListedOpen v w name
  open_is t is right netlist law k l name text named connected one two apart = elim (below_line t is right netlist k name one) [
    | inl inside ↦ inl (listed_missing v w k inside)
    | inr on ↦ elim (below_line t is right netlist l name two) [
      | inl inside ↦ inr (inl (listed_missing v w l inside))
      | inr off ↦ inr (inr (apart_is law netlist k l name on.0 off.0 text named connected apart on.1 off.1))
    ]
  ]

  named_above : IsLawfulBoard upper → HasItsNetlist upper real → (k name : ℕ) → HasName real k name → IsNamedOn upper k name
  named_above lawful netlist k name (probe, there, named) =
      let here : slice_get upper.probes k ≡ Some probe = ap (λ (ps : List Probe). slice_get ps k) netlist.probes ∙ there in
      (probe, here, named, subst (λ (n : ℕ). n < length upper.names) named (known_at (IsProbe (length upper.names) upper.layers) upper.probes k probe lawful.known here).named)

  short_is : IsLawfulBoard upper → HasItsNetlist upper real → NetNumbersJoinProbes upper w → ShortsHavePathsOn upper w → (k l name other : ℕ) → HasName real k name → HasName real l other → name ≢ other → PointsJoined holds real k l → HasListedShort v w name other
  short_is lawful netlist joins law k l name other one two differ joined =
      let path = (law k l name other (named_above lawful netlist k name one) (named_above lawful netlist l other two) differ ((joins.joined k l).0 (decides.opens k l joined))).3 in
      listed_short v w path.short name other path.listed (path.one.branch, path.one.listed, path.one.named) (path.two.branch, path.two.listed, path.two.named)

-- ---- Nothing

none_or : {X : Type 0} (xs : List X) → (xs ≢ [] → ⊥) → xs ≡ []
none_or [] h = refl
none_or (x ∷ xs) h = absurd (h (λ e. cc))

-- where nothing is possible nothing is certain
none_certain : (v w : Verdict) (holds : ℕ → Point → Type 0) (real : Layout) → CertainFindings v w holds real → AgreesWithNames holds real → NoneFound (certain v w)
none_certain v w holds real found agrees = record {
  opens_none = ap (map (λ (o : Open). o.probe)) (none_or w.opens (λ some. found.differs (inl some) agrees));
  shorts_none = ap (map short_points) (none_or v.shorts (λ some. found.differs (inr (inl some)) agrees));
  missing_none = none_or w.bare (λ some. found.differs (inr (inr some)) agrees);
}

none_undecided : (v w : Verdict) → NoneFound (possible v w) → NoneFound (undecided v w)
none_undecided v w none = record {
  opens_none = ap (λ (xs : List ℕ). besides nat_cmp xs (map (λ (o : Open). o.probe) w.opens)) none.opens_none;
  shorts_none = ap (λ (xs : List (List ℕ)). besides (slice_cmp nat_cmp) xs (map short_points v.shorts)) none.shorts_none;
  missing_none = ap (λ (xs : List ℕ). besides nat_cmp xs w.bare) none.missing_none;
}

module _ (lower upper : PlainBoard) (v w : Verdict) (holds : ℕ → Point → Type 0) (real : Layout) (bounds : AreBoundsOf lower upper holds real) (by : AreJudged lower upper v w) where
  none_is : RealBoardAgrees holds → CertainFindings v w holds real → NoneFound (possible v w) ↔ (NoneFound (certain v w) × NoneFound (undecided v w))
  none_is law found = (
    λ none. (none_certain v w holds real found (law lower upper v w real bounds by (unmapped (λ (o : Open). o.probe) v.opens none.opens_none) none.missing_none (unmapped short_points w.shorts none.shorts_none)), none_undecided v w none),
    λ both. all_found (possible v w) (certain v w) both.0 both.1,
  )

  all_is : RealBoardAgrees holds → CertainFindings v w holds real → Decides v w holds real → NetNumbersJoinProbes upper w → OpensCoverNamesOf lower v → ShortsHavePathsOn upper w → (t : Tables) → IsTables lower t → AllIsListed v w holds real
  all_is agrees found decides joins opens shorts t is =
      let right = by.lower_right t is in
      record {
        missing = missing_is lower upper v w holds real decides t is right bounds.lower_netlist;
        opens = open_is lower upper v w holds real decides t is right bounds.lower_netlist opens;
        shorts = short_is lower upper v w holds real decides by.upper_lawful bounds.upper_netlist joins shorts;
        none = none_is agrees found;
      }

pub bounded_findings_are_listed : (holds : ℕ → Point → Type 0) → TakenAreBounds → RealBoardAgrees holds → RealBoardIsDecided holds → FindingsAreCertain holds
    → ((b : PlainBoard) (v : Verdict) → IsLawfulBoard b → IsRightFor b v → NetNumbersJoinProbes b v)
    → ((b : PlainBoard) (v : Verdict) → IsLawfulBoard b → IsRightFor b v → OpensCoverNamesOf b v)
    → ((b : PlainBoard) (v : Verdict) → IsLawfulBoard b → IsRightFor b v → ShortsHavePathsOn b v) → BoundedFindingsAreListed holds
bounded_findings_are_listed holds taken agrees decides certain joins opens shorts source names text line status d b laid =
    let bounds = bounds_of taken holds source names d.bounds b laid in
    let by = judged source names text line status d in
    let lower = d.bounds.lower in
    let upper = d.bounds.upper in
    let v = d.decision.below in
    let w = d.decision.above in
    all_is lower upper v w holds b bounds by agrees (certain lower upper v w b bounds by) (decides lower upper v w b bounds by)
    (joins upper w by.upper_lawful by.upper_right) (opens lower v by.lower_lawful by.lower_right) (shorts upper w by.upper_lawful by.upper_right)
    d.decision.lower_right.tables d.decision.lower_right.tables_are
