-- Findings of the verdicts on two boards that a real one between them has.
use Rattle.std.proofs.Common.{◌≡◌, ◌≢◌, inl, inr, ℕ, zero, suc, ◌<◌, List, [], ◌∷◌, length, map, Contains, option_map, Some, None, slice_get, refl, sym, ap, ◌∙◌, subst, arith}
use Rattle.std.proofs.lemmas.List.Elements.{Contains-get_or}
use Rattle.std.proofs.lemmas.Option.{same_Some, slice_get-map, slice_get_cases, slice_get_within}
use Rattle.planar.specs.Plane.{Point}
use Rattle.board_shapes.specs.Plain.{PlainBoard}
use Rattle.board_shapes.specs.Tables.{IsTables, point_of}
use Rattle.board_shapes.specs.declared.probe.Probe.{Probe}
use Rattle.tables.specs.Tables.{Tables, TestPoint}
use Rattle.verdict.specs.Right.{AreLines, IsOn, IsRight, Points}
use Rattle.verdict.specs.declared.verdict.Branch.{Branch}
use Rattle.verdict.specs.declared.verdict.Open.{Open}
use Rattle.verdict.specs.declared.verdict.PointLine.{PointLine}
use Rattle.verdict.specs.declared.verdict.Short.{Short}
use Rattle.verdict.specs.declared.verdict.Twig.{Twig}
use Rattle.verdict.specs.declared.verdict.Verdict.{Verdict}
use Rattle.witness_check.specs.Laws.{IsSeated}
use Rattle.covers.specs.Agreeing.{AgreesWithNames, HasName}
use Rattle.covers.specs.Boards.{Layout}
use Rattle.covers.specs.Laws.{Decides}
use Rattle.arc_covers.specs.Findings.{HasOpen, HasShort, IsWithoutCopper}
use Rattle.arc_covers.specs.Laws.{CertainFindings, HasItsNetlist}
use Rattle.arc_covers.proofs.Listed.{bare_said, opens_said, shorts_said}

-- ---- Names of test points

name_of_line : (nets : List (List Twig)) (beneath : List (List ℕ)) (points : List TestPoint) (lines : List PointLine) (k : ℕ) (line : PointLine) → AreLines nets beneath points lines → slice_get lines k ≡ Some line → (point : TestPoint) × (slice_get points k ≡ Some point) × (point.name ≡ line.name)
name_of_line nets beneath points [] k line all here = cc
name_of_line nets [] [] (l ∷ lines) k line all here = absurd all
name_of_line nets (u ∷ beneath) [] (l ∷ lines) k line all here = absurd all
name_of_line nets [] (p ∷ points) (l ∷ lines) k line all here = absurd all
name_of_line nets (u ∷ beneath) (p ∷ points) (l ∷ lines) zero line (first, rest) here = (p, refl, sym first.name ∙ ap (λ (x : PointLine). x.name) (same_Some l line here))
name_of_line nets (u ∷ beneath) (p ∷ points) (l ∷ lines) (suc k) line (first, rest) here = name_of_line nets beneath points lines k line rest here

probe_of : (probes : List Probe) (k : ℕ) (point : TestPoint) → slice_get (map point_of probes) k ≡ Some point → (probe : Probe) × (slice_get probes k ≡ Some probe) × (probe.name ≡ point.name)
probe_of probes k point here = elim (slice_get_cases probes k).1 [
  | inl (probe, within, there, same) ↦
      let one : Some (point_of probe) ≡ Some point = ap (option_map point_of) (sym there) ∙ (sym (slice_get-map point_of probes k) ∙ here) in
      (probe, there, ap (λ (x : TestPoint). x.name) (same_Some (point_of probe) point one))
  | inr (past, none) ↦ (
      let one : None ≡ Some point = ap (option_map point_of) (sym none) ∙ (sym (slice_get-map point_of probes k) ∙ here) in
      absurd cc
      )
]

-- ---- One of both boards

module _ (b : PlainBoard) (t : Tables) (v : Verdict) (is : IsTables b t) (right : IsRight t v) (real : Layout) (netlist : HasItsNetlist b real) where
  named : (k : ℕ) (line : PointLine) → slice_get v.points k ≡ Some line → HasName real k line.name
  named k line there =
      let point = name_of_line v.nets t.beneath t.points v.points k line (right Points) there in
      let probe = probe_of b.probes k point.0 (ap (λ (ps : List TestPoint). slice_get ps k) (sym is.points) ∙ point.1) in
      (probe.0, ap (λ (ps : List Probe). slice_get ps k) (sym netlist.probes) ∙ probe.1, probe.2 ∙ point.2)

  seated : (k name net : ℕ) → IsSeated v k name net → HasName real k name
  seated k name net (line, there, is_named, on) = subst (λ (n : ℕ). HasName real k n) is_named (named k line there)

  one_name : (k name other : ℕ) → HasName real k name → HasName real k other → name ≡ other
  one_name k name other (p, there, is_p) (q, here, is_q) = sym is_p ∙ (ap (λ (x : Probe). x.name) (same_Some p q (sym there ∙ here)) ∙ is_q)

  sits : (k name net : ℕ) → HasName real k name → IsOn v k net → IsSeated v k name net
  sits k name net has (line, there, on) = (line, there, one_name k line.name name (named k line there) has, on)

same_net : (v : Verdict) (k net other : ℕ) → IsOn v k net → IsOn v k other → net ≡ other
same_net v k net other (l, there, on) (m, here, off) = same_Some net other (sym on ∙ (ap (λ (x : PointLine). x.net) (same_Some l m (sym there ∙ here)) ∙ off))

on_of : (v : Verdict) (k name net : ℕ) → IsSeated v k name net → IsOn v k net
on_of v k name net (line, there, is_named, on) = (line, there, on)

within : (real : Layout) (k name : ℕ) → HasName real k name → k < length real.probes
within real k name (probe, there, is_named) = slice_get_within real.probes k probe there

-- ---- The findings

module _ (v w : Verdict) (holds : ℕ → Point → Type 0) (real : Layout) (decides : Decides v w holds real) where
  open_is : (upper : PlainBoard) (u : Tables) → IsTables upper u → IsRight u w → HasItsNetlist upper real → (o : Open) → Contains w.opens o → HasOpen holds real o
  open_is upper u is right netlist o inside =
      let said = opens_said u w right o inside in
      let at = said.at in
      let place : said.place ≡ o.name = omega arith in
      let listed = said.listed in
      let earlier = listed.earlier in
      record {
        text = said.text;
        text_is = ap (λ (names : List (List ℕ)). slice_get names o.name) (sym netlist.names ∙ sym is.names) ∙ subst (λ (n : ℕ). slice_get u.names n ≡ Some said.text) place said.there;
        connected = said.connected;
        named = seated upper u w is right real netlist o.probe o.name listed.net listed.seated;
        earlier = (earlier.0, earlier.2, seated upper u w is right real netlist earlier.0 o.name earlier.1 earlier.3);
        apart = λ k below has joined. (
            let one = decides.opens k o.probe joined in
            let same = same_net w o.probe one.0 listed.net one.2 (on_of w o.probe o.name listed.net listed.seated) in
            listed.before k below (sits upper u w is right real netlist k o.name listed.net has (subst (IsOn w k) same one.1))
            );
      }

  short_is : (lower : PlainBoard) (t : Tables) → IsTables lower t → IsRight t v → HasItsNetlist lower real → (s : Short) → Contains v.shorts s → HasShort holds real s
  short_is lower t is right netlist s inside =
      let said = shorts_said t v right s inside in
      record {
        several = said.several;
        rise = said.rise;
        named = λ i d below. (let x = Contains-get_or s.branches i d below in seated lower t v is right real netlist _ _ s.net (said.seated _ x));
        joined = λ x y one two. decides.shorts x.probe y.probe (s.net, on_of v x.probe x.name s.net (said.seated x one), on_of v y.probe y.name s.net (said.seated y two));
      }

  missing_is : (upper : PlainBoard) (u : Tables) → IsTables upper u → IsRight u w → HasItsNetlist upper real → (k : ℕ) → Contains w.bare k → IsWithoutCopper holds real k
  missing_is upper u is right netlist k inside =
      let bare = bare_said u w right k inside in
      (within real k bare.0.name (named upper u w is right real netlist k bare.0 bare.1), decides.missing k bare)

  open_differs : (o : Open) → HasOpen holds real o → AgreesWithNames holds real → ⊥
  open_differs o is agrees =
      let k = is.earlier in
      is.apart k.0 k.1 k.2 (agrees.opens k.0 o.probe o.name is.text is.text_is is.connected k.2 is.named (agrees.missing k.0 (within real k.0 o.name k.2)) (agrees.missing o.probe (within real o.probe o.name is.named)))

  missing_differs : (k : ℕ) → IsWithoutCopper holds real k → AgreesWithNames holds real → ⊥
  missing_differs k is agrees = is.1 (agrees.missing k is.0)

  branches_differ : (s : Short) (branches : List Branch) → s.branches ≡ branches → HasShort holds real s → AgreesWithNames holds real → ⊥
  branches_differ s branches same is agrees = by branches same where
    each : (x : Branch) → Contains s.branches x → HasName real x.probe x.name
    each x (i, below, same) = subst (λ (y : Branch). HasName real y.probe y.name) same (is.named i x below)

    by : (xs : List Branch) → s.branches ≡ xs → ⊥
    by [] e = let long = is.several in let n : length s.branches ≡ 0 = ap (λ (ys : List Branch). length ys) e in omega arith
    by (x ∷ []) e = let long = is.several in let n : length s.branches ≡ 1 = ap (λ (ys : List Branch). length ys) e in omega arith
    by (x ∷ y ∷ more) e =
        let one : Contains s.branches x = subst (λ (ys : List Branch). Contains ys x) (sym e) (0, omega arith, refl) in
        let two : Contains s.branches y = subst (λ (ys : List Branch). Contains ys y) (sym e) (1, omega arith, refl) in
        let less = is.rise 0 1 x y (omega arith) (ap (λ (ys : List Branch). slice_get ys 0) e) (ap (λ (ys : List Branch). slice_get ys 1) e) in
        agrees.shorts x.probe y.probe x.name y.name (each x one) (each y two) (λ equal. (omega arith)) (is.joined x y one two)

  some_in : {X : Type 0} (P : X → Type 0) (xs : List X) → xs ≢ [] → ((x : X) → Contains xs x → P x) → ((x : X) → P x → AgreesWithNames holds real → ⊥) → AgreesWithNames holds real → ⊥
  some_in P [] some all differs agrees = some refl
  some_in P (x ∷ xs) some all differs agrees = differs x (all x (0, omega arith, refl)) agrees

  pub certain : (lower upper : PlainBoard) (t u : Tables) → IsTables lower t → IsTables upper u → IsRight t v → IsRight u w → HasItsNetlist lower real → HasItsNetlist upper real → CertainFindings v w holds real
  certain lower upper t u below above right_below right_above lower_netlist upper_netlist =
      let opens = open_is upper u above right_above upper_netlist in
      let shorts = short_is lower t below right_below lower_netlist in
      let missing = missing_is upper u above right_above upper_netlist in
      record {
        opens = λ i d at. opens _ (Contains-get_or w.opens i d at);
        shorts = λ i d at. shorts _ (Contains-get_or v.shorts i d at);
        missing = λ i d at. missing _ (Contains-get_or w.bare i d at);
        differs = λ some agrees. elim some [
          | inl open_some ↦ some_in (HasOpen holds real) w.opens open_some opens open_differs agrees
          | inr other ↦ elim other [
            | inl short_some ↦ some_in (HasShort holds real) v.shorts short_some shorts (λ s. branches_differ s s.branches refl) agrees
            | inr bare_some ↦ some_in (IsWithoutCopper holds real) w.bare bare_some missing missing_differs agrees
          ]
        ];
      }
