-- A board that covers another keeps its joins.
use Rattle.std.proofs.Common.{◌≡◌, ℕ, ◌<◌, List, [], ◌∷◌, length, max, slice_get, Contains, refl, sym, ap, ◌∙◌, subst, arith}
use Rattle.std.proofs.lemmas.Option.{slice_get_within}
use Rattle.planar.specs.Plane.{Point, at}
use Rattle.tables.specs.Chains.{IsChain}
use Rattle.board_shapes.specs.Spans.{CommonLayer, InSpan}
use Rattle.board_shapes.specs.declared.probe.Probe.{Probe}
use Rattle.covers.specs.Agreeing.{AgreesWithNames, HasName, NoneMissing, NoneOpen, NoneShort}
use Rattle.covers.specs.Boards.{HasCopper, Joined, Layout, PointsJoined, TouchAt, UnderAt}
use Rattle.covers.specs.Covering.{Covers}
use Rattle.covers.specs.Laws.{KeepsJoins}
use Rattle.verdict.proofs.Chains.{AreJoined-trans}

-- ---- Layers and chains

common_first : (a b c d : ℕ) → CommonLayer a b c d → InSpan a b (max a c)
common_first a b c d h = (omega arith, omega arith)

common_second : (a b c d : ℕ) → CommonLayer a b c d → InSpan c d (max a c)
common_second a b c d h = (omega arith, omega arith)

common_layer : (a b c d layer : ℕ) → InSpan a b layer → InSpan c d layer → CommonLayer a b c d
common_layer a b c d layer h k = let l = h.0 in let m = h.1 in let n = k.0 in let o = k.1 in omega arith

-- ---- One board covers another

module _ (holds : ℕ → Point → Type 0) (b : Layout) (holds' : ℕ → Point → Type 0) (c : Layout) (over : Covers holds b holds' c) where
  -- piece j of the covering board is one of those that cover piece i
  abbrev pub IsOver : ℕ → ℕ → Type 0
  IsOver i j = Contains (over.pieces i).cover j

  pub under : (k i : ℕ) → UnderAt holds b k i → (j : ℕ) × IsOver i j × UnderAt holds' c k j
  under k i u =
      let there = (over.pieces i).covers u.probe.layer (at u.probe.at) (record { span = u.span; span_is = u.span_is; layers = u.layer; place = u.place }) in (
        there.0,
        there.1,
        record {
          span = there.2.span;
          probe = u.probe;
          span_is = there.2.span_is;
          probe_is = ap (λ (ps : List Probe). slice_get ps k) over.probes ∙ u.probe_is;
          layer = there.2.layers;
          place = there.2.place;
        },
      )

  touch : (i j : ℕ) → TouchAt holds b i j → (p : ℕ) × (q : ℕ) × IsOver i p × IsOver j q × TouchAt holds' c p q
  touch i j t =
      let layer : ℕ = max t.first.top t.second.top in
      let one = (over.pieces i).covers layer t.share.point (record { span = t.first; span_is = t.first_is; layers = common_first t.first.top t.first.bottom t.second.top t.second.bottom t.layer; place = t.share.in_first }) in
      let two = (over.pieces j).covers layer t.share.point (record { span = t.second; span_is = t.second_is; layers = common_second t.first.top t.first.bottom t.second.top t.second.bottom t.layer; place = t.share.in_second }) in (
        one.0,
        two.0,
        one.1,
        two.1,
        record {
          first = one.2.span;
          second = two.2.span;
          first_is = one.2.span_is;
          second_is = two.2.span_is;
          layer = common_layer one.2.span.top one.2.span.bottom two.2.span.top two.2.span.bottom layer one.2.layers two.2.layers;
          share = record { point = t.share.point; in_first = one.2.place; in_second = two.2.place };
        },
      )

  -- pieces over the ends of a chain are joined
  chain : (pieces : List ℕ) (i j : ℕ) → IsChain (TouchAt holds b) i pieces j → (p q : ℕ) → IsOver i p → IsOver j q → Joined holds' c p q
  chain [] i j same p q here there = (over.pieces i).joined p q here (subst (λ (n : ℕ). IsOver n q) (sym same) there)
  chain (next ∷ rest) i j (touches, more) p q here there =
      let t = touch i next touches in
      let near : ℕ → ℕ → Type 0 = TouchAt holds' c in
      AreJoined-trans near p t.0 q ((over.pieces i).joined p t.0 here t.2) (AreJoined-trans near t.0 t.1 q (t.1 ∷ [], (t.4, refl)) (chain rest next j more t.1 q t.3 there))

  pub joined : (k l : ℕ) → PointsJoined holds b k l → PointsJoined holds' c k l
  joined k l both =
      let one = under k both.i both.first in
      let two = under l both.j both.last in
      record { i = one.0; j = two.0; first = one.2; last = two.2; joined = chain both.joined.0 both.i both.j both.joined.1 one.0 two.0 one.1 two.1 }

  pub keeps : KeepsJoins holds b holds' c
  keeps = record { joined = joined; copper = λ k (i, is). (let there = under k i is in (there.0, there.2)) }

-- ---- A board between two

named_on : (b c : Layout) → c.probes ≡ b.probes → (k name : ℕ) → HasName b k name → HasName c k name
named_on b c same k name (probe, there, named) = (probe, ap (λ (ps : List Probe). slice_get ps k) same ∙ there, named)

pub between : (below : ℕ → Point → Type 0) (lower : Layout) (holds : ℕ → Point → Type 0) (real : Layout) (above : ℕ → Point → Type 0) (upper : Layout) → Covers below lower holds real → Covers holds real above upper
    → KeepsJoins below lower holds real → KeepsJoins holds real above upper → NoneMissing below lower → NoneOpen below lower → NoneShort above upper → AgreesWithNames holds real
between below lower holds real above upper over under from to missing opens shorts =
    let copper : (k name : ℕ) → HasName real k name → HasCopper below lower k = λ k name (probe, there, named). missing k (slice_get_within lower.probes k probe (ap (λ (ps : List Probe). slice_get ps k) (sym over.probes) ∙ there)) in
    record {
      missing = λ k within. from.copper k (missing k (subst (λ (ps : List Probe). k < length ps) over.probes within));
      opens = λ k l name text there named one two has also. from.joined k l (opens k l name text (ap (λ (ns : List (List ℕ)). slice_get ns name) (sym over.names) ∙ there) named (named_on real lower (sym over.probes) k name one) (named_on real lower (sym over.probes) l name two) (copper k name one) (copper l name two));
      shorts = λ k l name other one two differ joined. shorts k l name other (named_on real upper under.probes k name one) (named_on real upper under.probes l other two) differ (to.joined k l joined);
    }
