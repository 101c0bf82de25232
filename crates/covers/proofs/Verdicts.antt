-- What a right verdict without findings says of its board.
use Rattle.std.proofs.Common.{◌≡◌, inl, inr, ℕ, zero, suc, ◌+◌, List, [], ◌∷◌, length, Contains, Option, Some, None, slice_get, refl, sym, ap, ◌∙◌, subst, arith}
use Rattle.std.proofs.lemmas.Bool.{cases_eq}
use Rattle.std.proofs.lemmas.Option.{get_or_from_slice_get, same_Some, slice_get-map, slice_get_cases, slice_get_within}
use Rattle.std.specs.Option.{option_map}
use Rattle.board_shapes.specs.Lawful.{IsProbe}
use Rattle.board_shapes.specs.LawfulBoard.{IsLawfulBoard}
use Rattle.board_shapes.specs.Plain.{PlainBoard}
use Rattle.board_shapes.specs.Tables.{IsTables, point_of}
use Rattle.tables.specs.Tables.{Tables, TestPoint}
use Rattle.verdict.specs.Right.{AreLines, Bare, IsOn, IsRight, Points, bare_from}
use Rattle.verdict.specs.declared.verdict.PointLine.{PointLine}
use Rattle.verdict.specs.declared.verdict.Verdict.{Verdict}
use Rattle.verdict.specs.declared.verdict.Twig.{Twig}
use Rattle.witness_check.specs.BoardLaws.{HasName as IsNamed, NetNumbersJoinProbes, OpensCoverNamesOf, ShortsHavePathsOn}
use Rattle.witness_check.specs.Laws.{IsSeated}
use Rattle.witness_check.proofs.Bare.{opened_some, opened_none}
use Rattle.covers.specs.Agreeing.{HasName, NoneMissing, NoneOpen, NoneShort}
use Rattle.covers.specs.Boards.{PointsJoined}
use Rattle.covers.specs.Laws.{Decides, KeepsJoins}
use Rattle.covers.specs.Plain.{InPiece, layout_of}
use Rattle.covers.proofs.Plain.{joined_as, joined_back, under_as, under_back}

none_there : {X : Type 0} (xs : List X) (x : X) → xs ≡ [] → Contains xs x → ⊥
none_there xs x none (k, below, same) = let e : length xs ≡ 0 = ap length none in omega arith

-- ---- The lines of test points

-- the line of a test point has its name
line_of : (nets : List (List Twig)) (beneath : List (List ℕ)) (points : List TestPoint) (lines : List PointLine) (k : ℕ) (point : TestPoint) → AreLines nets beneath points lines → slice_get points k ≡ Some point → (line : PointLine) × (slice_get lines k ≡ Some line) × (line.name ≡ point.name)
line_of nets beneath [] lines k point all here = cc
line_of nets [] (p ∷ points) lines k point all here = absurd all
line_of nets (u ∷ beneath) (p ∷ points) [] k point all here = absurd all
line_of nets (u ∷ beneath) (p ∷ points) (l ∷ lines) zero point (first, rest) here = (l, refl, first.name ∙ ap (λ (x : TestPoint). x.name) (same_Some p point here))
line_of nets (u ∷ beneath) (p ∷ points) (l ∷ lines) (suc k) point (first, rest) here = line_of nets beneath points lines k point rest here

on_net : (net : Option ℕ) → (net ≡ None → ⊥) → (n : ℕ) × (net ≡ Some n)
on_net None never = absurd (never refl)
on_net (Some n) never = (n, refl)

-- where no point is without a net, the first has one
first_netted : (n : ℕ) (line : PointLine) (rest : List PointLine) → bare_from n (line ∷ rest) ≡ [] → (net : ℕ) × (line.net ≡ Some net)
first_netted n line rest none = on_net line.net (λ bare. none_there (n ∷ bare_from (n + 1) rest) n (sym (opened_none n line rest bare) ∙ none) (0, omega arith, refl))

-- and so has each
netted : (n : ℕ) (lines : List PointLine) → bare_from n lines ≡ [] → (k : ℕ) (line : PointLine) → slice_get lines k ≡ Some line → (net : ℕ) × (line.net ≡ Some net)
netted n [] none k line here = cc
netted n (l ∷ lines) none zero line here =
    let first = first_netted n l lines none in
    (first.0, subst (λ (x : PointLine). x.net ≡ Some first.0) (same_Some l line here) first.1)
netted n (l ∷ lines) none (suc k) line here =
    let first = first_netted n l lines none in
    netted (n + 1) lines (sym (opened_some n first.0 l lines first.1) ∙ none) k line here

-- each test point has a net
seated : (b : PlainBoard) (v : Verdict) (t : Tables) → IsTables b t → IsRight t v → v.bare ≡ [] → (k name : ℕ) → HasName (layout_of b) k name → (net : ℕ) × IsSeated v k name net
seated b v t is right bare k name (probe, there, named) =
    let point : slice_get t.points k ≡ Some (point_of probe) = ap (λ (ps : List TestPoint). slice_get ps k) is.points ∙ (slice_get-map point_of b.probes k ∙ ap (option_map point_of) there) in
    let line = line_of v.nets t.beneath t.points v.points k (point_of probe) (right Points) point in
    let net = netted 0 v.points (sym (right Bare) ∙ bare) k line.0 line.1 in
    (net.0, (line.0, line.1, line.2 ∙ named, net.1))

on_of : (v : Verdict) (k name net : ℕ) → IsSeated v k name net → IsOn v k net
on_of v k name net (line, there, named, on) = (line, there, on)

-- ---- The lower board

pub none_missing : (b : PlainBoard) (v : Verdict) (t : Tables) → IsTables b t → IsRight t v → NetNumbersJoinProbes b v → v.bare ≡ [] → NoneMissing (InPiece b) (layout_of b)
none_missing b v t is right joins bare k below = elim (slice_get_cases b.probes k).1 [
  | inl (probe, within, there, same) ↦ (
      let seat = seated b v t is right bare k probe.name (probe, there, refl) in
      let on = on_of v k probe.name seat.0 seat.1 in
      let self = (joins.joined k k).0 (seat.0, on, on) in
      (self.i, under_as b k self.i self.first)
      )
  | inr (past, none) ↦ absurd (omega arith)
]

pub none_open : (b : PlainBoard) (v : Verdict) (t : Tables) → IsTables b t → IsRight t v → NetNumbersJoinProbes b v → OpensCoverNamesOf b v → v.opens ≡ [] → v.bare ≡ [] → NoneOpen (InPiece b) (layout_of b)
none_open b v t is right joins covers opens bare k l name text there connected one two has also =
    let n = seated b v t is right bare k name one in
    let m = seated b v t is right bare l name two in
    let joined : n.0 ≡ m.0 → PointsJoined (InPiece b) (layout_of b) k l = λ same. joined_as b k l ((joins.joined k l).0 (n.0, on_of v k name n.0 n.1, subst (λ (x : ℕ). IsOn v l x) (sym same) (on_of v l name m.0 m.1))) in
    elim (cases_eq n.0 m.0) [
      | inl same ↦ joined same
      | inr differ ↦ absurd (elim (covers.listed k l name n.0 m.0 text there connected n.1 m.1 differ).0 [
        | inl other ↦ none_there v.opens other.entry opens other.listed
        | inr other ↦ none_there v.opens other.entry opens other.listed
      ])
    ]

-- ---- The upper board

named_as : (b : PlainBoard) → IsLawfulBoard b → (k name : ℕ) → HasName (layout_of b) k name → IsNamed b k name
named_as b lawful k name (probe, there, named) =
    let known : IsProbe (length b.names) b.layers probe = subst (IsProbe (length b.names) b.layers) (get_or_from_slice_get b.probes k probe probe there) (lawful.known k probe (slice_get_within b.probes k probe there)) in
    let below = known.named in
    (probe, there, named, omega arith)

pub none_short : (b : PlainBoard) (w : Verdict) → IsLawfulBoard b → ShortsHavePathsOn b w → w.shorts ≡ [] → NoneShort (InPiece b) (layout_of b)
none_short b w lawful paths none k l name other one two differ joined =
    let found = paths k l name other (named_as b lawful k name one) (named_as b lawful l other two) differ (joined_back b k l joined) in
    none_there w.shorts found.3.short none found.3.listed

-- ---- What both say

pub decided : (lower upper : PlainBoard) (v w : Verdict) (holds : _) (real : _) → KeepsJoins (InPiece lower) (layout_of lower) holds real → KeepsJoins holds real (InPiece upper) (layout_of upper) → NetNumbersJoinProbes lower v → NetNumbersJoinProbes upper w → Decides v w holds real
decided lower upper v w holds real from to below above = record {
  shorts = λ k l one. from.joined k l (joined_as lower k l ((below.joined k l).0 one));
  opens = λ k l joined. (above.joined k l).1 (joined_back upper k l (to.joined k l joined));
  missing = λ k without copper. (let there = to.copper k copper in let under = under_back upper k there.0 there.1 in above.unjoined k k without (record { i = there.0; j = there.0; first = under; last = under; joined = ([], refl) }));
}
