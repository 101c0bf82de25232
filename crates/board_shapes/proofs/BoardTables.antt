-- The tables of a board: they are there, they are the only ones, and they tell what the board joins.
use Rattle.std.proofs.Common.{◌≡◌, ◌≢◌, ◌↔◌, inl, inr, ℕ, ◌<◌, List, [], ◌∷◌, length, map, All, refl, sym, ◌∙◌, ap, subst, arith}
use Rattle.std.proofs.lemmas.Bool.{cases_eq}
use Rattle.std.proofs.lemmas.Option.{slice_get_within}
use Rattle.planar.specs.Plane.{at}
use Rattle.contact.specs.RoundLaws.{turned}
use Rattle.tables.specs.Chains.{AreJoined, IsChain}
use Rattle.tables.specs.Consistent.{AreConsistent, ArePointsJoined}
use Rattle.tables.specs.Tables.{Source, Tables, TestPoint, Stands}
use Rattle.tables.proofs.Listing.{rows_of, rows_are_one, stands_as, stands_where}
use Rattle.board_shapes.specs.declared.probe.Probe.{Probe}
use Rattle.board_shapes.specs.Figures.{InFigure, IsLawfulFigure}
use Rattle.board_shapes.specs.LawfulBoard.{IsLawfulBoard}
use Rattle.board_shapes.specs.Laws.{HasOneTables}
use Rattle.board_shapes.specs.Plain.{PlainBoard}
use Rattle.board_shapes.specs.Tables.{IsNear, IsTables, point_of, source_of}
use Rattle.board_shapes.specs.Touching.{CommonLayer, InSpan, ProbesJoined, Touch, TouchAt, UnderAt}
use Rattle.board_shapes.proofs.Deciding.{near_decided, under_at_decided}

-- ---- One set of tables

touch_within : (b : PlainBoard) (i j : ℕ) → TouchAt b i j → (i < length b.pieces) × (j < length b.pieces)
touch_within b i j t = (slice_get_within b.pieces i t.first t.first_is, slice_get_within b.pieces j t.second t.second_is)

under_within : (b : PlainBoard) (k i : ℕ) → UnderAt b k i → (k < length b.probes) × (i < length b.pieces)
under_within b k i u = (slice_get_within b.probes k u.probe u.probe_is, slice_get_within b.pieces i u.piece u.piece_is)

pub tables_are_there : (b : PlainBoard) → All (λ p. IsLawfulFigure p.figure) b.pieces → (t : Tables) × IsTables b t
tables_are_there b lawful =
    let near = rows_of (IsNear b) (near_decided b lawful) (length b.pieces) (λ i j h. (touch_within b i j h.1).1) (length b.pieces) in
    let beneath = rows_of (UnderAt b) (under_at_decided b) (length b.pieces) (λ k i h. (under_within b k i h).1) (length b.probes) in
    (record { near = near.0; beneath = beneath.0; points = map point_of b.probes; sources = map source_of b.pieces; names = b.names }, record { near = near.1; beneath = beneath.1; points = refl; sources = refl; names = refl })

abbrev made : List (List ℕ) → List (List ℕ) → List TestPoint → List Source → List (List ℕ) → Tables
made near beneath points sources names = record { near = near; beneath = beneath; points = points; sources = sources; names = names }

same_tables : (t u : Tables) → t.near ≡ u.near → t.beneath ≡ u.beneath → t.points ≡ u.points → t.sources ≡ u.sources → t.names ≡ u.names → t ≡ u
same_tables t u e f g h i =
    ap (λ (x : List (List ℕ)). made x t.beneath t.points t.sources t.names) e ∙ ap (λ (x : List (List ℕ)). made u.near x t.points t.sources t.names) f
    ∙ ap (λ (x : List TestPoint). made u.near u.beneath x t.sources t.names) g ∙ ap (λ (x : List Source). made u.near u.beneath u.points x t.names) h
    ∙ ap (λ (x : List (List ℕ)). made u.near u.beneath u.points u.sources x) i

pub tables_are_one : (b : PlainBoard) (t u : Tables) → IsTables b t → IsTables b u → t ≡ u
tables_are_one b t u h k =
    same_tables t u (rows_are_one (length b.pieces) (IsNear b) t.near u.near h.near k.near) (rows_are_one (length b.probes) (UnderAt b) t.beneath u.beneath h.beneath k.beneath)
    (h.points ∙ sym k.points) (h.sources ∙ sym k.sources) (h.names ∙ sym k.names)

pub tables_are_unique : (b : PlainBoard) → IsLawfulBoard b → HasOneTables b
tables_are_unique b lawful = (let found = tables_are_there b lawful.figures in record { tables = found.0; are = found.1; only = λ other h. tables_are_one b other found.0 h found.1 })

-- ---- Two pieces under one probe

layers_meet : (top bottom top' bottom' layer : ℕ) → InSpan top bottom layer → InSpan top' bottom' layer → CommonLayer top bottom top' bottom'
layers_meet top bottom top' bottom' layer h k = omega arith

pub under_one : (b : PlainBoard) (k i j : ℕ) → UnderAt b k i → UnderAt b k j → TouchAt b i j
under_one b k i j u v = record { first = u.piece; second = v.piece; first_is = u.piece_is; second_is = v.piece_is; touch = touch }
  where
    same : v.probe ≡ u.probe
    same = (let e = sym v.probe_is ∙ u.probe_is in cc)

    other : InSpan v.piece.top v.piece.bottom u.probe.layer × InFigure v.piece.figure (at u.probe.at)
    other = subst (λ (p : Probe). InSpan v.piece.top v.piece.bottom p.layer × InFigure v.piece.figure (at p.at)) same v.under

    touch : Touch u.piece v.piece
    touch = (layers_meet u.piece.top u.piece.bottom v.piece.top v.piece.bottom u.probe.layer u.under.0 other.0, record { point = at u.probe.at; in_first = u.under.1; in_second = other.1 })

-- ---- What the tables tell

pub layers_turn : (top bottom top' bottom' : ℕ) → CommonLayer top bottom top' bottom' → CommonLayer top' bottom' top bottom
layers_turn top bottom top' bottom' h = omega arith

pub touch_turned : (b : PlainBoard) (i j : ℕ) → TouchAt b i j → TouchAt b j i
touch_turned b i j t = record { first = t.second; second = t.first; first_is = t.second_is; second_is = t.first_is; touch = (layers_turn t.first.top t.first.bottom t.second.top t.second.bottom t.touch.0, turned t.touch.1) }

near_as : (b : PlainBoard) (t : Tables) → IsTables b t → (i j : ℕ) → Stands t.near i j → IsNear b i j
near_as b t h i j s = stands_as (length b.pieces) (IsNear b) t.near h.near i j s

near_where : (b : PlainBoard) (t : Tables) → IsTables b t → (i j : ℕ) → j ≢ i → TouchAt b i j → Stands t.near i j
near_where b t h i j other touch = stands_where (length b.pieces) (IsNear b) t.near h.near i j (touch_within b i j touch).0 (other, touch)

under_as : (b : PlainBoard) (t : Tables) → IsTables b t → (k i : ℕ) → Stands t.beneath k i → UnderAt b k i
under_as b t h k i s = stands_as (length b.probes) (UnderAt b) t.beneath h.beneath k i s

under_where : (b : PlainBoard) (t : Tables) → IsTables b t → (k i : ℕ) → UnderAt b k i → Stands t.beneath k i
under_where b t h k i u = stands_where (length b.probes) (UnderAt b) t.beneath h.beneath k i (under_within b k i u).0 u

pub tables_are_consistent : (b : PlainBoard) (t : Tables) → IsTables b t → AreConsistent t
tables_are_consistent b t h = record {
  known = λ p q s. (let w = (touch_within b p q (near_as b t h p q s).1).1 in let m = h.near.many in omega arith);
  both = λ p q s. (let n = near_as b t h p q s in near_where b t h q p (λ e. n.0 (sym e)) (touch_turned b p q n.1));
  under = λ k p s. (let w = (under_within b k p (under_as b t h k p s)).1 in let m = h.near.many in omega arith);
  close = λ k p q s r. elim (cases_eq q p) [
    | inl same ↦ inl (sym same)
    | inr other ↦ inr (near_where b t h p q other (under_one b k p q (under_as b t h k p s) (under_as b t h k q r)))
  ];
}

into_tables : (b : PlainBoard) (t : Tables) → IsTables b t → (i j : ℕ) (chain : List ℕ) → IsChain (TouchAt b) i chain j → AreJoined (Stands t.near) i j
into_tables b t h i j [] same = ([], same)
into_tables b t h i j (next ∷ rest) (touch, onward) =
    let later = into_tables b t h next j rest onward in
    elim (cases_eq next i) [
      | inl same ↦ subst (λ (x : ℕ). AreJoined (Stands t.near) x j) same later
      | inr other ↦ (next ∷ later.0, (near_where b t h i next other touch, later.1))
    ]

from_tables : (b : PlainBoard) (t : Tables) → IsTables b t → (i j : ℕ) (chain : List ℕ) → IsChain (Stands t.near) i chain j → IsChain (TouchAt b) i chain j
from_tables b t h i j [] same = same
from_tables b t h i j (next ∷ rest) (stands, onward) = ((near_as b t h i next stands).1, from_tables b t h next j rest onward)

pub tables_join_probes : (b : PlainBoard) (t : Tables) → IsTables b t → (k l : ℕ) → ProbesJoined b k l ↔ ArePointsJoined t k l
tables_join_probes b t h k l = (
  λ j. record { p = j.i; q = j.j; first = under_where b t h k j.i j.first; last = under_where b t h l j.j j.last; joined = into_tables b t h j.i j.j j.joined.0 j.joined.1 },
  λ j. record { i = j.p; j = j.q; first = under_as b t h k j.p j.first; last = under_as b t h l j.q j.last; joined = (j.joined.0, from_tables b t h j.p j.q j.joined.0 j.joined.1) },
)
