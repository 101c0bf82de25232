-- Whether two pieces touch, and whether a piece is under a probe, is decided.
use Rattle.std.proofs.Common.{◌≡◌, ◌≢◌, inl, inr, ℕ, ◌≤◌, ◌<◌, List, length, All, Some, None, slice_get, slice_index_or, sym, ◌∙◌, subst, arith, max, min}
use Rattle.std.proofs.lemmas.Bool.{cases_eq, cases_lt}
use Rattle.std.proofs.lemmas.Option.{slice_get_cases}
use Rattle.planar.proofs.Decided.{Decided}
use Rattle.contact.specs.RoundLaws.{turned}
use Rattle.contact.specs.Solid.{SharePoint}
use Rattle.contact.proofs.Decided.{capsule_has_decided, capsules_decided}
use Rattle.area_contact.proofs.Decided.{area_has_decided, area_capsule_decided, areas_decided}
use Rattle.planar.specs.declared.Spot.{Spot}
use Rattle.planar.specs.Plane.{at}
use Rattle.board_shapes.specs.declared.probe.Probe.{Probe}
use Rattle.board_shapes.specs.Figures.{Figure, round, filled, InFigure, IsLawfulFigure}
use Rattle.board_shapes.specs.Plain.{PlainBoard, PlainPiece}
use Rattle.board_shapes.specs.Tables.{IsNear}
use Rattle.board_shapes.specs.Touching.{IsUnder, Touch, TouchAt, UnderAt}

both_decided : {P Q : Type 0} → Decided P → Decided Q → Decided (P × Q)
both_decided (inl h) (inl k) = inl (h, k)
both_decided (inl h) (inr k) = inr (λ b. k b.1)
both_decided (inr h) e = inr (λ b. h b.0)

le_decided : (m n : ℕ) → Decided (m ≤ n)
le_decided m n = elim (cases_lt n m) [ inl less ↦ inr (λ h. omega arith) | inr most ↦ inl most ]

other_decided : (i j : ℕ) → Decided (j ≢ i)
other_decided i j = elim (cases_eq j i) [ inl same ↦ inr (λ h. h same) | inr other ↦ inl other ]

swapped : {P Q : Type 0} → (P → Q) → (Q → P) → Decided P → Decided Q
swapped f g (inl h) = inl (f h)
swapped f g (inr h) = inr (λ q. h (g q))

share_decided : (f g : Figure) → IsLawfulFigure f → IsLawfulFigure g → Decided (SharePoint (InFigure f) (InFigure g))
share_decided (round s) (round t) h k = capsules_decided s.a s.b s.r t.a t.b t.r h k
share_decided (round s) (filled points) h k = swapped (λ m. turned m) (λ m. turned m) (area_capsule_decided points s.a s.b s.r k h)
share_decided (filled points) (round t) h k = area_capsule_decided points t.a t.b t.r h k
share_decided (filled points) (filled others) h k = areas_decided points others h k

has_decided : (f : Figure) (p : Spot) → Decided (InFigure f (at p))
has_decided (round s) p = capsule_has_decided s.a s.b s.r p
has_decided (filled points) p = area_has_decided points p

pub touch_decided : (p q : PlainPiece) → IsLawfulFigure p.figure → IsLawfulFigure q.figure → Decided (Touch p q)
touch_decided p q h k = both_decided (le_decided (max p.top q.top) (min p.bottom q.bottom)) (share_decided p.figure q.figure h k)

pub under_decided : (p : PlainPiece) (probe : Probe) → Decided (IsUnder p probe)
under_decided p probe = both_decided (both_decided (le_decided p.top probe.layer) (le_decided probe.layer p.bottom)) (has_decided p.figure probe.at)

-- ---- By number

-- what stands at a place of a list
some_one : {A : Type 0} (x y : A) → Some x ≡ Some y → x ≡ y
some_one x y e = cc

touch_found : (b : PlainBoard) (i j : ℕ) (p q : PlainPiece) → slice_get b.pieces i ≡ Some p → slice_get b.pieces j ≡ Some q → Decided (Touch p q) → Decided (TouchAt b i j)
touch_found b i j p q e f (inl h) = inl (record { first = p; second = q; first_is = e; second_is = f; touch = h })
touch_found b i j p q e f (inr h) = inr none
  where
    none : TouchAt b i j → ⊥
    none t =
        let first : t.first ≡ p = some_one t.first p (sym t.first_is ∙ e) in
        let second : t.second ≡ q = some_one t.second q (sym t.second_is ∙ f) in
        h (subst (λ (x : PlainPiece). Touch x q) first (subst (λ (y : PlainPiece). Touch t.first y) second t.touch))

lawful_at : (pieces : List PlainPiece) (i : ℕ) (p : PlainPiece) → All (λ q. IsLawfulFigure q.figure) pieces → i < length pieces → slice_index_or pieces i p ≡ p → IsLawfulFigure p.figure
lawful_at pieces i p all within same = subst (λ (q : PlainPiece). IsLawfulFigure q.figure) same (all i p within)

pub touch_at_decided : (b : PlainBoard) → All (λ p. IsLawfulFigure p.figure) b.pieces → (i j : ℕ) → Decided (TouchAt b i j)
touch_at_decided b lawful i j = elim (slice_get_cases b.pieces i).1 [
  | inl (p, within, e, same) ↦ elim (slice_get_cases b.pieces j).1 [
    | inl (q, below, f, equal) ↦ touch_found b i j p q e f (touch_decided p q (lawful_at b.pieces i p lawful within same) (lawful_at b.pieces j q lawful below equal))
    | inr (past, f) ↦ inr (λ t. no_piece t.second (sym t.second_is ∙ f))
  ]
  | inr (past, e) ↦ inr (λ t. no_piece t.first (sym t.first_is ∙ e))
]
  where
    no_piece : (p : PlainPiece) → Some p ≡ None → ⊥
    no_piece p e = cc

under_found : (b : PlainBoard) (k i : ℕ) (p : PlainPiece) (probe : Probe) → slice_get b.pieces i ≡ Some p → slice_get b.probes k ≡ Some probe → Decided (IsUnder p probe) → Decided (UnderAt b k i)
under_found b k i p probe e f (inl h) = inl (record { piece = p; probe = probe; piece_is = e; probe_is = f; under = h })
under_found b k i p probe e f (inr h) = inr none
  where
    none : UnderAt b k i → ⊥
    none u =
        let piece : u.piece ≡ p = some_one u.piece p (sym u.piece_is ∙ e) in
        let found : u.probe ≡ probe = some_one u.probe probe (sym u.probe_is ∙ f) in
        h (subst (λ (x : PlainPiece). IsUnder x probe) piece (subst (λ (y : Probe). IsUnder u.piece y) found u.under))

pub under_at_decided : (b : PlainBoard) (k i : ℕ) → Decided (UnderAt b k i)
under_at_decided b k i = elim (slice_get_cases b.pieces i).1 [
  | inl (p, within, e, same) ↦ elim (slice_get_cases b.probes k).1 [
    | inl (probe, below, f, equal) ↦ under_found b k i p probe e f (under_decided p probe)
    | inr (past, f) ↦ inr (λ u. no_probe u.probe (sym u.probe_is ∙ f))
  ]
  | inr (past, e) ↦ inr (λ u. no_piece u.piece (sym u.piece_is ∙ e))
]
  where
    no_piece : (p : PlainPiece) → Some p ≡ None → ⊥
    no_piece p e = cc

    no_probe : (p : Probe) → Some p ≡ None → ⊥
    no_probe p e = cc

pub near_decided : (b : PlainBoard) → All (λ p. IsLawfulFigure p.figure) b.pieces → (i j : ℕ) → Decided (IsNear b i j)
near_decided b lawful i j = both_decided (other_decided i j) (touch_at_decided b lawful i j)
