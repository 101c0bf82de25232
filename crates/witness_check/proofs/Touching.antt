-- Pieces of a board that touch, and pieces under its probes.
use Rattle.std.proofs.Common.{◌≡◌, ◌↔◌, ℕ, ◌<◌, IsTrue, Bool, List, Some, length, get_or, slice_get, sym, ap, subst, ◌∙◌}
use Rattle.std.proofs.lemmas.List.{length-map}
use Rattle.std.proofs.lemmas.Option.{slice_get-get_or, slice_get-map}
use Rattle.std.specs.Option.{option_map}
use Rattle.board_shapes.specs.Plain.{PlainBoard, PlainPiece, plain_piece, plain_pieces}
use Rattle.board_shapes.specs.Tables.{IsNear}
use Rattle.board_shapes.specs.Touching.{IsUnder, Touch, UnderAt}
use Rattle.board_shapes.specs.declared.placed.Placed.{Placed}
use Rattle.board_shapes.specs.declared.probe.Probe.{Probe}
use Rattle.board_shapes.specs.declared.shape.Shape.{Shape}
use Rattle.board_shapes.proofs.BoardTables.{layers_turn}
use Rattle.contact.specs.RoundLaws.{turned}

pub near_turned : (b : PlainBoard) (p q : ℕ) → IsNear b p q → IsNear b q p
near_turned b p q (other, t) = ((λ e. other (sym e)), record { first = t.second; second = t.first; first_is = t.second_is; second_is = t.first_is; touch = (layers_turn t.first.top t.first.bottom t.second.top t.second.bottom t.touch.0, turned t.touch.1) })

some_one : {A : Type 0} (a b : A) → Some a ≡ Some b → a ≡ b
some_one a b e = cc

pub long_as : (b : PlainBoard) (items : List (Placed Shape)) → plain_pieces items ≡ b.pieces → length b.pieces ≡ length items
long_as b items plain = ap (λ (ps : List PlainPiece). length ps) (sym plain) ∙ length-map items plain_piece

pub piece_there : (b : PlainBoard) (items : List (Placed Shape)) (p : ℕ) (x : Placed Shape) → plain_pieces items ≡ b.pieces → slice_get items p ≡ Some x → slice_get b.pieces p ≡ Some (plain_piece x)
piece_there b items p x plain is = ap (λ (ps : List PlainPiece). slice_get ps p) (sym plain) ∙ (slice_get-map plain_piece items p ∙ ap (option_map plain_piece) is)

pub probe_there : (b : PlainBoard) (probes : List Probe) (k : ℕ) (d : Probe) → probes ≡ b.probes → k < length b.probes → slice_get b.probes k ≡ Some (get_or probes k d)
probe_there b probes k d same below = subst (λ (ps : List Probe). slice_get b.probes k ≡ Some (get_or ps k d)) (sym same) (slice_get-get_or b.probes k d below)

pub near_is : (b : PlainBoard) (p q : ℕ) (one two : PlainPiece) (is : Bool) → slice_get b.pieces p ≡ Some one → slice_get b.pieces q ≡ Some two → (q ≡ p → ⊥) → IsTrue is ↔ Touch one two → IsTrue is ↔ IsNear b p q
near_is b p q one two is here there other told = (
  λ h. (other, record { first = one; second = two; first_is = here; second_is = there; touch = told.0 h }),
  λ n. told.1 (
      let t = n.1 in
      let first : t.first ≡ one = some_one t.first one (sym t.first_is ∙ here) in
      let second : t.second ≡ two = some_one t.second two (sym t.second_is ∙ there) in
      subst (λ (x : PlainPiece). Touch x two) first (subst (λ (x : PlainPiece). Touch t.first x) second t.touch)
      ),
)

pub under_is : (b : PlainBoard) (k p : ℕ) (piece : PlainPiece) (probe : Probe) (is : Bool) → slice_get b.pieces p ≡ Some piece → slice_get b.probes k ≡ Some probe → IsTrue is ↔ IsUnder piece probe → IsTrue is ↔ UnderAt b k p
under_is b k p piece probe is here there told = (
  λ h. record { piece = piece; probe = probe; piece_is = here; probe_is = there; under = told.0 h },
  λ u. told.1 (
      let first : u.piece ≡ piece = some_one u.piece piece (sym u.piece_is ∙ here) in
      let second : u.probe ≡ probe = some_one u.probe probe (sym u.probe_is ∙ there) in
      subst (λ (x : PlainPiece). IsUnder x probe) first (subst (λ (x : Probe). IsUnder u.piece x) second u.under)
      ),
)
