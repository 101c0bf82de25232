-- The barrels of a file have room, and stand on the layers of the span.
use Rattle.std.proofs.Common.{◌≡◌, ℕ, ◌+◌, ◌≤◌, Bool, true, false, List, [], ◌∷◌, length, All, Result, Ok, Err, IfOk, sym, ap, subst, arith}
use Rattle.std.proofs.lemmas.List.{length-append, length-map}
use Rattle.std.proofs.lemmas.List.Elements.{All-append, All-nil}
use Rattle.board_shapes.specs.Plain.{PlainPiece, plain_piece, plain_pieces}
use Rattle.board_shapes.specs.declared.placed.Placed.{Placed}
use Rattle.board_shapes.specs.declared.shape.Shape.{Shape}
use Rattle.file_reading.specs.Reading.{Clean, said}
use Rattle.xnc.specs.declared.line.DrillLine.{DrillLine}
use Rattle.xnc.specs.Places.{Place}
use Rattle.xnc.specs.DrillEffects.{Known, effect}
use Rattle.xnc.specs.Settings.{piece_of, known_with}
use Rattle.xnc.proofs.Placing.{effect_room, one_more, InSpan, piece_spans, each_piece}
use Rattle.drill_forms.specs.declared.form.FormLine.{FormLine}
use Rattle.drill_forms.specs.History.{barrels_at, effect_at, is_bare_at, kept, line_at, lines_at}
use Rattle.drill_forms.specs.FormFile.{IsRead}

kept_few : (b : Bool) (pieces : List PlainPiece) → length (kept b pieces) ≤ length pieces
kept_few true pieces = omega arith
kept_few false pieces = omega arith

few_barrels : (p : Place) (earlier : List FormLine) → Clean (effect_at p) earlier → length (barrels_at p earlier) ≤ p.room
unfolding barrels_at
few_barrels p [] clean = omega arith
few_barrels p (f ∷ earlier) clean =
    let k : Known = known_with p (lines_at earlier) (length (barrels_at p earlier)) in
    let l : DrillLine = line_at earlier f in
    let piece : List PlainPiece = piece_of p (length earlier + 1) (effect k l) in
    let fits = one_more p k (length earlier + 1) (effect k l) clean.0 (effect_room k l) (few_barrels p earlier clean.1) in
    let fewer = kept_few (is_bare_at earlier) piece in
    rw (length-append (barrels_at p earlier) (kept (is_bare_at earlier) piece)) (omega (arith, fits, fewer))

kept_spans : (p : Place) (b : Bool) (pieces : List PlainPiece) → All (InSpan p) pieces → All (InSpan p) (kept b pieces)
kept_spans p true pieces all = All-nil (InSpan p)
kept_spans p false pieces all = all

barrels_span : (p : Place) (earlier : List FormLine) → All (InSpan p) (barrels_at p earlier)
unfolding barrels_at
barrels_span p [] = All-nil (InSpan p)
barrels_span p (f ∷ earlier) =
    let k : Known = known_with p (lines_at earlier) (length (barrels_at p earlier)) in
    let piece : List PlainPiece = piece_of p (length earlier + 1) (effect k (line_at earlier f)) in
    All-append (InSpan p) (barrels_at p earlier) (kept (is_bare_at earlier) piece) (barrels_span p earlier) (kept_spans p (is_bare_at earlier) piece (piece_spans p (length earlier + 1) (effect k (line_at earlier f))))

pub few_read : {E V : Type 0} (items : V → List (Placed Shape)) (r : Result V E) (file : List ℕ) (p : Place) → IfOk r (λ v. IsRead file p (plain_pieces (items v))) → IfOk r (λ v. length (items v) ≤ p.room)
few_read items (Ok v) file p read =
    let few = few_barrels p (said read.earlier) read.whole.clean in
    let are : length (plain_pieces (items v)) ≡ length (barrels_at p (said read.earlier)) = ap (λ (xs : List PlainPiece). length xs) read.is in
    omega (arith, few, are, length-map (items v) plain_piece)
few_read items (Err why) file p read = tt

pub span_read : {E V : Type 0} (items : V → List (Placed Shape)) (r : Result V E) (file : List ℕ) (p : Place) → IfOk r (λ v. IsRead file p (plain_pieces (items v))) → IfOk r (λ v. All (λ q. (q.top ≡ p.from) × (q.bottom ≡ p.to)) (items v))
span_read items (Ok v) file p read = each_piece p (items v) (subst (λ xs. All (InSpan p) xs) (sym read.is) (barrels_span p (said read.earlier)))
span_read items (Err why) file p read = tt
