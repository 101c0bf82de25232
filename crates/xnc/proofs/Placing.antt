-- The barrels of a file have room, and stand on the layers of the span.
use Rattle.std.proofs.Common.{◌≡◌, ℕ, ◌+◌, ◌<◌, ◌≤◌, Bool, true, false, nat_le, cond, List, [], ◌∷◌, length, All, Result, Ok, Err, IsOk, IfOk, is_none, not, refl, sym, ap, subst, arith}
use Rattle.std.proofs.lemmas.Bool.{leb-false}
use Rattle.std.proofs.lemmas.List.{length-append, length-map, get_or-map}
use Rattle.std.proofs.lemmas.List.Elements.{All-append, All-cons, All-nil}
use Rattle.planar.specs.declared.Spot.{Spot}
use Rattle.board_shapes.specs.Plain.{PlainPiece, plain_piece, plain_pieces, round}
use Rattle.board_shapes.specs.declared.placed.Placed.{Placed}
use Rattle.board_shapes.specs.declared.shape.Shape.{Shape}
use Rattle.file_reading.specs.Reading.{Clean, said}
use Rattle.xnc.specs.declared.kind.DrillKind.{DrillKind}
use Rattle.xnc.specs.declared.kind.DrillKind.TheVariants as kind
use Rattle.xnc.specs.declared.line.Coordinates.{Coordinates}
use Rattle.xnc.specs.declared.line.DrillLine.{DrillLine}
use Rattle.xnc.specs.declared.line.DrillLine.TheVariants as form
use Rattle.xnc.specs.Places.{Place}
use Rattle.xnc.specs.DrillEffects.{Known, Effect, stays, makes, moves, drills, ◌>>=◌, unless, is_drilling, target, diameter, half, barrel, rout, straight, hit, slot, header, body, effect}
use Rattle.xnc.specs.Settings.{piece_of, barrels_at, known_at, effect_at}
use Rattle.xnc.specs.DrillFile.{IsRead}
use Rattle.xnc.proofs.Outcome.{bind_ok, past_test, no_ok, placed, outcome}

-- a barrel has room
abbrev pub HasRoom : Known → Effect → Type 0
HasRoom k stays = Unit {0}
HasRoom k (makes n d) = Unit {0}
HasRoom k (moves to) = Unit {0}
HasRoom k (drills to figure) = k.pieces < k.room

same_effect : (k : Known) (made e : Effect) → ◌≡◌ {A = Result Effect DrillKind} (Ok made) (Ok e) → HasRoom k made → HasRoom k e
same_effect k made e h room = let same : made ≡ e = cc in subst (λ x. HasRoom k x) same room

stays_room : (k : Known) (e : Effect) → e ≡ stays → HasRoom k e
stays_room k e h = subst (λ x. HasRoom k x) (sym h) tt

barrel_room : (k : Known) (from to : Spot) (e : Effect) → barrel k from to ≡ Ok e → HasRoom k e
unfolding barrel
barrel_room k from to e h = by (nat_le k.room k.pieces) refl h
  where
    by : (b : Bool) → nat_le k.room k.pieces ≡ b → cond b (Err kind.TooManyPieces) (Ok (drills to (round (record { a = from; b = to; r = half (diameter k) })))) ≡ Ok e → HasRoom k e
    by true test h = absurd (no_ok kind.TooManyPieces e h)
    by false test h = same_effect k (drills to (round (record { a = from; b = to; r = half (diameter k) }))) e h (leb-false k.room k.pieces test)

rout_room : (k : Known) (c : Coordinates) (e : Effect) → rout k c ≡ Ok e → HasRoom k e
unfolding rout
rout_room k c e h =
    let t = bind_ok (target k.settings.unit k.settings.at c) (λ to. Ok (moves to)) e h in
    same_effect k (moves t.0) e t.2 tt

straight_room : (k : Known) (c : Coordinates) (e : Effect) → straight k c ≡ Ok e → HasRoom k e
unfolding straight
straight_room k c e h =
    let t = bind_ok (target k.settings.unit k.settings.at c) (λ to. barrel k k.settings.at to) e h in
    barrel_room k k.settings.at t.0 e t.2

hit_room : (k : Known) (c : Coordinates) (e : Effect) → hit k c ≡ Ok e → HasRoom k e
unfolding hit
hit_room k c e h =
    let t = bind_ok (target k.settings.unit k.settings.at c) (λ at. barrel k at at) e h in
    barrel_room k t.0 t.0 e t.2

slot_room : (k : Known) (from to : Coordinates) (e : Effect) → slot k from to ≡ Ok e → HasRoom k e
unfolding slot
slot_room k from to e h =
    let f = bind_ok (target k.settings.unit k.settings.at from) (λ from. target k.settings.unit from to >>= λ to. barrel k from to) e h in
    let t = bind_ok (target k.settings.unit f.0 to) (λ to. barrel k f.0 to) e f.2 in
    barrel_room k f.0 t.0 e t.2

pub effect_room : (k : Known) (f : DrillLine) (e : Effect) → effect k f ≡ Ok e → HasRoom k e
unfolding effect header body
effect_room k (form.Tool n d) e h = let made = outcome k (form.Tool n d) e h in subst (λ x. HasRoom k x) (sym made.is) tt
effect_room k (form.Rout to) e h = placed (HasRoom k e) k.settings.stage k (form.Rout to) e (λ s t. cc) (λ t. absurd (no_ok kind.BadLine e t)) (λ t. rout_room k to e (past_test k.settings.down kind.WrongMode (rout k to) e t)) h
effect_room k (form.Straight to) e h = placed (HasRoom k e) k.settings.stage k (form.Straight to) e (λ s t. cc) (λ t. absurd (no_ok kind.BadLine e t)) (λ t. straight_room k to e (past_test (not k.settings.down) kind.WrongMode (straight k to) e t)) h
effect_room k (form.Hit at) e h = placed (HasRoom k e) k.settings.stage k (form.Hit at) e (λ s t. cc) (λ t. absurd (no_ok kind.BadLine e t)) (λ t. hit_room k at e (past_test (is_none (diameter k)) kind.NoTool (hit k at) e (past_test (not (is_drilling k.settings.mode)) kind.WrongMode (unless (is_none (diameter k)) kind.NoTool (hit k at)) e t))) h
effect_room k (form.Slot from to) e h = placed (HasRoom k e) k.settings.stage k (form.Slot from to) e (λ s t. cc) (λ t. absurd (no_ok kind.BadLine e t)) (λ t. slot_room k from to e (past_test (is_none (diameter k)) kind.NoTool (slot k from to) e (past_test (not (is_drilling k.settings.mode)) kind.WrongMode (unless (is_none (diameter k)) kind.NoTool (slot k from to)) e t))) h
effect_room k other e h = stays_room k e (outcome k other e h)

-- a piece more, where there is room for it
pub one_more : (p : Place) (k : Known) (n : ℕ) (r : Result Effect DrillKind) → IsOk r → ((e : Effect) → r ≡ Ok e → HasRoom k e) → k.pieces ≤ k.room → k.pieces + length (piece_of p n r) ≤ k.room
one_more p k n (Ok stays) ok room few = omega arith
one_more p k n (Ok (makes m d)) ok room few = omega arith
one_more p k n (Ok (moves to)) ok room few = omega arith
one_more p k n (Ok (drills to figure)) ok room few = let more = room (drills to figure) refl in omega (arith, more)
one_more p k n (Err why) ok room few = omega arith

few_barrels : (p : Place) (earlier : List DrillLine) → Clean (effect_at p) earlier → length (barrels_at p earlier) ≤ p.room
unfolding barrels_at
few_barrels p [] clean = omega arith
few_barrels p (f ∷ earlier) clean =
    let k : Known = known_at p earlier in
    let fits = one_more p k (length earlier + 1) (effect k f) clean.0 (effect_room k f) (few_barrels p earlier clean.1) in
    rw (length-append (barrels_at p earlier) (piece_of p (length earlier + 1) (effect k f))) fits

-- the piece is on the layers of the span
abbrev pub InSpan : Place → PlainPiece → Type 0
InSpan p piece = (piece.top ≡ p.from) × (piece.bottom ≡ p.to)

pub piece_spans : (p : Place) (n : ℕ) (r : Result Effect DrillKind) → All (InSpan p) (piece_of p n r)
piece_spans p n (Ok stays) = All-nil (InSpan p)
piece_spans p n (Ok (makes m d)) = All-nil (InSpan p)
piece_spans p n (Ok (moves to)) = All-nil (InSpan p)
piece_spans p n (Ok (drills to figure)) = All-cons (InSpan p) _ [] (refl, refl) (All-nil (InSpan p))
piece_spans p n (Err why) = All-nil (InSpan p)

barrels_span : (p : Place) (earlier : List DrillLine) → All (InSpan p) (barrels_at p earlier)
unfolding barrels_at
barrels_span p [] = All-nil (InSpan p)
barrels_span p (f ∷ earlier) = All-append (InSpan p) (barrels_at p earlier) (piece_of p (length earlier + 1) (effect (known_at p earlier) f)) (barrels_span p earlier) (piece_spans p (length earlier + 1) (effect (known_at p earlier) f))

-- what holds of each of the plain pieces holds of the pieces
pub each_piece : (p : Place) (pieces : List (Placed Shape)) → All (InSpan p) (plain_pieces pieces) → All (λ q. (q.top ≡ p.from) × (q.bottom ≡ p.to)) pieces
each_piece p pieces h = λ i d below. subst (InSpan p) (get_or-map plain_piece pieces i d (plain_piece d) below) (h i (plain_piece d) (rw (length-map pieces plain_piece) below))

pub few_read : {E V : Type 0} (items : V → List (Placed Shape)) (r : Result V E) (file : List ℕ) (p : Place) → IfOk r (λ v. IsRead file p (plain_pieces (items v))) → IfOk r (λ v. length (items v) ≤ p.room)
few_read items (Ok v) file p read =
    let few = few_barrels p (said read.earlier) read.whole.clean in
    let are : length (plain_pieces (items v)) ≡ length (barrels_at p (said read.earlier)) = ap (λ (xs : List PlainPiece). length xs) read.is in
    omega (arith, few, are, length-map (items v) plain_piece)
few_read items (Err why) file p read = tt

pub span_read : {E V : Type 0} (items : V → List (Placed Shape)) (r : Result V E) (file : List ℕ) (p : Place) → IfOk r (λ v. IsRead file p (plain_pieces (items v))) → IfOk r (λ v. All (λ q. (q.top ≡ p.from) × (q.bottom ≡ p.to)) (items v))
span_read items (Ok v) file p read = each_piece p (items v) (subst (λ xs. All (InSpan p) xs) (sym read.is) (barrels_span p (said read.earlier)))
span_read items (Err why) file p read = tt
