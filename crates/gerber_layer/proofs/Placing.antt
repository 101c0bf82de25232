-- The pieces of a file stand on its layer.
use Rattle.std.proofs.Common.{◌≡◌, ℕ, ◌+◌, ◌*◌, ℤ, pos, ◌*ℤ◌, Bool, true, false, cond, List, [], ◌∷◌, ◌++◌, take, drop, All, Option, Some, None, Result, Ok, Err, refl, sym, subst}
use Rattle.std.specs.List.{flat_map, range_with_len}
use Rattle.std.proofs.lemmas.List.Elements.{All-append, All-cons, All-nil, All-take, All-drop, All-map, All-weaker}
use Rattle.board_shapes.specs.Figures.{Figure}
use Rattle.board_shapes.specs.Pieces.{PlainPiece}
use Rattle.board_shapes.specs.declared.placed.Room.{Room}
use Rattle.step_repeat.specs.Copies.{Refusal, out_of_range, copies_at, copies_by, copies_of, moved_block, placed_copies, are_placed, room_fault, column_of, block_at, shifted_piece}
use Rattle.step_repeat.specs.Figures.{shape_handling}
use Rattle.step_repeat.specs.declared.repeat.Repeat.{Repeat}
use Rattle.gerber_reading.specs.Command.{Command, defines, functions, repeats, opens_region, closes_region, operates, ends, names_macro, body_word}
use Rattle.gerber_reading.specs.declared.kind.GerberKind.{GerberKind}
use Rattle.gerber_reading.specs.declared.kind.GerberKind.TheVariants as kind
use Rattle.gerber_reading.specs.declared.command.Code.{Code}
use Rattle.gerber_reading.specs.declared.command.Code.TheVariants.{Draw, Move, Flash}
use Rattle.aperture_macros.specs.BodyWord.{PlainPrimitive, primitive_at}
use Rattle.aperture_macros.specs.declared.fault.MacroFault.{MacroFault}
use Rattle.aperture_macros.specs.declared.primitive.Copper.TheVariants.{Exact}
use Rattle.gerber_layer.specs.declared.macro_kind.FlattenKind.TheVariants.{Gerber}
use Rattle.gerber_layer.specs.MacroTable.{effect_with_macros, few_radii, macro_row, macro_table, row_with_macros}
use Rattle.gerber_reading.specs.Outcomes.{KeepsLayer, OnLayer}
use Rattle.gerber_layer.proofs.MacroOutcome.{few_ok, gerber_ok, row_did}
use Rattle.gerber_layer.specs.CommandEffects.{Place, Known, Effect, plain_table, stays, begins_macro, fills_macro, is_finish, performs, extends, closes, opens, leaves, steps, concludes, ◌>>=◌, as_copies, with_copies, left, listed, ended_block, next_block, repeat, row, effect, code_of}
use Rattle.gerber_reading.specs.CommandEffects.{ended_block_by}
use Rattle.gerber_layer.specs.Image.{made, piece_of, pieces_after}
use Rattle.gerber_layer.proofs.Outcome.{bind_ok, no_macro, ok_stays, past_test, row_outcome, IsEffect, IsFilled}

-- ---- Copies

All-flat_map : {X A : Type 0} (P : A → Type 0) (f : X → List A) → ((x : X) → All P (f x)) → (xs : List X) → All P (flat_map f xs)
All-flat_map P f h [] = All-nil P
All-flat_map P f h (x ∷ xs) = All-append P (f x) (flat_map f xs) (h x) (All-flat_map P f h xs)

moved_on : (p : Place) (dx dy : ℤ) (copy : ℕ) (block : List PlainPiece) → All (OnLayer p) block → All (OnLayer p) (moved_block shape_handling dx dy copy block)
moved_on p dx dy copy block h = All-map (OnLayer p) (shifted_piece shape_handling dx dy copy) block (All-weaker (OnLayer p) (λ q. OnLayer p (shifted_piece shape_handling dx dy copy q)) (λ q on. on) block h)

copies_on : (p : Place) (r : Repeat) (block : List PlainPiece) → All (OnLayer p) block → All (OnLayer p) (copies_of shape_handling r block)
unfolding copies_of
copies_on p r block h =
    All-flat_map (OnLayer p) (column_of shape_handling r block)
    (λ column. All-flat_map (OnLayer p) (block_at shape_handling r block column)
    (λ row. moved_on p (pos column *ℤ r.dx) (pos row *ℤ r.dy) (column * r.up + row) block h) (range_with_len 0 r.up))
    (range_with_len 0 r.across)

placed_on : (p : Place) (copies : List PlainPiece) (fault : Option Refusal) (all : List PlainPiece) → All (OnLayer p) copies → placed_copies shape_handling copies fault ≡ Ok all → All (OnLayer p) all
placed_on p copies (Some fault) all h e = absurd (cc)
placed_on p copies None all h e = by (are_placed shape_handling copies) e
  where
    by : (b : Bool) → cond b (Ok copies) (Err out_of_range) ≡ Ok all → All (OnLayer p) all
    by true e = let same : copies ≡ all = cc in subst (λ xs. All (OnLayer p) xs) same h
    by false e = absurd (cc)

copied_on : (p : Place) (r : Repeat) (room : Room) (block all : List PlainPiece) → All (OnLayer p) block → copies_at r room block ≡ Ok all → All (OnLayer p) all
unfolding copies_by
copied_on p r room block all h e = placed_on p (copies_of shape_handling r block) (room_fault shape_handling r room block) all (copies_on p r block h) e

joined_on : (p : Place) (before : List PlainPiece) (copies : Result (List PlainPiece) Refusal) (all : List PlainPiece) → All (OnLayer p) before → ((some : List PlainPiece) → copies ≡ Ok some → All (OnLayer p) some) → as_copies before copies ≡ Ok all → All (OnLayer p) all
joined_on p before (Ok some) all h k e = let same : before ++ some ≡ all = cc in subst (λ xs. All (OnLayer p) xs) same (All-append (OnLayer p) before some h (k some refl))
joined_on p before (Err fault) all h k e = absurd (cc)

with_copies_on : (p : Place) (k : Known) (block : Option Repeat) (all : List PlainPiece) → All (OnLayer p) k.pieces → with_copies k block ≡ Ok all → All (OnLayer p) all
with_copies_on p k None all h e = let same : k.pieces ≡ all = cc in subst (λ xs. All (OnLayer p) xs) same h
with_copies_on p k (Some block) all h e =
    joined_on p (take k.start k.pieces) (copies_at block (left k) (drop k.start k.pieces)) all (All-take (OnLayer p) k.start k.pieces h)
    (λ some is. copied_on p block (left k) (drop k.start k.pieces) some (All-drop (OnLayer p) k.start k.pieces h) is) e

ended_on : (p : Place) (k : Known) (all : List PlainPiece) → All (OnLayer p) k.pieces → ended_block k ≡ Ok all → All (OnLayer p) all
unfolding ended_block_by
ended_on p k all h e = with_copies_on p k k.settings.block all h e

-- ---- Effects

made_on : (p : Place) (n : ℕ) (figures : List Figure) → All (OnLayer p) (made p n figures)
made_on p n [] = All-nil (OnLayer p)
made_on p n (figure ∷ figures) = All-cons (OnLayer p) (piece_of p n figure) (made p n figures) (refl, refl) (made_on p n figures)

-- it ends no block
abbrev pub IsSimple : Effect → Type 0
IsSimple (steps next all) = ⊥
IsSimple (concludes all) = ⊥
IsSimple other = Unit {0}

simple_on : (p : Place) (n : ℕ) (pieces : List PlainPiece) (e : Effect) → IsSimple e → All (OnLayer p) pieces → All (OnLayer p) (pieces_after p n pieces e)
simple_on p n pieces (steps next all) simple h = absurd simple
simple_on p n pieces (concludes all) simple h = absurd simple
simple_on p n pieces (performs to figures) simple h = All-append (OnLayer p) pieces (made p n figures) h (made_on p n figures)
simple_on p n pieces (closes to figure) simple h = All-append (OnLayer p) pieces (made p n (listed figure)) h (made_on p n (listed figure))
simple_on p n pieces (leaves figure) simple h = All-append (OnLayer p) pieces (made p n (listed figure)) h (made_on p n (listed figure))
simple_on p n pieces other simple h = h

pub simple_by : (e made' : Effect) → e ≡ made' → IsSimple made' → IsSimple e
simple_by e made' same simple = subst IsSimple (sym same) simple

pub simple_effect : (e : Effect) (inside : Bool) (code : Code) (to : _) → IsEffect inside code to tt e → IsSimple e
simple_effect e false code to h = simple_by e (performs to h.figures) h.is tt
simple_effect e true Draw to h = simple_by e (extends to tt) h tt
simple_effect e true Move to h = simple_by e (closes to h.0) h.1 tt
simple_effect e true Flash to h = absurd h

after_by : (p : Place) (n : ℕ) (pieces all : List PlainPiece) (made' e : Effect) → ◌≡◌ {A = Result Effect GerberKind} (Ok made') (Ok e) → All (OnLayer p) (pieces_after p n pieces made') → All (OnLayer p) (pieces_after p n pieces e)
after_by p n pieces all made' e h on = let same : made' ≡ e = cc in subst (λ x. All (OnLayer p) (pieces_after p n pieces x)) same on

repeats_on : (p : Place) (k : Known) (n : ℕ) (text : List ℕ) (e : Effect) → All (OnLayer p) k.pieces → repeat k text ≡ Ok e → All (OnLayer p) (pieces_after p n k.pieces e)
unfolding repeat
repeats_on p k n text e on h =
    let one = past_test k.settings.region kind.NotInRegion (next_block k.settings.unit text >>= λ next. ended_block k >>= λ pieces. Ok (steps next pieces)) e h in
    let next = bind_ok (next_block k.settings.unit text) (λ next. ended_block k >>= λ pieces. Ok (steps next pieces)) e one in
    let all = bind_ok (ended_block k) (λ pieces. Ok (steps next.0 pieces)) e next.2 in
    after_by p n k.pieces all.0 (steps next.0 all.0) e all.2 (ended_on p k all.0 on all.1)

ends_on : (p : Place) (k : Known) (n : ℕ) (e : Effect) → All (OnLayer p) k.pieces → cond k.settings.region (Err kind.NotInRegion) (ended_block k >>= λ pieces. Ok (concludes pieces)) ≡ Ok e → All (OnLayer p) (pieces_after p n k.pieces e)
ends_on p k n e on h =
    let one = past_test k.settings.region kind.NotInRegion (ended_block k >>= λ pieces. Ok (concludes pieces)) e h in
    let all = bind_ok (ended_block k) (λ pieces. Ok (concludes pieces)) e one in
    after_by p n k.pieces all.0 (concludes all.0) e all.2 (ended_on p k all.0 on all.1)

row_on : (p : Place) (k : Known) (n : ℕ) (c : Command) (e : Effect) → All (OnLayer p) k.pieces → row k c ≡ Ok e → All (OnLayer p) (pieces_after p n k.pieces e)
unfolding row
row_on p k n (repeats text) e on h = repeats_on p k n text e on h
row_on p k n ends e on h = ends_on p k n e on h
row_on p k n (defines text) e on h = let o = row_outcome k (defines text) e h in simple_on p n k.pieces e (simple_by e _ o.is tt) on
row_on p k n (operates x y code b) e on h = let o = row_outcome k (operates x y code b) e h in simple_on p n k.pieces e (simple_effect e k.settings.region (code_of code) o.to o.is) on
row_on p k n opens_region e on h = simple_on p n k.pieces e (simple_by e opens (row_outcome k opens_region e h) tt) on
row_on p k n closes_region e on h = let o = row_outcome k closes_region e h in simple_on p n k.pieces e (simple_by e (leaves o.0) o.1 tt) on
row_on p k n (names_macro name) e on h = absurd (no_macro e h)
row_on p k n (body_word text) e on h = absurd (no_macro e h)
row_on p k n other e on h = simple_on p n k.pieces e (simple_by e stays (row_outcome k other e h) tt) on

filled_on : (p : Place) (k : Known) (n : ℕ) (r : Result (Option PlainPrimitive) MacroFault) (e : Effect) → IsFilled r e → All (OnLayer p) k.pieces → All (OnLayer p) (pieces_after p n k.pieces e)
filled_on p k n (Ok None) e is on = simple_on p n k.pieces e (simple_by e stays is tt) on
filled_on p k n (Ok (Some primitive)) e is on = simple_on p n k.pieces e (simple_by e (fills_macro primitive) is tt) on
filled_on p k n (Err fault) e is on = absurd is

macro_on : (p : Place) (k : Known) (n : ℕ) (c : Command) (e : Effect) → All (OnLayer p) k.pieces → macro_row k c ≡ Ok e → All (OnLayer p) (pieces_after p n k.pieces e)
unfolding macro_row
macro_on p k n (names_macro name) e on h = simple_on p n k.pieces e (simple_by e (begins_macro name) (row_did k (names_macro name) e h) tt) on
macro_on p k n (body_word text) e on h = filled_on p k n (primitive_at Exact text) e (row_did k (body_word text) e h) on
macro_on p k n (defines text) e on h = let o = row_did k (defines text) e h in simple_on p n k.pieces e (simple_by e _ o.is tt) on
macro_on p k n other e on h = row_on p k n other e on (gerber_ok (row k other) e h)

flat_on : (p : Place) (k : Known) (n : ℕ) (c : Command) (e : Effect) → All (OnLayer p) k.pieces → row_with_macros k c ≡ Ok e → All (OnLayer p) (pieces_after p n k.pieces e)
unfolding row_with_macros
flat_on p k n (functions function layer) e on h = simple_on p n k.pieces e (simple_by e stays (ok_stays e h) tt) on
flat_on p k n other e on h = macro_on p k n other e on h

-- behind the end nothing is made
ended_or : {W : Type 0} (p : Place) (k : Known) (n : ℕ) (ended finish : Bool) (why : W) (row : Result Effect W) (e : Effect) → All (OnLayer p) k.pieces → (row ≡ Ok e → All (OnLayer p) (pieces_after p n k.pieces e)) → cond ended (cond finish (Ok stays) (Err why)) row ≡ Ok e → All (OnLayer p) (pieces_after p n k.pieces e)
ended_or p k n true true why row e on more h = simple_on p n k.pieces e (simple_by e stays (ok_stays e h) tt) on
ended_or p k n true false why row e on more h = absurd (cc)
ended_or p k n false finish why row e on more h = more h

pub effect_on : KeepsLayer plain_table
unfolding effect
effect_on p k n c e on h = ended_or p k n k.settings.ended (is_finish c) kind.AfterEnd (row k c) e on (row_on p k n c e on) h

pub macros_on : KeepsLayer macro_table
unfolding effect_with_macros
macros_on p k n c e on h = ended_or p k n k.settings.ended (is_finish c) (Gerber kind.AfterEnd) (row_with_macros k c >>= few_radii) e on (λ few. flat_on p k n c e on (few_ok (row_with_macros k c) e few)) h
