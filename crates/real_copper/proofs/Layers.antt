-- The pieces of a file stand on its layer.
use Rattle.std.proofs.Common.{◌≡◌, ℕ, ◌+◌, ◌*◌, ℤ, pos, ◌*ℤ◌, Bool, true, false, cond, List, [], ◌∷◌, ◌++◌, take, drop, All, Option, Some, None, Result, Ok, Err, refl, sym, subst}
use Rattle.std.specs.List.{flat_map, range_with_len}
use Rattle.std.proofs.lemmas.List.Elements.{All-append, All-cons, All-nil, All-take, All-drop, All-map, All-weaker}
use Rattle.aperture_macros.specs.BodyWord.{PlainPrimitive, primitive_at}
use Rattle.aperture_macros.specs.declared.fault.MacroFault.{MacroFault}
use Rattle.aperture_macros.specs.declared.primitive.Copper.TheVariants.{Real}
use Rattle.board_shapes.specs.Pieces.{PieceOf}
use Rattle.board_shapes.specs.declared.placed.Room.{Room}
use Rattle.gerber_reading.specs.Command.{Command, body_word, closes_region, defines, ends, names_macro, opens_region, operates, repeats}
use Rattle.gerber_reading.specs.CommandEffects.{as_copies, begins_macro, closes, code_of, concludes, ended_block_by, extends, fills_macro, is_finish, leaves, left_by, listed, opens, performs, stays, steps, with_copies_by}
use Rattle.gerber_reading.specs.Image.{made, piece_of, pieces_after}
use Rattle.gerber_reading.specs.Outcomes.{IsEffect, IsFilled, KeepsLayer, OnLayer}
use Rattle.gerber_reading.specs.declared.command.Code.{Code}
use Rattle.gerber_reading.specs.declared.command.Code.TheVariants.{Draw, Move, Flash}
use Rattle.gerber_reading.specs.declared.kind.GerberKind.TheVariants as kind
use Rattle.gerber_reading.specs.declared.place.Place.{Place}
use Rattle.planar.specs.declared.Spot.{Spot}
use Rattle.step_repeat.specs.Copies.{Refusal, are_placed, block_at, column_of, copies_by, copies_of, moved_block, out_of_range, placed_copies, room_fault, shifted_piece}
use Rattle.step_repeat.specs.declared.repeat.Repeat.{Repeat}
use Rattle.real_copper.specs.Figures.{RealFigure, real_handling}
use Rattle.real_copper.specs.Kinds.{gerber}
use Rattle.real_copper.specs.Rows.{RealEffect, RealKnown}
use Rattle.real_copper.specs.Table.{effect, real_edge, real_table, row}
use Rattle.real_copper.specs.declared.draw.Bend.{Bend}
use Rattle.real_copper.proofs.Outcomes.{end_did, repeat_did, row_did, same_effect}

abbrev Pieces : Type 0
Pieces = List (PieceOf RealFigure)

-- ---- Copies

All-flat_map : {X A : Type 0} (P : A → Type 0) (f : X → List A) → ((x : X) → All P (f x)) → (xs : List X) → All P (flat_map f xs)
All-flat_map P f h [] = All-nil P
All-flat_map P f h (x ∷ xs) = All-append P (f x) (flat_map f xs) (h x) (All-flat_map P f h xs)

moved_on : (p : Place) (dx dy : ℤ) (copy : ℕ) (block : Pieces) → All (OnLayer p) block → All (OnLayer p) (moved_block real_handling dx dy copy block)
moved_on p dx dy copy block h = All-map (OnLayer p) (shifted_piece real_handling dx dy copy) block (All-weaker (OnLayer p) (λ q. OnLayer p (shifted_piece real_handling dx dy copy q)) (λ q on. on) block h)

copies_on : (p : Place) (r : Repeat) (block : Pieces) → All (OnLayer p) block → All (OnLayer p) (copies_of real_handling r block)
unfolding copies_of
copies_on p r block h =
    All-flat_map (OnLayer p) (column_of real_handling r block)
    (λ column. All-flat_map (OnLayer p) (block_at real_handling r block column)
    (λ row. moved_on p (pos column *ℤ r.dx) (pos row *ℤ r.dy) (column * r.up + row) block h) (range_with_len 0 r.up))
    (range_with_len 0 r.across)

placed_on : (p : Place) (copies : Pieces) (fault : Option Refusal) (all : Pieces) → All (OnLayer p) copies → placed_copies real_handling copies fault ≡ Ok all → All (OnLayer p) all
placed_on p copies (Some fault) all h e = absurd (cc)
placed_on p copies None all h e = by (are_placed real_handling copies) e
  where
    by : (b : Bool) → cond b (Ok copies) (Err out_of_range) ≡ Ok all → All (OnLayer p) all
    by true e = let same : copies ≡ all = cc in subst (λ xs. All (OnLayer p) xs) same h
    by false e = absurd (cc)

copied_on : (p : Place) (r : Repeat) (room : Room) (block all : Pieces) → All (OnLayer p) block → copies_by real_handling r room block ≡ Ok all → All (OnLayer p) all
unfolding copies_by
copied_on p r room block all h e = placed_on p (copies_of real_handling r block) (room_fault real_handling r room block) all (copies_on p r block h) e

joined_on : (p : Place) (before : Pieces) (copies : Result Pieces Refusal) (all : Pieces) → All (OnLayer p) before → ((some : Pieces) → copies ≡ Ok some → All (OnLayer p) some) → as_copies before copies ≡ Ok all → All (OnLayer p) all
joined_on p before (Ok some) all h k e = let same : before ++ some ≡ all = cc in subst (λ xs. All (OnLayer p) xs) same (All-append (OnLayer p) before some h (k some refl))
joined_on p before (Err fault) all h k e = absurd (cc)

with_copies_on : (p : Place) (k : RealKnown) (block : Option Repeat) (all : Pieces) → All (OnLayer p) k.pieces → with_copies_by real_handling k block ≡ Ok all → All (OnLayer p) all
with_copies_on p k None all h e = let same : k.pieces ≡ all = cc in subst (λ xs. All (OnLayer p) xs) same h
with_copies_on p k (Some block) all h e =
    joined_on p (take k.start k.pieces) (copies_by real_handling block (left_by real_handling k) (drop k.start k.pieces)) all (All-take (OnLayer p) k.start k.pieces h)
    (λ some is. copied_on p block (left_by real_handling k) (drop k.start k.pieces) some (All-drop (OnLayer p) k.start k.pieces h) is) e

ended_on : (p : Place) (k : RealKnown) (all : Pieces) → All (OnLayer p) k.pieces → ended_block_by real_handling k ≡ Ok all → All (OnLayer p) all
unfolding ended_block_by
ended_on p k all h e = with_copies_on p k k.settings.block all h e

-- ---- Effects

made_on : (p : Place) (n : ℕ) (figures : List RealFigure) → All (OnLayer p) (made p n figures)
made_on p n [] = All-nil (OnLayer p)
made_on p n (figure ∷ figures) = All-cons (OnLayer p) (piece_of p n figure) (made p n figures) (refl, refl) (made_on p n figures)

-- it ends no block
abbrev IsSimple : RealEffect → Type 0
IsSimple (steps next all) = ⊥
IsSimple (concludes all) = ⊥
IsSimple other = Unit {0}

simple_on : (p : Place) (n : ℕ) (pieces : Pieces) (e : RealEffect) → IsSimple e → All (OnLayer p) pieces → All (OnLayer p) (pieces_after p n pieces e)
simple_on p n pieces (steps next all) simple h = absurd simple
simple_on p n pieces (concludes all) simple h = absurd simple
simple_on p n pieces (performs to figures) simple h = All-append (OnLayer p) pieces (made p n figures) h (made_on p n figures)
simple_on p n pieces (closes to figure) simple h = All-append (OnLayer p) pieces (made p n (listed figure)) h (made_on p n (listed figure))
simple_on p n pieces (leaves figure) simple h = All-append (OnLayer p) pieces (made p n (listed figure)) h (made_on p n (listed figure))
simple_on p n pieces other simple h = h

simple_by : (p : Place) (n : ℕ) (pieces : Pieces) (e same : RealEffect) → e ≡ same → IsSimple same → All (OnLayer p) pieces → All (OnLayer p) (pieces_after p n pieces e)
simple_by p n pieces e same is simple h = simple_on p n pieces e (subst IsSimple (sym is) simple) h

simple_effect : (p : Place) (n : ℕ) (pieces : Pieces) (e : RealEffect) (inside : Bool) (code : Code) (to : Spot) (bend : Option Bend) → IsEffect inside code to bend e → All (OnLayer p) pieces → All (OnLayer p) (pieces_after p n pieces e)
simple_effect p n pieces e false code to bend i h = simple_by p n pieces e (performs to i.figures) i.is tt h
simple_effect p n pieces e true Draw to bend i h = simple_by p n pieces e (extends to bend) i tt h
simple_effect p n pieces e true Move to bend i h = simple_by p n pieces e (closes to i.0) i.1 tt h
simple_effect p n pieces e true Flash to bend i h = absurd i

filled_on : (p : Place) (n : ℕ) (pieces : Pieces) (r : Result (Option PlainPrimitive) MacroFault) (e : RealEffect) → IsFilled r e → All (OnLayer p) pieces → All (OnLayer p) (pieces_after p n pieces e)
filled_on p n pieces (Ok None) e is h = simple_by p n pieces e stays is tt h
filled_on p n pieces (Ok (Some primitive)) e is h = simple_by p n pieces e (fills_macro primitive) is tt h
filled_on p n pieces (Err fault) e is h = absurd is

row_on : (p : Place) (k : RealKnown) (n : ℕ) (c : Command) (e : RealEffect) → All (OnLayer p) k.pieces → row k c ≡ Ok e → All (OnLayer p) (pieces_after p n k.pieces e)
unfolding row
row_on p k n (repeats text) e on h = let s = repeat_did k text e h in subst (λ (x : RealEffect). All (OnLayer p) (pieces_after p n k.pieces x)) (sym s.is) (ended_on p k s.pieces on s.ended)
row_on p k n ends e on h = let s = end_did k e h in subst (λ (x : RealEffect). All (OnLayer p) (pieces_after p n k.pieces x)) (sym s.is) (ended_on p k s.pieces on s.ended)
row_on p k n (defines text) e on h = let o = row_did k (defines text) e h in simple_by p n k.pieces e _ o.is tt on
row_on p k n (operates x y code b) e on h = let o = row_did k (operates x y code b) e h in simple_effect p n k.pieces e k.settings.region (code_of code) o.to (real_edge k.settings (operates x y code b)) o.is on
row_on p k n opens_region e on h = simple_by p n k.pieces e opens (row_did k opens_region e h) tt on
row_on p k n closes_region e on h = let o = row_did k closes_region e h in simple_by p n k.pieces e (leaves o.0) o.1 tt on
row_on p k n (names_macro name) e on h = simple_by p n k.pieces e (begins_macro name) (row_did k (names_macro name) e h) tt on
row_on p k n (body_word text) e on h = filled_on p n k.pieces (primitive_at Real text) e (row_did k (body_word text) e h) on
row_on p k n other e on h = simple_by p n k.pieces e stays (row_did k other e h) tt on

-- behind the end nothing is made
pub effect_on : KeepsLayer real_table
unfolding effect
effect_on p k n c e on h = by k.settings.ended (is_finish c) h
  where
    by : (ended finish : Bool) → cond ended (cond finish (Ok stays) (Err (gerber kind.AfterEnd))) (row k c) ≡ Ok e → All (OnLayer p) (pieces_after p n k.pieces e)
    by true true h = simple_by p n k.pieces e stays (same_effect stays e h) tt on
    by true false h = absurd (cc)
    by false finish h = row_on p k n c e on h
