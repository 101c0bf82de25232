-- Which copies stay within 1 m.
use Rattle.std.proofs.Common.{◌≡◌, ℕ, ◌<◌, suc, zero, Bool, true, false, ◌&&◌, List, [], ◌∷◌, length, get_or, ◌++◌, ℤ, Err, refl, ap, ◌∙◌, subst, arith}
use Rattle.std.proofs.lemmas.List.{map-append}
use Rattle.std.specs.Prelude.{IfErr, IfOk, Result, Ok}
use Rattle.board_shapes.specs.Figures.{Figure}
use Rattle.board_shapes.specs.Moved.{IsMoveFault, StaysPlaced}
use Rattle.board_shapes.specs.declared.moved.MoveFault.{MoveFault}
use Rattle.board_shapes.specs.declared.moved.MoveFault.TheVariants as move
use Rattle.board_shapes.specs.Pieces.{PieceOf}
use Rattle.board_shapes.specs.declared.placed.Placed.{Placed}
use Rattle.step_repeat.specs.Copies.{Adds, is_placed_piece, are_placed, moved_block, piece_by, pieces_by, shifted_piece}
use Rattle.step_repeat.specs.Figures.{Handling, shape_handling}
use Rattle.step_repeat.specs.Shifting.{figure_leaves, figure_stays}
use Rattle.step_repeat.specs.declared.fault.CopyFault.{CopyFault}
use Rattle.step_repeat.specs.declared.fault.CopyFault.TheVariants.{TooManyPieces, TooManyEdges, OutOfRange, NoMemory}

-- a piece moved, by its figure
pub stays : {G : Type 0} (h : Handling G) (dx dy : ℤ) (copy : ℕ) (p : PieceOf G) → h.within (h.shifted dx dy p.figure) ≡ true → are_placed h (shifted_piece h dx dy copy p ∷ []) ≡ true
stays h dx dy copy p k = rw k refl

pub leaves_alone : {G : Type 0} (h : Handling G) (dx dy : ℤ) (copy : ℕ) (p : PieceOf G) → h.within (h.shifted dx dy p.figure) ≡ false → are_placed h (shifted_piece h dx dy copy p ∷ []) ≡ false
leaves_alone h dx dy copy p k = rw k refl

-- no piece stays within 1 m that is moved farther than 2 m
pub far : {F G : Type 0} (plain : F → G) (h : Handling G) (dx dy : ℤ) (copy : ℕ) (block : List (Placed F)) → 0 < length block → ((f : F) → h.within (h.shifted dx dy (plain f)) ≡ false) → are_placed h (moved_block h dx dy copy (pieces_by plain block)) ≡ false
far plain h dx dy copy [] some long = absurd (omega arith)
far plain h dx dy copy (p ∷ block) some long = rw (long p.shape) refl

false_and : (a : Bool) → (a && true) ≡ false → a ≡ false
false_and true h = h
false_and false h = refl

-- where one piece leaves, the block does
pub block_leaves : {F G : Type 0} (plain : F → G) (w : Handling G) (dx dy : ℤ) (copy : ℕ) (block : List (Placed F)) (i : ℕ) (d : Placed F) → i < length block → d ≡ get_or block i d → are_placed w (shifted_piece w dx dy copy (piece_by plain d) ∷ []) ≡ false → are_placed w (moved_block w dx dy copy (pieces_by plain block)) ≡ false
block_leaves plain w dx dy copy [] i d below is h = absurd (omega arith)
block_leaves plain w dx dy copy (p ∷ block) zero d below is h =
    let first : is_placed_piece w (shifted_piece w dx dy copy (piece_by plain p)) ≡ false = subst (λ (q : Placed _). is_placed_piece w (shifted_piece w dx dy copy (piece_by plain q)) ≡ false) is (false_and _ h) in
    rw first refl
block_leaves plain w dx dy copy (p ∷ block) (suc i) d below is h =
    false_second _ _ (block_leaves plain w dx dy copy block i d (omega arith) is h)
  where
    false_second : (a b : Bool) → b ≡ false → (a && b) ≡ false
    false_second true b h = h
    false_second false b h = refl

-- one more piece at the end
pub pushed : {F G : Type 0} (plain : F → G) (old new : List (Placed F)) (m : Placed F) (q : PieceOf G) → new ≡ old ++ m ∷ [] → piece_by plain m ≡ q → pieces_by plain new ≡ pieces_by plain old ++ q ∷ []
pushed plain old new m q h is = ap (pieces_by plain) h ∙ map-append (piece_by plain) old (m ∷ []) ∙ ap (λ x. pieces_by plain old ++ x ∷ []) is

-- a refusal of a part is one of the whole
pub fails : {G : Type 0} (w : Handling G) (e : CopyFault) (old new part old' new' more : List (PieceOf G)) → Adds w old (Err e) new part → (are_placed w part ≡ false → are_placed w more ≡ false) → Adds w old' (Err e) new' more
fails w TooManyPieces old new part old' new' more h k = h
fails w TooManyEdges old new part old' new' more h k = h
fails w OutOfRange old new part old' new' more h k = k h
fails w NoMemory old new part old' new' more h k = tt

-- what a shape is that is shifted, by the answer
pub stays_if : {S : Type 0} (r : Result S MoveFault) (dx dy : ℤ) (f : Figure) → IfOk r (λ _. StaysPlaced dx dy f) → IfOk r (λ _. shape_handling.within (shape_handling.shifted dx dy f) ≡ true)
stays_if (Ok s) dx dy f h = figure_stays dx dy f h
stays_if (Err why) dx dy f h = tt

pub leaves_if : {S : Type 0} (r : Result S MoveFault) (dx dy : ℤ) (f : Figure) → IfErr r (IsMoveFault dx dy f) → IfErr r (λ why. why ≡ move.OutOfRange → shape_handling.within (shape_handling.shifted dx dy f) ≡ false)
leaves_if (Ok s) dx dy f h = tt
leaves_if (Err move.OutOfRange) dx dy f h = λ _. figure_leaves dx dy f h
leaves_if (Err move.NoMemory) dx dy f h = λ e. absurd (cc)
