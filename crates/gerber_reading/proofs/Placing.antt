-- The pieces of a file stand on its layer.
use Rattle.std.proofs.Common.{◌≡◌, ℕ, ◌+◌, List, [], ◌∷◌, length, All, Result, Ok, Err, IfOk, refl, sym, subst}
use Rattle.std.proofs.lemmas.List.{length-map, get_or-map}
use Rattle.std.proofs.lemmas.List.Elements.{All-nil}
use Rattle.board_shapes.specs.declared.placed.Placed.{Placed}
use Rattle.step_repeat.specs.Copies.{piece_by, pieces_by as pieces_of}
use Rattle.file_reading.specs.Reading.{said}
use Rattle.gerber_reading.specs.Command.{Command}
use Rattle.gerber_reading.specs.Outcomes.{KeepsLayer, OnLayer}
use Rattle.gerber_reading.specs.CommandEffects.{Place, Effect, Profile}
use Rattle.gerber_reading.specs.Image.{image_by, known_by, pieces_by, with_effect}
use Rattle.gerber_reading.specs.Dialect.{Dialect, IsReadBy}

-- ---- A file

pieces_on : {G E A W : Type 0} (f : Profile G E A W) → KeepsLayer f → (p : Place) (earlier : List Command) → All (OnLayer p) (pieces_by f p earlier)
unfolding image_by
pieces_on f keeps p [] = All-nil (OnLayer p)
pieces_on {G = G} {E = E} {A = A} {W = W} f keeps p (c ∷ earlier) = by (pieces_on f keeps p earlier) (f.does (known_by f p earlier) c) refl
  where
    by : All (OnLayer p) (pieces_by f p earlier) → (r : Result (Effect G E A) W) → f.does (known_by f p earlier) c ≡ r → All (OnLayer p) (with_effect p (length earlier + 1) (image_by f p earlier) r).pieces
    by on (Ok e) is = keeps p (known_by f p earlier) (length earlier + 1) c e on is
    by on (Err fault) is = on

-- what holds of each of the plain pieces holds of the pieces
each_piece : {F G : Type 0} (plain : F → G) → (p : Place) (pieces : List (Placed F)) → All (OnLayer p) (pieces_of plain pieces) → All (λ q. (q.top ≡ p.layer) × (q.bottom ≡ p.layer)) pieces
each_piece plain p pieces h = λ i d below. subst (OnLayer p) (get_or-map (piece_by plain) pieces i d (piece_by plain d) below) (h i (piece_by plain d) (rw (length-map pieces (piece_by plain)) below))

-- by a dialect
read_on : {F G E A W : Type 0} (plain : F → G) (d : Dialect G E A W) → KeepsLayer d.table → (file : List ℕ) (p : Place) (pieces : List (Placed F)) → IsReadBy d file p (pieces_of plain pieces) → All (λ q. (q.top ≡ p.layer) × (q.bottom ≡ p.layer)) pieces
read_on plain d keeps file p pieces read = each_piece plain p pieces (subst (λ xs. All (OnLayer p) xs) (sym read.2.is) (pieces_on d.table keeps p (said read.2.earlier)))

-- also as the reader's result
pub layers_read : {F G E A V W X : Type 0} (plain : F → G) (d : Dialect G E A W) → KeepsLayer d.table → (items : V → List (Placed F)) (result : Result V X) (file : List ℕ) (p : Place) → IfOk result (λ v. IsReadBy d file p (pieces_of plain (items v))) → IfOk result (λ v. All (λ q. (q.top ≡ p.layer) × (q.bottom ≡ p.layer)) (items v))
layers_read plain d keeps items (Ok v) file p read = read_on plain d keeps file p (items v) read
layers_read plain d keeps items (Err why) file p read = tt
