-- The flash of a macro, by the room that there is.
use Rattle.std.proofs.Common.{◌≡◌, ◌+◌, ◌++◌, ℕ, List, length, Some, None, Result, Ok, Err, refl, sym, ap, ◌∙◌}
use Rattle.std.specs.Prelude.{sum_by, IfErr, OnOk}
use Rattle.std.proofs.lemmas.List.{length-map}
use Rattle.planar.specs.declared.Spot.{Spot}
use Rattle.lengths.specs.Decimal.{Fraction}
use Rattle.lengths.specs.declared.decimal.Unit.{Unit as Measure}
use Rattle.board_shapes.specs.Figures.{Figure, figure_edges}
use Rattle.board_shapes.specs.Pieces.{PlainPiece, plain_piece, plain_pieces}
use Rattle.board_shapes.specs.declared.placed.Placed.{Placed}
use Rattle.board_shapes.specs.declared.shape.Shape.{Shape}
use Rattle.file_reading.specs.declared.halt.Halt.{Halt}
use Rattle.file_reading.specs.declared.halt.Halt.TheVariants as halt
use Rattle.gerber_reading.specs.declared.kind.GerberKind.{GerberKind}
use Rattle.gerber_layer.specs.Tools.{composed, macro_named}
use Rattle.gerber_layer.specs.CommandEffects.{Place, Known, all_flashed, edges_of, flash, flash_with, lacks_room, macro_figures, performs, selected}
use Rattle.gerber_layer.specs.Image.{made, piece_of}
use Rattle.gerber_layer.specs.Reader.{Reader, CarriesOut, FlashesAll, Lacks, Stops, TakesOn, contour_of, known_of, macros_in, place_of}
use Rattle.gerber_layer.proofs.MacroFlash.{edges_made}

-- the room is asked for as many pieces as there are figures, with as many edges
same_count : (p : Place) (n : ℕ) (pieces : List (Placed Shape)) (figures : List Figure) → plain_pieces pieces ≡ made p n figures → length pieces ≡ length figures
same_count p n pieces figures h = sym (length-map pieces plain_piece) ∙ ap length h ∙ length-map figures (piece_of p n)

same_edges : (p : Place) (n : ℕ) (pieces : List (Placed Shape)) (figures : List Figure) → plain_pieces pieces ≡ made p n figures → edges_of (plain_pieces pieces) ≡ sum_by figure_edges figures
same_edges p n pieces figures h = ap edges_of h ∙ edges_made p n figures

same_room_for : (k : Known) (p : Place) (n : ℕ) (pieces : List (Placed Shape)) (figures : List Figure) → plain_pieces pieces ≡ made p n figures → lacks_room k (length pieces) (edges_of (plain_pieces pieces)) ≡ lacks_room k (length figures) (sum_by figure_edges figures)
same_room_for k p n pieces figures h = ap (λ (m : ℕ). lacks_room k m (edges_of (plain_pieces pieces))) (same_count p n pieces figures h) ∙ ap (λ (m : ℕ). lacks_room k (length figures) m) (same_edges p n pieces figures h)

flash_lacks_room : (k : Known) (to : Spot) (name : List ℕ) (parameters : List Fraction) (unit : Measure) (figures : List Figure) (why : GerberKind) → selected k ≡ Some (composed name parameters unit) → all_flashed (macro_figures (macro_named k.macros name) parameters unit to) ≡ Ok figures → lacks_room k (length figures) (sum_by figure_edges figures) ≡ Some why → flash k to ≡ Err why
unfolding flash flash_with
flash_lacks_room k to name parameters unit figures why s f r = rw (s, f, r) refl

flash_stops : (k : Known) (to : Spot) (name : List ℕ) (parameters : List Fraction) (unit : Measure) (p : Place) (n : ℕ) (pieces : List (Placed Shape)) (why : Halt GerberKind) → selected k ≡ Some (composed name parameters unit) → FlashesAll (all_flashed (macro_figures (macro_named k.macros name) parameters unit to)) p n pieces → Lacks (lacks_room k (length pieces) (edges_of (plain_pieces pieces))) why → Stops (flash k to) why
flash_stops k to name parameters unit p n pieces (halt.Fault why) s f h = flash_lacks_room k to name parameters unit f.figures why s f.is (sym (same_room_for k p n pieces f.figures f.are) ∙ h)
flash_stops k to name parameters unit p n pieces halt.NoMemory s f h = tt

pub flash_stops_if : {A : Type 0} (r : Result A (Halt GerberKind)) (k : Known) (to : Spot) (name : List ℕ) (parameters : List Fraction) (unit : Measure) (p : Place) (n : ℕ) (pieces : List (Placed Shape)) → selected k ≡ Some (composed name parameters unit) → FlashesAll (all_flashed (macro_figures (macro_named k.macros name) parameters unit to)) p n pieces → IfErr r (Lacks (lacks_room k (length pieces) (edges_of (plain_pieces pieces)))) → IfErr r (Stops (flash k to))
flash_stops_if (Ok x) k to name parameters unit p n pieces s f h = tt
flash_stops_if (Err why) k to name parameters unit p n pieces s f h = flash_stops k to name parameters unit p n pieces why s f h

flash_fails : (k : Known) (to : Spot) (name : List ℕ) (parameters : List Fraction) (unit : Measure) (why : GerberKind) → selected k ≡ Some (composed name parameters unit) → all_flashed (macro_figures (macro_named k.macros name) parameters unit to) ≡ Err why → flash k to ≡ Err why
unfolding flash flash_with
flash_fails k to name parameters unit why s f = rw (s, f) refl

-- what stops the figures of a macro stops its flash
pub flash_stops_too : (k : Known) (to : Spot) (name : List ℕ) (parameters : List Fraction) (unit : Measure) (why : Halt GerberKind) → selected k ≡ Some (composed name parameters unit) → Stops (all_flashed (macro_figures (macro_named k.macros name) parameters unit to)) why → Stops (flash k to) why
flash_stops_too k to name parameters unit (halt.Fault why) s f = flash_fails k to name parameters unit why s f
flash_stops_too k to name parameters unit halt.NoMemory s f = tt

flash_performs : (k : Known) (to : Spot) (name : List ℕ) (parameters : List Fraction) (unit : Measure) (figures : List Figure) → selected k ≡ Some (composed name parameters unit) → all_flashed (macro_figures (macro_named k.macros name) parameters unit to) ≡ Ok figures → lacks_room k (length figures) (sum_by figure_edges figures) ≡ None → flash k to ≡ Ok (performs to figures)
unfolding flash flash_with
flash_performs k to name parameters unit figures s f r = rw (s, f, r) refl

flash_carries : (old new : Reader) (to : Spot) (name : List ℕ) (parameters : List Fraction) (unit : Measure) (pieces : List (Placed Shape)) → selected (known_of old) ≡ Some (composed name parameters unit) → FlashesAll (all_flashed (macro_figures (macro_named (macros_in old.dictionary) name) parameters unit to)) (place_of old) (old.commands + 1) pieces → TakesOn old (plain_pieces pieces) new → lacks_room (known_of old) (length pieces) (edges_of (plain_pieces pieces)) ≡ None → CarriesOut old (flash (known_of old) to) new
flash_carries old new to name parameters unit pieces s f t r = record {
  effect_is = performs to f.figures;
  is = flash_performs (known_of old) to name parameters unit f.figures s f.is (sym (same_room_for (known_of old) (place_of old) (old.commands + 1) pieces f.figures f.are) ∙ r);
  carries = record {
    settings = t.settings;
    dictionary = t.dictionary;
    contour = ap contour_of t.contour;
    pieces = t.pieces ∙ ap (λ (more : List PlainPiece). plain_pieces old.pieces.items ++ more) f.are;
    start = t.start;
    counts = t.counts;
    place = t.place;
  };
}

pub flash_carries_if : {A : Type 0} (r : Result A (Halt GerberKind)) (old new : Reader) (to : Spot) (name : List ℕ) (parameters : List Fraction) (unit : Measure) (pieces : List (Placed Shape)) → selected (known_of old) ≡ Some (composed name parameters unit) → FlashesAll (all_flashed (macro_figures (macro_named (macros_in old.dictionary) name) parameters unit to)) (place_of old) (old.commands + 1) pieces → OnOk r (TakesOn old (plain_pieces pieces) new) → OnOk r (lacks_room (known_of old) (length pieces) (edges_of (plain_pieces pieces)) ≡ None) → OnOk r (CarriesOut old (flash (known_of old) to) new)
flash_carries_if (Ok x) old new to name parameters unit pieces s f t r = flash_carries old new to name parameters unit pieces s f t r
flash_carries_if (Err why) old new to name parameters unit pieces s f t r = tt
