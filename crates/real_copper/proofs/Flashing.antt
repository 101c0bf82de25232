-- The flash of a macro, by the room that there is.
use Rattle.std.proofs.Common.{◌≡◌, ◌+◌, ℕ, List, [], ◌∷◌, length, Some, Ok, Err, refl, sym, ap, ◌∙◌}
use Rattle.std.specs.Prelude.{sum_by}
use Rattle.std.proofs.lemmas.List.{length-map}
use Rattle.std.proofs.lemmas.List.Sums.{sum_by-cons}
use Rattle.planar.specs.declared.Spot.{Spot}
use Rattle.lengths.specs.Decimal.{Fraction}
use Rattle.lengths.specs.declared.decimal.Unit.{Unit as Measure}
use Rattle.board_shapes.specs.Pieces.{PieceOf}
use Rattle.board_shapes.specs.declared.placed.Placed.{Placed}
use Rattle.file_reading.specs.declared.halt.Halt.{Halt}
use Rattle.file_reading.specs.declared.halt.Halt.TheVariants as halt
use Rattle.gerber_reading.specs.CommandEffects.{lacks_room, selected}
use Rattle.gerber_reading.specs.Image.{made, piece_of}
use Rattle.gerber_reading.specs.Reader.{Lacks, Stops, macros_in, place_of}
use Rattle.gerber_reading.specs.Tools.{composed, macro_named}
use Rattle.gerber_reading.specs.declared.kind.GerberKind.{GerberKind}
use Rattle.gerber_reading.specs.declared.place.Place.{Place}
use Rattle.step_repeat.specs.Copies.{edges_by, piece_by, pieces_by}
use Rattle.real_copper.specs.Figures.{RealFigure, real_edges, real_handling}
use Rattle.real_copper.specs.Kinds.{gerber}
use Rattle.real_copper.specs.RealReader.{IsFlashed, Seen, halt_of, known, plain}
use Rattle.real_copper.specs.Rows.{RealKnown, all_flashed, flash_with, flashed, macro_figures}
use Rattle.real_copper.specs.declared.anchored.Anchored.{Anchored}

edges_made : (p : Place) (n : ℕ) (figures : List RealFigure) → edges_by real_handling (made p n figures) ≡ sum_by real_edges figures
edges_made p n [] = refl
edges_made p n (f ∷ figures) =
    sum_by-cons (λ (q : PieceOf RealFigure). real_edges q.figure) (piece_of p n f) (made p n figures) ∙ ap (λ (k : ℕ). real_edges f + k) (edges_made p n figures) ∙ sym (sum_by-cons real_edges f figures)

-- the room is asked for as many pieces as there are figures, with as many edges
same_room : (k : RealKnown) (p : Place) (n : ℕ) (pieces : List (Placed Anchored)) (figures : List RealFigure) → pieces_by plain pieces ≡ made p n figures → lacks_room real_handling k (length pieces) (edges_by real_handling (pieces_by plain pieces)) ≡ lacks_room real_handling k (length figures) (sum_by real_edges figures)
same_room k p n pieces figures h =
    let count : length pieces ≡ length figures = sym (length-map pieces (piece_by plain)) ∙ ap length h ∙ length-map figures (piece_of p n) in
    ap (λ (m : ℕ). lacks_room real_handling k m (edges_by real_handling (pieces_by plain pieces))) count ∙ ap (λ (m : ℕ). lacks_room real_handling k (length figures) m) (ap (edges_by real_handling) h ∙ edges_made p n figures)

lacks : (k : RealKnown) (to : Spot) (name : List ℕ) (parameters : List Fraction) (unit : Measure) (figures : List RealFigure) (why : GerberKind) → selected k ≡ Some (composed name parameters unit) → all_flashed (macro_figures (macro_named k.macros name) parameters unit to) ≡ Ok figures → lacks_room real_handling k (length figures) (sum_by real_edges figures) ≡ Some why → flashed k to ≡ Err (gerber why)
unfolding flashed flash_with
lacks k to name parameters unit figures why s f r = rw (s, f, r) refl

-- what there is no room for stops the flash
pub composed_stops : (r : Seen) (to : Spot) (name : List ℕ) (parameters : List Fraction) (unit : Measure) (pieces : List (Placed Anchored)) → selected (known r) ≡ Some (composed name parameters unit) → IsFlashed r (all_flashed (macro_figures (macro_named (macros_in r.dictionary) name) parameters unit to)) pieces → (why : Halt GerberKind) → Lacks (lacks_room real_handling (known r) (length pieces) (edges_by real_handling (pieces_by plain pieces))) why → Stops (flashed (known r) to) (halt_of why)
composed_stops r to name parameters unit pieces s f (halt.Fault why) h = lacks (known r) to name parameters unit f.figures why s f.is (sym (same_room (known r) (place_of r) (r.commands + 1) pieces f.figures f.are) ∙ h)
composed_stops r to name parameters unit pieces s f halt.NoMemory h = tt
