-- Strokes: what stands behind the lines of a figure that is drawn.
use Rattle.std.proofs.Common.{◌≡◌, ℕ, ◌+◌, ◌*◌, ◌<◌, ◌≤◌, Bool, true, false, nat_eq, cond, List, [], ◌∷◌, ◌++◌, length, map, ℤ, pos, negsuc, Option, Some, None, refl, sym, ap, ◌∙◌, subst, arith}
use Rattle.std.proofs.lemmas.Bool.{eqb-true}
use Rattle.std.proofs.lemmas.Int.{ints}
use Rattle.std.proofs.lemmas.List.{length-map}
use Rattle.std.specs.List.{list_any}
use Rattle.std.specs.Prelude.{decimal, unsigned_abs, ◌<ℤ◌}
use Rattle.planar.specs.Plane.{IsPlaced}
use Rattle.planar.specs.declared.Spot.{Spot}
use Rattle.board_shapes.specs.Figures.{Figure, Stroke, round}
use Rattle.apertures.specs.declared.aperture.Aperture.TheVariants.{Circle}
use Rattle.gerber_reading.specs.Command.{Command, selects}
use Rattle.gerber_reading.specs.declared.command.Code.TheVariants.{Draw, Move}
use Rattle.gerber_layer.specs.CommandEffects.{stays, performs}
use Rattle.gerber_reading.specs.declared.place.Place.{Place}
use Rattle.gerber_layer.specs.Tools.{Tool, standard}
use Rattle.gerber_reading.specs.Settings.{aperture_before, region_open, point_before}
use Rattle.gerber_layer.specs.Image.{known_before, pieces_of}
use Rattle.macro_flatten.specs.FlatText.{word, number_of, pen_of, move, draw, selection, is_selected, stroke_lines}
use Rattle.macro_flatten.proofs.Operations.{reads_selection, reads_move, reads_draw}
use Rattle.macro_flatten.proofs.Effects.{at_spot, selects_one, moves, draws}
use Rattle.macro_flatten.proofs.History.{behind, behind-append, as_read, figure_in, Stands, is_set, clean_then, pieces_then, figures-none, figures-more, point_then}
use Rattle.macro_flatten.proofs.Exact.{defined_before}

-- Outside a region: each pen has its aperture, this one is selected, and these are the figures so far.
pub record Drawing (p : Place) (pens : List ℕ) (last : Option ℕ) (figures : List Figure) (h : List Command) : Type 0 where
  pub stands : Stands p h
  pub outside : region_open h ≡ false
  pub selected : aperture_before h ≡ last
  pub defined : (d : ℕ) → list_any (nat_eq d) pens ≡ true → defined_before h (number_of pens d) ≡ Some (standard (Circle (pos d)))
  pub are : map figure_in (pieces_of p h) ≡ figures

pub as_many : (p : Place) (h : List Command) (figures : List Figure) → map figure_in (pieces_of p h) ≡ figures → length (pieces_of p h) ≡ length figures
as_many p h figures e = sym (length-map (pieces_of p h) figure_in) ∙ ap length e

drawing-select : (p : Place) (pens : List ℕ) (last : Option ℕ) (figures : List Figure) (h : List Command) (n : ℕ) (a : Tool) → defined_before h n ≡ Some a → Drawing p pens last figures h → Drawing p pens (Some n) figures (selects n ∷ h)
drawing-select p pens last figures h n a is d =
    let e = selects_one (known_before p h) n a (is_set p h d.stands) is in
    record {
      stands = record { clean = clean_then p h (selects n) stays d.stands.clean e; format = d.stands.format; unit = d.stands.unit; block = d.stands.block; ended = d.stands.ended };
      outside = d.outside;
      selected = refl;
      defined = d.defined;
      are = ap (map figure_in) (pieces_then p h (selects n) stays e) ∙ d.are;
    }

drawing-move : (p : Place) (pens : List ℕ) (last : Option ℕ) (figures : List Figure) (h : List Command) (to : Spot) → IsPlaced to → Drawing p pens last figures h → Drawing p pens last figures (at_spot to Move ∷ h)
drawing-move p pens last figures h to placed d =
    let e = moves (known_before p h) to (is_set p h d.stands) placed d.outside in
    record {
      stands = record { clean = clean_then p h (at_spot to Move) (performs to []) d.stands.clean e; format = d.stands.format; unit = d.stands.unit; block = d.stands.block; ended = d.stands.ended };
      outside = d.outside;
      selected = d.selected;
      defined = d.defined;
      are = ap (map figure_in) (pieces_then p h (at_spot to Move) (performs to []) e) ∙ figures-none p (length h + 1) (pieces_of p h) figures d.are;
    }

drawing-draw : (p : Place) (pens : List ℕ) (figures : List Figure) (h : List Command) (r : ℕ) (to : Spot) → IsPlaced to → list_any (nat_eq (2 * r)) pens ≡ true → 1 ≤ r → length figures < p.room.pieces → Drawing p pens (Some (number_of pens (2 * r))) figures h → Drawing p pens (Some (number_of pens (2 * r))) (figures ++ round (record { a = point_before h; b = to; r = pos r }) ∷ []) (at_spot to Draw ∷ h)
drawing-draw p pens figures h r to placed known some room d =
    let figure : Figure = round (record { a = point_before h; b = to; r = pos r }) in
    let many = as_many p h figures d.are in
    let e = draws (known_before p h) to r (is_set p h d.stands) placed d.outside (rw d.selected (d.defined (2 * r) known)) some (rw many room) in
    record {
      stands = record { clean = clean_then p h (at_spot to Draw) (performs to (figure ∷ [])) d.stands.clean e; format = d.stands.format; unit = d.stands.unit; block = d.stands.block; ended = d.stands.ended };
      outside = d.outside;
      selected = d.selected;
      defined = d.defined;
      are = ap (map figure_in) (pieces_then p h (at_spot to Draw) (performs to (figure ∷ [])) e) ∙ figures-more p (length h + 1) (pieces_of p h) figures figure d.are;
    }

-- ---- The lines of a stroke

-- the aperture is selected
selected_then : (p : Place) (pens : List ℕ) (last : Option ℕ) (figures : List Figure) (h : List Command) (n : ℕ) (a : Tool) → 10 ≤ n → n ≤ 70_000 → defined_before h n ≡ Some a → Drawing p pens last figures h → Drawing p pens (Some n) figures (behind h (selection last n))
selected_then p pens last figures h n a low high is d = by last (is_selected last n) refl d
  where
    by : (last : Option ℕ) (b : Bool) → is_selected last n ≡ b → Drawing p pens last figures h → Drawing p pens (Some n) figures (behind h (cond (is_selected last n) [] (word (68 ∷ decimal n) ∷ [])))
    by None b e d = as_read (Drawing p pens (Some n) figures) h (word (68 ∷ decimal n)) (selects n) (reads_selection n low high) (drawing-select p pens None figures h n a is d)
    by (Some m) true e d = let same : m ≡ n = eqb-true m n e in rw e (subst (λ (k : ℕ). Drawing p pens (Some k) figures h) same d)
    by (Some m) false e d = rw e (as_read (Drawing p pens (Some n) figures) h (word (68 ∷ decimal n)) (selects n) (reads_selection n low high) (drawing-select p pens (Some m) figures h n a is d))

-- a radius over 0 is its amount
amount : (r : ℤ) → pos 0 <ℤ r → (r ≡ pos (unsigned_abs r)) × (1 ≤ unsigned_abs r)
amount (pos n) h = (refl, omega (arith, ints, h))
amount (negsuc n) h = absurd (omega (arith, ints, h))

stroke_drawn : (p : Place) (pens : List ℕ) (figures : List Figure) (h : List Command) (s : Stroke) → IsPlaced s.a → IsPlaced s.b → pos 0 <ℤ s.r → list_any (nat_eq (pen_of s)) pens ≡ true → length figures < p.room.pieces → Drawing p pens (Some (number_of pens (pen_of s))) figures h → Drawing p pens (Some (number_of pens (pen_of s))) (figures ++ round s ∷ []) (behind h (move s.a ∷ draw s.b ∷ []))
stroke_drawn p pens figures h s a b some known room d =
    let n : Option ℕ = Some (number_of pens (pen_of s)) in
    let r = amount s.r some in
    let moved = drawing-move p pens n figures h s.a a d in
    let drawn = drawing-draw p pens figures (at_spot s.a Move ∷ h) (unsigned_abs s.r) s.b b known r.1 room moved in
    let there : point_before (at_spot s.a Move ∷ h) ≡ s.a = point_then p h s.a Move d.stands a in
    let figure : round (record { a = point_before (at_spot s.a Move ∷ h); b = s.b; r = pos (unsigned_abs s.r) }) ≡ round s = ap (λ (q : Spot). round (record { a = q; b = s.b; r = pos (unsigned_abs s.r) })) there ∙ ap (λ (z : ℤ). round (record { a = s.a; b = s.b; r = z })) (sym r.0) in
    let all : Drawing p pens n (figures ++ round s ∷ []) (at_spot s.b Draw ∷ at_spot s.a Move ∷ h) = subst (λ (f : Figure). Drawing p pens n (figures ++ f ∷ []) (at_spot s.b Draw ∷ at_spot s.a Move ∷ h)) figure drawn in
    rw (reads_draw s.b b, reads_move s.a a) all

pub stroke-then : (p : Place) (pens : List ℕ) (last : Option ℕ) (figures : List Figure) (h : List Command) (s : Stroke) → IsPlaced s.a → IsPlaced s.b → pos 0 <ℤ s.r → list_any (nat_eq (pen_of s)) pens ≡ true → number_of pens (pen_of s) ≤ 70_000 → length figures < p.room.pieces → Drawing p pens last figures h → Drawing p pens (Some (number_of pens (pen_of s))) (figures ++ round s ∷ []) (behind h (stroke_lines pens last s))
stroke-then p pens last figures h s a b some known high room d =
    let n = number_of pens (pen_of s) in
    let chosen = selected_then p pens last figures h n (standard (Circle (pos (pen_of s)))) (omega arith) high (d.defined (pen_of s) known) d in
    subst (Drawing p pens (Some n) (figures ++ round s ∷ [])) (sym (behind-append h (selection last n) (move s.a ∷ draw s.b ∷ []))) (stroke_drawn p pens figures (behind h (selection last n)) s a b some known room chosen)
