-- Areas: what stands behind the lines of a figure that a region bounds.
use Rattle.std.proofs.Common.{◌≡◌, ℕ, ◌+◌, ◌<◌, ◌≤◌, true, nat_eq, List, [], ◌∷◌, ◌++◌, length, map, pos, Option, Some, None, refl, sym, ap, ◌∙◌, subst, arith, append_assoc, append-nil, length-append}
use Rattle.std.proofs.lemmas.List.Sums.{sum_by-cons}
use Rattle.std.specs.List.{list_any, AllByRecursion}
use Rattle.std.specs.Prelude.{codes, sum_by}
use Rattle.planar.specs.Plane.{IsPlaced}
use Rattle.planar.specs.declared.Spot.{Spot}
use Rattle.area_contact.specs.Contour.{end_from, IsContour}
use Rattle.board_shapes.specs.Figures.{Figure, filled, figure_edges}
use Rattle.board_shapes.specs.Pieces.{PlainPiece}
use Rattle.apertures.specs.declared.aperture.Aperture.TheVariants.{Circle}
use Rattle.gerber_reading.specs.Command.{Command, opens_region, closes_region}
use Rattle.gerber_reading.specs.declared.command.Code.TheVariants.{Draw, Move}
use Rattle.gerber_layer.specs.CommandEffects.{opens, closes, extends, leaves, edges_of, edges_in}
use Rattle.gerber_reading.specs.declared.place.Place.{Place}
use Rattle.gerber_layer.specs.Tools.{standard}
use Rattle.gerber_reading.specs.Settings.{aperture_before, region_open, point_before, lengthened}
use Rattle.gerber_layer.specs.Image.{known_before, pieces_of}
use Rattle.macro_flatten.specs.FlatText.{word, number_of, move, draw, area_lines}
use Rattle.macro_flatten.proofs.Operations.{reads_move, reads_draw, reads_opening, reads_closing}
use Rattle.macro_flatten.proofs.Effects.{at_spot, opens_one, begins_at, extends_to, leaves_one}
use Rattle.macro_flatten.proofs.History.{told, behind, behind-append, as_read, figure_in, Stands, is_set, clean_then, pieces_then, figures-none, figures-more, point_then}
use Rattle.macro_flatten.proofs.Drawing.{Drawing, as_many}
use Rattle.area_contact.specs.declared.TheConstants.{MOST_CONTOUR_EDGES}
use Rattle.macro_flatten.proofs.Exact.{contour_before, defined_before}
use Rattle.regions.specs.Contours.{Leg, Outline, close_of}
use Rattle.gerber_layer.specs.CommandEffects.{contour_closed}
use Rattle.std.proofs.lemmas.List.{length-map, map-append}

-- the points of the contour from a spot through others, and the contour
abbrev pub traced : Spot → List Spot → List Spot
traced a [] = []
traced a (b ∷ rest) = a ∷ b ∷ rest

abbrev pub leg_to : Spot → Leg (Unit {0})
leg_to to = record { to = to; bend = tt }

abbrev pub outlined : Spot → List Spot → Option (Outline (Unit {0}))
outlined a [] = None
outlined a (b ∷ rest) = Some (record { first = a; legs = map leg_to (b ∷ rest) })

-- it closes as its points do
legs_back : (spots : List Spot) → map (λ (l : Leg (Unit {0})). l.to) (map leg_to spots) ≡ spots
legs_back [] = refl
legs_back (b ∷ rest) = ap (λ (xs : List Spot). b ∷ xs) (legs_back rest)

closes_alike : (a : Spot) (done : List Spot) → contour_closed (outlined a done) ≡ close_of (traced a done)
unfolding close_of
closes_alike a [] = refl
closes_alike a (b ∷ rest) = ap (λ (xs : List Spot). close_of (a ∷ b ∷ xs)) (legs_back rest)

-- In a region: the contour leads from a spot through these.
pub record Bounding (p : Place) (pens : List ℕ) (last : Option ℕ) (figures : List Figure) (a : Spot) (done : List Spot) (h : List Command) : Type 0 where
  pub stands : Stands p h
  pub inside : region_open h ≡ true
  pub selected : aperture_before h ≡ last
  pub defined : (d : ℕ) → list_any (nat_eq d) pens ≡ true → defined_before h (number_of pens d) ≡ Some (standard (Circle (pos d)))
  pub are : map figure_in (pieces_of p h) ≡ figures
  pub contour : contour_before h ≡ outlined a done
  pub at : point_before h ≡ end_from a done

-- the edges of the pieces are those of their figures
pub edges_are : (pieces : List PlainPiece) → edges_of pieces ≡ sum_by figure_edges (map figure_in pieces)
edges_are [] = refl
edges_are (q ∷ pieces) = sum_by-cons (λ (x : PlainPiece). figure_edges x.figure) q pieces ∙ ap (λ (n : ℕ). figure_edges q.figure + n) (edges_are pieces) ∙ sym (sum_by-cons figure_edges q.figure (map figure_in pieces))

-- the region opens
opened : (p : Place) (pens : List ℕ) (last : Option ℕ) (figures : List Figure) (h : List Command) (a : Spot) → IsPlaced a → Drawing p pens last figures h → Bounding p pens last figures a [] (at_spot a Move ∷ opens_region ∷ h)
opened p pens last figures h a placed d =
    let e = opens_one (known_before p h) (is_set p h d.stands) d.outside in
    let s : Stands p (opens_region ∷ h) = record { clean = clean_then p h opens_region opens d.stands.clean e; format = d.stands.format; unit = d.stands.unit; block = d.stands.block; ended = d.stands.ended } in
    let are : map figure_in (pieces_of p (opens_region ∷ h)) ≡ figures = ap (map figure_in) (pieces_then p h opens_region opens e) ∙ d.are in
    let f = begins_at (known_before p (opens_region ∷ h)) a (is_set p (opens_region ∷ h) s) placed refl refl in
    record {
      stands = record { clean = clean_then p (opens_region ∷ h) (at_spot a Move) (closes a None) s.clean f; format = s.format; unit = s.unit; block = s.block; ended = s.ended };
      inside = refl;
      selected = d.selected;
      defined = d.defined;
      are = ap (map figure_in) (pieces_then p (opens_region ∷ h) (at_spot a Move) (closes a None) f) ∙ figures-none p (length (opens_region ∷ h) + 1) (pieces_of p (opens_region ∷ h)) figures are;
      contour = refl;
      at = point_then p (opens_region ∷ h) a Move s placed;
    }

traced-push : (a b from : Spot) (done : List Spot) → from ≡ end_from a done → lengthened (outlined a done) from b tt ≡ outlined a (done ++ b ∷ [])
traced-push a b from [] e = ap (λ (q : Spot). Some (record { first = q; legs = leg_to b ∷ [] })) e
traced-push a b from (c ∷ done) e = ap (λ (legs : List (Leg (Unit {0}))). Some (record { first = a; legs = legs })) (sym (map-append leg_to (c ∷ done) (b ∷ [])))

end-push : (a b : Spot) (done : List Spot) → end_from a (done ++ b ∷ []) ≡ b
end-push a b [] = refl
end-push a b (c ∷ done) = end-push c b done

edges-traced : (a : Spot) (done : List Spot) → edges_in (outlined a done) ≡ length done
edges-traced a [] = refl
edges-traced a (c ∷ done) = length-map (c ∷ done) leg_to

-- one edge more
lengthens : (p : Place) (pens : List ℕ) (last : Option ℕ) (figures : List Figure) (h : List Command) (a b : Spot) (done : List Spot) → IsPlaced b → length done < MOST_CONTOUR_EDGES → sum_by figure_edges figures + (length done + 1) ≤ p.room.edges → Bounding p pens last figures a done h → Bounding p pens last figures a (done ++ b ∷ []) (at_spot b Draw ∷ h)
lengthens p pens last figures h a b done placed few room d =
    let edges : edges_in (contour_before h) ≡ length done = ap edges_in d.contour ∙ edges-traced a done in
    let all : edges_of (pieces_of p h) ≡ sum_by figure_edges figures = edges_are (pieces_of p h) ∙ ap (sum_by figure_edges) d.are in
    let e = extends_to (known_before p h) b (is_set p h d.stands) placed d.inside (omega (arith, edges, few)) (omega (arith, edges, all, room)) in
    record {
      stands = record { clean = clean_then p h (at_spot b Draw) (extends b tt) d.stands.clean e; format = d.stands.format; unit = d.stands.unit; block = d.stands.block; ended = d.stands.ended };
      inside = d.inside;
      selected = d.selected;
      defined = d.defined;
      are = ap (map figure_in) (pieces_then p h (at_spot b Draw) (extends b tt) e) ∙ d.are;
      contour = (let to : point_before (at_spot b Draw ∷ h) ≡ b = point_then p h b Draw d.stands placed in rw (d.inside, d.contour, to) (traced-push a b (point_before h) done d.at));
      at = point_then p h b Draw d.stands placed ∙ sym (end-push a b done);
    }

-- and all of them
lengthens_all : (p : Place) (pens : List ℕ) (last : Option ℕ) (figures : List Figure) (h : List Command) (a : Spot) (done rest : List Spot) → AllByRecursion IsPlaced rest → length done + length rest ≤ MOST_CONTOUR_EDGES → sum_by figure_edges figures + (length done + length rest) ≤ p.room.edges → Bounding p pens last figures a done h → Bounding p pens last figures a (done ++ rest) (behind h (map draw rest))
lengthens_all p pens last figures h a done [] placed few room d = subst (λ (xs : List Spot). Bounding p pens last figures a xs h) (sym (append-nil done)) d
lengthens_all p pens last figures h a done (b ∷ rest) placed few room d =
    let more = lengthens p pens last figures h a b done placed.0 (omega (arith, few)) (omega (arith, room)) d in
    let read = as_read (Bounding p pens last figures a (done ++ b ∷ [])) h (draw b) (at_spot b Draw) (reads_draw b placed.0) more in
    let long : length (done ++ b ∷ []) ≡ length done + 1 = length-append done (b ∷ []) in
    let all = lengthens_all p pens last figures (told (draw b) ∷ h) a (done ++ b ∷ []) rest placed.1 (omega (arith, few, long)) (omega (arith, room, long)) read in
    subst (λ (xs : List Spot). Bounding p pens last figures a xs (behind (told (draw b) ∷ h) (map draw rest))) (append_assoc done (b ∷ []) rest) all

-- the region closes
closed : (p : Place) (pens : List ℕ) (last : Option ℕ) (figures : List Figure) (h : List Command) (a : Spot) (done : List Spot) → IsContour (traced a done) → length figures < p.room.pieces → Bounding p pens last figures a done h → Drawing p pens last (figures ++ filled (traced a done) ∷ []) (closes_region ∷ h)
closed p pens last figures h a done contour room d =
    let figure : Figure = filled (traced a done) in
    let many = as_many p h figures d.are in
    let e = leaves_one (known_before p h) (traced a done) (is_set p h d.stands) d.inside (ap contour_closed d.contour ∙ closes_alike a done) contour (rw many room) in
    record {
      stands = record { clean = clean_then p h closes_region (leaves (Some figure)) d.stands.clean e; format = d.stands.format; unit = d.stands.unit; block = d.stands.block; ended = d.stands.ended };
      outside = refl;
      selected = d.selected;
      defined = d.defined;
      are = ap (map figure_in) (pieces_then p h closes_region (leaves (Some figure)) e) ∙ figures-more p (length h + 1) (pieces_of p h) figures figure d.are;
    }

-- ---- The lines of an area

area_from : (p : Place) (pens : List ℕ) (last : Option ℕ) (figures : List Figure) (h : List Command) (a b : Spot) (rest : List Spot) → IsContour (a ∷ b ∷ rest) → AllByRecursion IsPlaced (a ∷ b ∷ rest) → length figures < p.room.pieces → sum_by figure_edges figures + (length rest + 1) ≤ p.room.edges → Drawing p pens last figures h → Drawing p pens last (figures ++ filled (a ∷ b ∷ rest) ∷ []) (behind h (area_lines (a ∷ b ∷ rest)))
area_from p pens last figures h a b rest contour placed room edges d =
    let few = contour.not_many in
    let start = opened p pens last figures h a placed.0 d in
    let read : Bounding p pens last figures a [] (told (move a) ∷ told (word (codes "G36")) ∷ h) = rw (reads_move a placed.0, reads_opening) start in
    let all = lengthens_all p pens last figures (told (move a) ∷ told (word (codes "G36")) ∷ h) a [] (b ∷ rest) placed.1 (omega (arith, few)) (omega (arith, edges)) read in
    let end = closed p pens last figures (behind (told (move a) ∷ told (word (codes "G36")) ∷ h) (map draw (b ∷ rest))) a (b ∷ rest) contour room all in
    let last_read = as_read (Drawing p pens last (figures ++ filled (a ∷ b ∷ rest) ∷ [])) (behind (told (move a) ∷ told (word (codes "G36")) ∷ h) (map draw (b ∷ rest))) (word (codes "G37")) closes_region reads_closing end in
    subst (Drawing p pens last (figures ++ filled (a ∷ b ∷ rest) ∷ [])) (sym (behind-append (told (move a) ∷ told (word (codes "G36")) ∷ h) (map draw (b ∷ rest)) (word (codes "G37") ∷ []))) last_read

pub area-then : (p : Place) (pens : List ℕ) (last : Option ℕ) (figures : List Figure) (h : List Command) (points : List Spot) → IsContour points → AllByRecursion IsPlaced points → length figures < p.room.pieces → sum_by figure_edges figures + figure_edges (filled points) ≤ p.room.edges → Drawing p pens last figures h → Drawing p pens last (figures ++ filled points ∷ []) (behind h (area_lines points))
area-then p pens last figures h [] c placed room edges d = let few = c.enough in absurd (omega (arith, few))
area-then p pens last figures h (a ∷ []) c placed room edges d = let few = c.enough in absurd (omega (arith, few))
area-then p pens last figures h (a ∷ b ∷ rest) c placed room edges d = area_from p pens last figures h a b rest c placed room (omega (arith, edges)) d
