-- What the commands of a copper file make: figures that can be drawn, within the room.
use Rattle.std.proofs.Common.{unsigned_abs, ◌≡◌, ℕ, zero, suc, ◌+◌, ◌-◌, ◌<◌, ◌≤◌, Bool, true, false, not, cond, eqb, nat_le, nat_lt, List, [], ◌∷◌, ◌++◌, length, take, drop, ℤ, Option, Some, None, Result, Ok, Err, refl, sym, ap, ◌∙◌, subst, arith, length-append}
use Rattle.std.proofs.lemmas.Bool.{eqb-true, leb-false, ltb-false}
use Rattle.std.proofs.lemmas.List.{length-map, length-take}
use Rattle.std.proofs.lemmas.List.Sums.{sum_by-cons, sum_by-append, sum_by-take-le}
use Rattle.std.specs.List.{AllByRecursion}
use Rattle.std.specs.Prelude.{sum_by}
use Rattle.lengths.specs.Decimal.{Fraction}
use Rattle.lengths.specs.declared.decimal.Unit.{Unit as Measure}
use Rattle.planar.specs.Plane.{IsPlaced, same_spot}
use Rattle.planar.specs.declared.Spot.{Spot}
use Rattle.area_contact.specs.Contour.{end_from}
use Rattle.board_shapes.specs.Figures.{Figure, round, figure_edges}
use Rattle.board_shapes.specs.Pieces.{PlainPiece}
use Rattle.apertures.specs.declared.aperture.Aperture.{Aperture}
use Rattle.apertures.specs.declared.aperture.Aperture.TheVariants.{Circle, Rectangle, Obround}
use Rattle.apertures.specs.Definition.{is_zero}
use Rattle.apertures.specs.Flash.{NoFlash, IsNarrow, IsSize, IsLawful, flash_of, half}
use Rattle.aperture_macros.specs.BodyWord.{PlainPrimitive}
use Rattle.aperture_macros.specs.Flashes.{figure_at}
use Rattle.aperture_macros.specs.Sized.{IsSized}
use Rattle.aperture_macros.specs.declared.fault.MacroFault.{MacroFault}
use Rattle.regions.specs.Contours.{Flaw, stays_open, too_short, close_of}
use Rattle.step_repeat.specs.Copies.{Refusal, copies_at}
use Rattle.step_repeat.specs.declared.repeat.Repeat.{Repeat}
use Rattle.gerber_reading.specs.declared.kind.GerberKind.{GerberKind}
use Rattle.gerber_reading.specs.declared.kind.GerberKind.TheVariants as kind
use Rattle.gerber_layer.specs.CommandEffects.{Known, Effect, performs, ◌>>=◌, needed, selected, lookup, edges_of, edges_in, exceed, draw, figures_of, macro_figures, all_flashed, room_or, room_for_all, flash, flash_by, flash_with, flashed, closing, closed, contour_closed, area_if, with_copies, as_copies, left, listed}
use Rattle.gerber_reading.specs.declared.place.Place.{Place}
use Rattle.gerber_layer.specs.Tools.{Tool, standard, composed, macro_named, pen_with}
use Rattle.gerber_layer.specs.Image.{made, piece_of}
use Rattle.gerber_layer.proofs.MacroFlash.{edges_made as edges_of_made}
use Rattle.gerber_layer.proofs.Outcome.{bind_ok, got}
use Rattle.macro_flatten.specs.Laws.{IsDrawn}
use Rattle.macro_flatten.proofs.EarlierCommands.{AreSized, HaveSizes, IsLawfulTool}
use Rattle.macro_flatten.proofs.Drawn.{pen_drawn, flash_drawn, contour_drawn}
use Rattle.macro_flatten.proofs.Copies.{Drawn, all-append, are_copies}
use Rattle.macro_flatten.proofs.Primitives.{primitive_drawn}
use Rattle.area_contact.specs.declared.TheConstants.{MOST_CONTOUR_POINTS}
use Rattle.gerber_reading.specs.CommandEffects.{ended_block_by, room_for}
use Rattle.gerber_reading.specs.CommandEffects as reading
use Rattle.gerber_layer.specs.CommandEffects.{edges_for, ended_block}
use Rattle.gerber_reading.specs.Settings.{spots_of}
use Rattle.regions.specs.Contours.{Leg, Outline}

-- what earlier commands have set is lawful
pub record Sound (k : Known) : Type 0 where
  pub placed : IsPlaced k.settings.at
  pub contour : AllByRecursion IsPlaced (spots_of k.contour)
  pub outside : k.settings.region ≡ false → k.contour ≡ None
  pub apertures : (n : ℕ) (a : Tool) → k.defined n ≡ Some a → IsLawfulTool a
  pub macros : HaveSizes k.macros

-- the pieces can be drawn, and they and the contour are within the room
pub record Within (k : Known) : Type 0 where
  pub short : length (spots_of k.contour) ≤ MOST_CONTOUR_POINTS
  pub drawn : Drawn k.pieces
  pub few : length k.pieces ≤ k.place.room.pieces
  pub edges : edges_of k.pieces + edges_in k.contour ≤ k.place.room.edges

-- pieces that can be drawn, within the room
pub record Fit (p : Place) (pieces : List PlainPiece) : Type 0 where
  pub drawn : Drawn pieces
  pub few : length pieces ≤ p.room.pieces
  pub edges : edges_of pieces ≤ p.room.edges

pub as_fit : (k : Known) → Within k → Fit k.place k.pieces
as_fit k w = let edges = w.edges in record { drawn = w.drawn; few = w.few; edges = omega (arith, edges) }

-- figures more that can be drawn, and have room
pub record Fits (k : Known) (figures : List Figure) : Type 0 where
  pub drawn : AllByRecursion IsDrawn figures
  pub few : length k.pieces + length figures ≤ k.place.room.pieces
  pub edges : edges_of k.pieces + sum_by figure_edges figures ≤ k.place.room.edges

made_drawn : (p : Place) (n : ℕ) (figures : List Figure) → AllByRecursion IsDrawn figures → Drawn (made p n figures)
made_drawn p n [] h = tt
made_drawn p n (f ∷ figures) h = (h.0, made_drawn p n figures h.1)

pub pushed : (k : Known) (n : ℕ) (figures : List Figure) → Within k → Fits k figures → Fit k.place (k.pieces ++ made k.place n figures)
pushed k n figures w h =
    let few = h.few in
    let edges = h.edges in
    let more = edges_of_made k.place n figures in
    let count = length-map figures (piece_of k.place n) in
    let long = length-append k.pieces (made k.place n figures) in
    let sum = sum_by-append (λ (q : PlainPiece). figure_edges q.figure) k.pieces (made k.place n figures) in
    record {
      drawn = all-append (λ (q : PlainPiece). IsDrawn q.figure) k.pieces (made k.place n figures) w.drawn (made_drawn k.place n figures h.drawn);
      few = omega (arith, few, long, count);
      edges = omega (arith, edges, sum, more);
    }

-- none, or one that can be drawn and has room
FitsOne : Known → Option Figure → Type 0
FitsOne k None = Unit {0}
FitsOne k (Some f) = IsDrawn f × (length k.pieces < k.place.room.pieces) × (edges_of k.pieces + figure_edges f ≤ k.place.room.edges)

none_fits : (k : Known) → Within k → Fits k []
none_fits k w = let few = w.few in let edges = w.edges in record { drawn = tt; few = omega (arith, few); edges = omega (arith, edges) }

listed_fits : (k : Known) (o : Option Figure) → Within k → FitsOne k o → Fits k (listed o)
unfolding FitsOne
listed_fits k None w h = none_fits k w
listed_fits k (Some f) w h =
    let few = h.1 in
    let edges = h.2 in
    let sum = sum_by-cons figure_edges f [] in
    record { drawn = (h.0, tt); few = omega (arith, few); edges = omega (arith, edges, sum) }

-- ---- Room

HasRoom : Known → Option Figure → Type 0
HasRoom k None = Unit {0}
HasRoom k (Some f) = length k.pieces < k.place.room.pieces

HasEdges : Known → Option Figure → Type 0
HasEdges k None = Unit {0}
HasEdges k (Some f) = edges_of k.pieces + figure_edges f ≤ k.place.room.edges

room_made : (k : Known) (o r : Option Figure) → room_for k o ≡ Ok r → (r ≡ o) × HasRoom k r
unfolding room_for HasRoom
room_made k None None h = (refl, tt)
room_made k None (Some g) h = cc
room_made k (Some f) r h = by (nat_le k.place.room.pieces (length k.pieces)) refl h
  where
    by : (b : Bool) → nat_le k.place.room.pieces (length k.pieces) ≡ b → ◌≡◌ {A = Result (Option Figure) GerberKind} (cond b (Err kind.TooManyPieces) (Ok (Some f))) (Ok r) → (r ≡ Some f) × HasRoom k r
    by true e h = cc
    by false e h = let s : Some f ≡ r = cc in (sym s, subst (HasRoom k) s (leb-false _ _ e))

edges_made : (k : Known) (o r : Option Figure) → edges_for k o ≡ Ok r → (r ≡ o) × HasEdges k r
unfolding reading.edges_for HasEdges
edges_made k None None h = (refl, tt)
edges_made k None (Some g) h = cc
edges_made k (Some f) r h = by (exceed k (figure_edges f)) refl h
  where
    by : (b : Bool) → exceed k (figure_edges f) ≡ b → ◌≡◌ {A = Result (Option Figure) GerberKind} (cond b (Err kind.TooManyVertices) (Ok (Some f))) (Ok r) → (r ≡ Some f) × HasEdges k r
    by true e h = cc
    by false e h = let s : Some f ≡ r = cc in (sym s, subst (HasEdges k) s (ltb-false _ _ e))

-- ---- Apertures

selected_lawful : (o : Option ℕ) (defined : ℕ → Option Tool) (a : Tool) → ((n : ℕ) (a : Tool) → defined n ≡ Some a → IsLawfulTool a) → lookup o defined ≡ Some a → IsLawfulTool a
selected_lawful None defined a f h = cc
selected_lawful (Some n) defined a f h = f n a h

pen_size : (a : Tool) (d : ℤ) → IsLawfulTool a → pen_with a ≡ Some d → IsSize d × IsNarrow (unsigned_abs d)
pen_size (standard (Circle c)) d h e = let same : c ≡ d = cc in subst (λ (z : ℤ). IsSize z × IsNarrow (unsigned_abs z)) same h
pen_size (standard (Rectangle x y)) d h e = cc
pen_size (standard (Obround x y)) d h e = cc
pen_size (composed name parameters unit) d h e = cc

-- ---- Draws and flashes

-- an operation outside a region made figures that fit
pub record Made (k : Known) (to : Spot) (e : Effect) : Type 0 where
  pub figures : List Figure
  pub is : e ≡ performs to figures
  pub fits : Fits k figures

pub draw_made : (k : Known) (to : Spot) (e : Effect) → Sound k → Within k → IsPlaced to → draw k to ≡ Ok e → Made k to e
unfolding draw HasRoom FitsOne
draw_made k to e s w there h =
    let stroke = λ (pen : ℤ). round (record { a = k.settings.at; b = to; r = half pen }) in
    let f = λ (pen : ℤ). room_for k (cond (is_zero pen) None (Some (stroke pen))) in
    let a = bind_ok (needed kind.NoAperture (selected k)) (λ aperture. needed kind.PenNotCircle (pen_with aperture) >>= λ pen. f pen >>= λ figure. Ok (performs to (listed figure))) e h in
    let p = bind_ok (needed kind.PenNotCircle (pen_with a.0)) (λ pen. f pen >>= λ figure. Ok (performs to (listed figure))) e a.2 in
    let r = bind_ok (f p.0) (λ figure. Ok (performs to (listed figure))) e p.2 in
    let made : Ok (performs to (listed r.0)) ≡ Ok e = r.2 in
    let same : performs to (listed r.0) ≡ e = cc in
    let lawful = selected_lawful k.settings.selected k.defined a.0 s.apertures (got kind.NoAperture (selected k) a.0 a.1) in
    let size = pen_size a.0 p.0 lawful (got kind.PenNotCircle (pen_with a.0) p.0 p.1) in
    let m = room_made k (cond (is_zero p.0) None (Some (stroke p.0))) r.0 r.1 in
    record { figures = listed r.0; is = sym same; fits = listed_fits k r.0 w (draw_fits p.0 r.0 size (is_zero p.0) refl m.0 m.1) }
  where
    draw_fits : (d : ℤ) (r : Option Figure) → IsSize d × IsNarrow (unsigned_abs d) → (b : Bool) → is_zero d ≡ b → r ≡ cond (is_zero d) None (Some (round (record { a = k.settings.at; b = to; r = half d }))) → HasRoom k r → FitsOne k r
    draw_fits d r size true e is room = let none : r ≡ None = rw e at is in subst (FitsOne k) (sym none) tt
    draw_fits d r size false e is room =
        let some : r ≡ Some (round (record { a = k.settings.at; b = to; r = half d })) = rw e at is in
        let edges = w.edges in
        subst (FitsOne k) (sym some) (pen_drawn k.settings.at to d s.placed there size.0 size.1 e, subst (HasRoom k) some room, omega (arith, edges))

flashed_ok : (r : Result (Option Figure) NoFlash) (f : Option Figure) → flashed r ≡ Ok f → r ≡ Ok f
flashed_ok (Ok g) f h = let s : g ≡ f = cc in ap Ok s
flashed_ok (Err e) f h = cc

flash_fits : (k : Known) (a : Aperture) (to : Spot) (f : Option Figure) → IsLawful a → IsPlaced to → flash_of a to ≡ Ok f → HasRoom k f → HasEdges k f → FitsOne k f
unfolding HasRoom HasEdges FitsOne
flash_fits k a to None l there h room edges = tt
flash_fits k a to (Some f) l there h room edges = (flash_drawn a to f l there h, room, edges)

flash_by_made : (k : Known) (a : Aperture) (to : Spot) (e : Effect) → IsLawful a → Within k → IsPlaced to → flash_by k a to ≡ Ok e → Made k to e
unfolding flash_by
flash_by_made k a to e lawful w there h =
    let f = bind_ok (flashed (flash_of a to)) (λ flash. room_for k flash >>= λ piece. edges_for k piece >>= λ figure. Ok (performs to (listed figure))) e h in
    let r = bind_ok (room_for k f.0) (λ piece. edges_for k piece >>= λ figure. Ok (performs to (listed figure))) e f.2 in
    let g = bind_ok (edges_for k r.0) (λ figure. Ok (performs to (listed figure))) e r.2 in
    let made : Ok (performs to (listed g.0)) ≡ Ok e = g.2 in
    let same : performs to (listed g.0) ≡ e = cc in
    let m = room_made k f.0 r.0 r.1 in
    let n = edges_made k r.0 g.0 g.1 in
    record {
      figures = listed g.0;
      is = sym same;
      fits = listed_fits k g.0 w (flash_fits k a to g.0 lawful there (flashed_ok (flash_of a to) f.0 f.1 ∙ ap Ok (sym m.0) ∙ ap Ok (sym n.0)) (subst (HasRoom k) (sym n.0) m.1) n.1);
    }

-- ---- Flashes of macros

one_drawn : (p : PlainPrimitive) (given : List Fraction) (unit : Measure) (to : Spot) (o : Option Figure) → IsSized p.form → figure_at p given unit to ≡ Ok o → AllByRecursion IsDrawn (listed o)
one_drawn p given unit to None sized h = tt
one_drawn p given unit to (Some f) sized h = (primitive_drawn p given unit to f sized h, tt)

body_drawn : (body : List PlainPrimitive) (given : List Fraction) (unit : Measure) (to : Spot) (figures : List Figure) → AreSized body → figures_of body given unit to ≡ Ok figures → AllByRecursion IsDrawn figures
unfolding figures_of
body_drawn [] given unit to figures sized h = let same : [] ≡ figures = cc in subst (AllByRecursion IsDrawn) same tt
body_drawn (p ∷ body) given unit to figures sized h =
    let f = bind_ok (figure_at p given unit to) (λ figure. figures_of body given unit to >>= λ more. Ok (listed figure ++ more)) figures h in
    let m = bind_ok (figures_of body given unit to) (λ more. Ok (listed f.0 ++ more)) figures f.2 in
    let made : ◌≡◌ {A = Result (List Figure) MacroFault} (Ok (listed f.0 ++ m.0)) (Ok figures) = m.2 in
    let same : listed f.0 ++ m.0 ≡ figures = cc in
    subst (AllByRecursion IsDrawn) same (all-append IsDrawn (listed f.0) m.0 (one_drawn p given unit to f.0 sized.0 f.1) (body_drawn body given unit to m.0 sized.1 m.1))

macro_drawn : (o : Option (List PlainPrimitive)) (given : List Fraction) (unit : Measure) (to : Spot) (figures : List Figure) → ((body : List PlainPrimitive) → o ≡ Some body → AreSized body) → macro_figures o given unit to ≡ Ok figures → AllByRecursion IsDrawn figures
macro_drawn None given unit to figures sized h = let same : [] ≡ figures = cc in subst (AllByRecursion IsDrawn) same tt
macro_drawn (Some body) given unit to figures sized h = body_drawn body given unit to figures (sized body refl) h

all_flashed_ok : (r : Result (List Figure) MacroFault) (figures : List Figure) → all_flashed r ≡ Ok figures → r ≡ Ok figures
all_flashed_ok (Ok all) figures h = let s : all ≡ figures = cc in ap Ok s
all_flashed_ok (Err fault) figures h = cc

room_fits : (k : Known) (all figures : List Figure) → Within k → AllByRecursion IsDrawn all → room_for_all k all ≡ Ok figures → Fits k figures
unfolding reading.lacks_room
room_fits k [] figures w drawn h = let same : [] ≡ figures = cc in subst (Fits k) same (none_fits k w)
room_fits k (f ∷ all) figures w drawn h = by (eqb (length (f ∷ all)) 0) (nat_lt k.place.room.pieces (length k.pieces + length (f ∷ all))) (exceed k (sum_by figure_edges (f ∷ all))) refl refl refl h
  where
    by : (a b c : Bool) → eqb (length (f ∷ all)) 0 ≡ a → nat_lt k.place.room.pieces (length k.pieces + length (f ∷ all)) ≡ b → exceed k (sum_by figure_edges (f ∷ all)) ≡ c → room_or (cond a None (cond b (Some kind.TooManyPieces) (cond c (Some kind.TooManyVertices) None))) (f ∷ all) ≡ Ok figures → Fits k figures
    by true b c none eb ec h = let no = eqb-true (length (f ∷ all)) 0 none in absurd (omega (arith, no))
    by false true c none eb ec h = cc
    by false false true none eb ec h = cc
    by false false false none eb ec h =
        let same : f ∷ all ≡ figures = cc in
        subst (Fits k) same (record { drawn = drawn; few = ltb-false _ _ eb; edges = ltb-false _ _ ec })

flash_with_made : (k : Known) (a : Tool) (to : Spot) (e : Effect) → IsLawfulTool a → Sound k → Within k → IsPlaced to → flash_with k a to ≡ Ok e → Made k to e
unfolding flash_with
flash_with_made k (standard a) to e lawful s w there h = flash_by_made k a to e lawful w there h
flash_with_made k (composed name parameters unit) to e lawful s w there h =
    let a = bind_ok (all_flashed (macro_figures (macro_named k.macros name) parameters unit to)) (λ all. room_for_all k all >>= λ figures. Ok (performs to figures)) e h in
    let r = bind_ok (room_for_all k a.0) (λ figures. Ok (performs to figures)) e a.2 in
    let made : ◌≡◌ {A = Result Effect GerberKind} (Ok (performs to r.0)) (Ok e) = r.2 in
    let same : performs to r.0 ≡ e = cc in
    let drawn = macro_drawn (macro_named k.macros name) parameters unit to a.0 (s.macros name) (all_flashed_ok (macro_figures (macro_named k.macros name) parameters unit to) a.0 a.1) in
    record { figures = r.0; is = sym same; fits = room_fits k a.0 r.0 w drawn r.1 }

pub flash_made : (k : Known) (to : Spot) (e : Effect) → Sound k → Within k → IsPlaced to → flash k to ≡ Ok e → Made k to e
unfolding flash
flash_made k to e s w there h =
    let a = bind_ok (needed kind.NoAperture (selected k)) (λ aperture. flash_with k aperture to) e h in
    flash_with_made k a.0 to e (selected_lawful k.settings.selected k.defined a.0 s.apertures (got kind.NoAperture (selected k) a.0 a.1)) s w there a.2

-- ---- Contours

closed_ok : (r : Result (Option (List Spot)) Flaw) (o : Option (List Spot)) → closed r ≡ Ok o → r ≡ Ok o
closed_ok (Ok g) o h = let s : g ≡ o = cc in ap Ok s
closed_ok (Err e) o h = cc

-- the area has the points of the contour
close_points : (contour points : List Spot) → close_of contour ≡ Ok (Some points) → points ≡ contour
unfolding close_of
close_points [] points e = cc
close_points (a ∷ []) points e = cc
close_points (a ∷ b ∷ rest) points e = by (not (same_spot (end_from b rest) a)) (nat_lt (length rest) 2) e
  where
    by : (s t : Bool) → cond s (Err stays_open) (cond t (Err too_short) (Ok (Some (a ∷ b ∷ rest)))) ≡ Ok (Some points) → points ≡ a ∷ b ∷ rest
    by true t e = cc
    by false true e = cc
    by false false e = let same : a ∷ b ∷ rest ≡ points = cc in sym same

-- a contour closes as its points do, and has an edge less than points
closed_is : (contour : Option (Outline (Unit {0}))) → contour_closed contour ≡ close_of (spots_of contour)
unfolding close_of
closed_is None = refl
closed_is (Some o) = refl

spots_long : (contour : Option (Outline (Unit {0}))) → edges_in contour ≡ length (spots_of contour) - 1
spots_long None = refl
spots_long (Some o) = let long = length-map o.legs (λ (l : Leg (Unit {0})). l.to) in omega (arith, long)

closing_fits : (k : Known) (o : Option (List Spot)) (f : Option Figure) → Sound k → Within k → close_of (spots_of k.contour) ≡ Ok o → f ≡ area_if o → HasRoom k f → FitsOne k f
unfolding HasRoom FitsOne
closing_fits k None f s w h e room = subst (FitsOne k) (sym e) tt
closing_fits k (Some points) f s w h e room =
    let same : points ≡ spots_of k.contour = close_points (spots_of k.contour) points h in
    let edges = w.edges in
    let long = ap length same in
    let count = spots_long k.contour in
    subst (FitsOne k) (sym e) (contour_drawn (spots_of k.contour) points s.contour w.short h, subst (HasRoom k) e room, omega (arith, edges, long, count))

pub closing_made : (k : Known) (f : Option Figure) → Sound k → Within k → closing k ≡ Ok f → Fits k (listed f)
unfolding closing
closing_made k f s w h =
    let c = bind_ok (closed (contour_closed k.contour)) (λ points. room_for k (area_if points)) f h in
    let m = room_made k (area_if c.0) f c.2 in
    listed_fits k f w (closing_fits k c.0 f s w (sym (closed_is k.contour) ∙ closed_ok (contour_closed k.contour) c.0 c.1) m.0 m.1)

-- ---- Blocks

all-take : (n : ℕ) (xs : List PlainPiece) → Drawn xs → Drawn (take n xs)
all-take zero xs h = tt
all-take (suc n) [] h = tt
all-take (suc n) (x ∷ xs) h = (h.0, all-take n xs h.1)

all-drop : (n : ℕ) (xs : List PlainPiece) → Drawn xs → Drawn (drop n xs)
all-drop zero xs h = h
all-drop (suc n) [] h = tt
all-drop (suc n) (x ∷ xs) h = all-drop n xs h.1

pub block_made : (k : Known) (pieces : List PlainPiece) → Within k → ended_block k ≡ Ok pieces → Fit k.place pieces
unfolding ended_block_by
block_made k pieces l h = by k.settings.block h
  where
    copied : (block : Repeat) (r : Result (List PlainPiece) Refusal) → copies_at block (left k) (drop k.start k.pieces) ≡ r → as_copies (take k.start k.pieces) r ≡ Ok pieces → Fit k.place pieces
    copied block (Err fault) e h = cc
    copied block (Ok copies) e h =
        let same : take k.start k.pieces ++ copies ≡ pieces = cc in
        let c = are_copies block (left k) (drop k.start k.pieces) copies (all-drop k.start k.pieces l.drawn) e in
        let few = c.few in
        let edges = c.edges in
        let all_few = l.few in
        let all_edges = l.edges in
        let front = length-take k.start k.pieces in
        let long = length-append (take k.start k.pieces) copies in
        let sum = sum_by-append (λ (q : PlainPiece). figure_edges q.figure) (take k.start k.pieces) copies in
        let less = sum_by-take-le (λ (q : PlainPiece). figure_edges q.figure) k.pieces k.start in
        subst (Fit k.place) same (record {
          drawn = all-append (λ (q : PlainPiece). IsDrawn q.figure) (take k.start k.pieces) copies (all-take k.start k.pieces l.drawn) c.drawn;
          few = omega (arith, few, all_few, front, long);
          edges = omega (arith, edges, all_edges, sum, less);
        })

    by : (block : Option Repeat) → with_copies k block ≡ Ok pieces → Fit k.place pieces
    by None h = let same : k.pieces ≡ pieces = cc in subst (Fit k.place) same (as_fit k l)
    by (Some block) h = copied block (copies_at block (left k) (drop k.start k.pieces)) refl h
