-- The image of a copper file can be drawn, and is within the room: by the standard apertures, and with macros.
use Rattle.std.proofs.Common.{◌≡◌, ℕ, ◌+◌, ◌<◌, ◌≤◌, Bool, true, false, not, ◌&&◌, ◌||◌, cond, nat_le, List, [], ◌∷◌, ◌++◌, length, Option, Some, None, is_none, Result, Ok, Err, IsOk, refl, sym, ap, ◌∙◌, subst, arith, length-append}
use Rattle.std.proofs.lemmas.Bool.{leb-false, ltb-false}
use Rattle.std.proofs.lemmas.List.{length-map}
use Rattle.std.specs.List.{AllByRecursion}
use Rattle.planar.specs.Plane.{IsPlaced}
use Rattle.planar.specs.declared.Spot.{Spot}
use Rattle.board_shapes.specs.Pieces.{PlainPiece}
use Rattle.board_shapes.specs.declared.placed.Room.{Room}
use Rattle.step_repeat.specs.declared.repeat.Repeat.{Repeat}
use Rattle.aperture_macros.specs.BodyWord.{PlainPrimitive, primitive_at}
use Rattle.aperture_macros.specs.declared.fault.MacroFault.{MacroFault}
use Rattle.file_reading.specs.Reading.{Clean, said}
use Rattle.gerber_reading.specs.Command.{Bending, Command, nothing, refused, formats, counts_in, defines, selects, curves, quarters, repeats, functions, opens_region, closes_region, operates, ends, names_macro, body_word, breaks, finishes}
use Rattle.gerber_reading.specs.declared.command.Code.{Code}
use Rattle.gerber_reading.specs.declared.command.Code.TheVariants.{Draw, Move, Flash}
use Rattle.gerber_reading.specs.declared.kind.GerberKind.{GerberKind}
use Rattle.gerber_reading.specs.declared.kind.GerberKind.TheVariants as kind
use Rattle.gerber_reading.specs.declared.settings.Settings.{Settings}
use Rattle.gerber_layer.specs.CommandEffects.{Known, Effect, stays, makes, begins_macro, fills_macro, performs, extends, closes, opens, leaves, steps, concludes, ◌>>=◌, needed, code_of, is_drawing, edges_of, edges_in, exceed, closing, perform, perform_in_region, operate, leave, repeat, row, effect, listed}
use Rattle.gerber_reading.specs.declared.place.Place.{Place}
use Rattle.gerber_reading.specs.Settings.{lengthened, point_before, region_open, spots_of}
use Rattle.gerber_layer.specs.Image.{made, pieces_after, with_effect}
use Rattle.gerber_layer.proofs.Outcome.{IsFilled, bind_ok, not_ok, past_test}
use Rattle.macro_flatten.specs.FlatText.{figures_in, pens_of}
use Rattle.macro_flatten.specs.Laws.{ImagesAreFlat, IsDrawn, IsFlat, flat_room}
use Rattle.macro_flatten.proofs.EarlierCommands.{contour_placed, coordinate_reached, macros_sized, none_outside, point_placed, tools_lawful}
use Rattle.macro_flatten.proofs.Bounding.{edges_are}
use Rattle.macro_flatten.proofs.Copies.{Drawn}
use Rattle.macro_flatten.proofs.Makes.{Fit, Made, Sound, Within, as_fit, block_made, closing_made, draw_made, flash_made, pushed}
use Rattle.macro_flatten.proofs.Rows.{HasRows, standard_rows}
use Rattle.area_contact.specs.declared.TheConstants.{MOST_CONTOUR_EDGES, MOST_CONTOUR_POINTS}
use Rattle.gerber_reading.specs.declared.TheConstants.{MOST_APERTURES}
use Rattle.gerber_reading.specs.CommandEffects.{coordinate, extend_by, next_block, target}
use Rattle.gerber_layer.specs.CommandEffects.{ended_block, extend}
use Rattle.gerber_reading.specs.Image as reading
use Rattle.macro_flatten.proofs.Exact.{Table, contour_before, effect_by, image_by, known_by, pieces_by}
use Rattle.regions.specs.Contours.{Leg, Outline}
use Rattle.aperture_macros.specs.declared.primitive.Copper.TheVariants.{Exact}

-- what stands before a command is lawful
sound : {W : Type 0} (f : Table W) (p : Place) (h : List Command) → Sound (known_by f p h)
sound f p h = record { placed = point_placed h; contour = contour_placed h; outside = none_outside h; apertures = tools_lawful h; macros = macros_sized h }

-- ---- Where an operation leads

target_placed : (s : Settings) (x y : Option (List ℕ)) (to : Spot) → IsPlaced s.at → target s x y ≡ Ok to → IsPlaced to
unfolding target
target_placed s x y to placed e =
    let a = bind_ok (needed kind.MissingFormat s.format) (λ format. needed kind.MissingUnit s.unit >>= λ unit. coordinate format unit s.at.x x >>= λ to_x. coordinate format unit s.at.y y >>= λ to_y. Ok (record { x = to_x; y = to_y })) to e in
    let b = bind_ok (needed kind.MissingUnit s.unit) (λ unit. coordinate a.0 unit s.at.x x >>= λ to_x. coordinate a.0 unit s.at.y y >>= λ to_y. Ok (record { x = to_x; y = to_y })) to a.2 in
    let c = bind_ok (coordinate a.0 b.0 s.at.x x) (λ to_x. coordinate a.0 b.0 s.at.y y >>= λ to_y. Ok (record { x = to_x; y = to_y })) to b.2 in
    let d = bind_ok (coordinate a.0 b.0 s.at.y y) (λ to_y. Ok (record { x = c.0; y = to_y })) to c.2 in
    let made : ◌≡◌ {A = Result Spot GerberKind} (Ok (record { x = c.0; y = d.0 })) (Ok to) = d.2 in
    let same : ◌≡◌ {A = Spot} (record { x = c.0; y = d.0 }) to = cc in
    subst IsPlaced same (coordinate_reached a.0 b.0 s.at.x c.0 x placed.0 c.1, coordinate_reached a.0 b.0 s.at.y d.0 y placed.1 d.1)

-- ---- Behind a command

-- these pieces stand behind a command with an effect
pub then_pieces : {W : Type 0} (f : Table W) (p : Place) (h : List Command) (c : Command) (e : Effect) → f (known_by f p h) c ≡ Ok e → pieces_by f p (c ∷ h) ≡ pieces_after p (length h + 1) (pieces_by f p h) e
unfolding reading.image_by
then_pieces {W = W} f p h c e is = ap (λ (r : Result Effect W). (with_effect p (length h + 1) (image_by f p h) r).pieces) is

within : {W : Type 0} (f : Table W) (p : Place) (h : List Command) (c : Command) (pieces : List PlainPiece) (contour : Option (Outline (Unit {0}))) → pieces_by f p (c ∷ h) ≡ pieces → contour_before (c ∷ h) ≡ contour → length (spots_of contour) ≤ MOST_CONTOUR_POINTS → Fit p pieces → edges_of pieces + edges_in contour ≤ p.room.edges → Within (known_by f p (c ∷ h))
within f p h c pieces contour a b short fit edges = record {
  short = subst (λ (o : Option (Outline (Unit {0}))). length (spots_of o) ≤ MOST_CONTOUR_POINTS) (sym b) short;
  drawn = subst Drawn (sym a) fit.drawn;
  few = subst (λ (ps : List PlainPiece). length ps ≤ p.room.pieces) (sym a) fit.few;
  edges = subst (λ (o : Option (Outline (Unit {0}))). edges_of (pieces_by f p (c ∷ h)) + edges_in o ≤ p.room.edges) (sym b) (subst (λ (ps : List PlainPiece). edges_of ps + edges_in contour ≤ p.room.edges) (sym a) edges);
}

-- where the contour is empty
cleared : {W : Type 0} (f : Table W) (p : Place) (h : List Command) (c : Command) (pieces : List PlainPiece) → pieces_by f p (c ∷ h) ≡ pieces → contour_before (c ∷ h) ≡ None → Fit p pieces → Within (known_by f p (c ∷ h))
cleared f p h c pieces a b fit = let edges = fit.edges in within f p h c pieces None a b (omega arith) fit (omega (arith, edges))

-- an effect that makes no piece
IsIdle : Effect → Type 0
IsIdle stays = Unit {0}
IsIdle (makes n tool) = Unit {0}
IsIdle (begins_macro name) = Unit {0}
IsIdle (fills_macro primitive) = Unit {0}
IsIdle other = ⊥

idle_pieces : (p : Place) (n : ℕ) (pieces : List PlainPiece) (e : Effect) → IsIdle e → pieces_after p n pieces e ≡ pieces
unfolding IsIdle
idle_pieces p n pieces stays i = refl
idle_pieces p n pieces (makes m tool) i = refl
idle_pieces p n pieces (begins_macro name) i = refl
idle_pieces p n pieces (fills_macro primitive) i = refl
idle_pieces p n pieces other i = absurd i

as_stays : (e : Effect) → e ≡ stays → IsIdle e
unfolding IsIdle
as_stays e is = subst IsIdle (sym is) tt

as_filled : (r : Result (Option PlainPrimitive) MacroFault) (e : Effect) → IsFilled r e → IsIdle e
unfolding IsIdle
as_filled (Ok None) e is = subst IsIdle (sym is) tt
as_filled (Ok (Some p)) e is = subst IsIdle (sym is) tt
as_filled (Err fault) e is = absurd is

idle : {W : Type 0} (f : Table W) (p : Place) (h : List Command) (c : Command) (e : Effect) → f (known_by f p h) c ≡ Ok e → IsIdle e → contour_before (c ∷ h) ≡ contour_before h → Within (known_by f p h) → Within (known_by f p (c ∷ h))
idle f p h c e is i same w =
    within f p h c (pieces_by f p h) (contour_before h) (then_pieces f p h c e is ∙ idle_pieces p (length h + 1) (pieces_by f p h) e i) same w.short (as_fit (known_by f p h) w) w.edges

-- ---- Blocks

outside_is : (inside : Bool) (r : Result Effect GerberKind) (e : Effect) → cond inside (Err kind.NotInRegion) r ≡ Ok e → (inside ≡ false) × (r ≡ Ok e)
outside_is true r e g = cc
outside_is false r e g = (refl, g)

ends_block : {W : Type 0} (f : Table W) (p : Place) (h : List Command) (c : Command) (pieces : List PlainPiece) → region_open h ≡ false → contour_before (c ∷ h) ≡ contour_before h → ended_block (known_by f p h) ≡ Ok pieces → pieces_by f p (c ∷ h) ≡ pieces → Within (known_by f p h) → Within (known_by f p (c ∷ h))
ends_block f p h c pieces outside same b is w =
    cleared f p h c pieces is (same ∙ none_outside h outside) (block_made (known_by f p h) pieces w b)

kept_ends : {W : Type 0} (f : Table W) (p : Place) (h : List Command) (e : Effect) → f (known_by f p h) ends ≡ Ok e → row (known_by f p h) ends ≡ Ok e → Within (known_by f p h) → Within (known_by f p (ends ∷ h))
unfolding row
kept_ends f p h e is r w =
    let k = known_by f p h in
    let o = outside_is (region_open h) (ended_block k >>= λ pieces. Ok (concludes pieces)) e r in
    let b = bind_ok (ended_block k) (λ pieces. Ok (concludes pieces)) e o.1 in
    let made_it : Ok (concludes b.0) ≡ Ok e = b.2 in
    ends_block f p h ends b.0 o.0 refl b.1 (then_pieces f p h ends e is ∙ ap (pieces_after p (length h + 1) (pieces_by f p h)) (let s : concludes b.0 ≡ e = cc in sym s)) w

kept_repeats : {W : Type 0} (f : Table W) (p : Place) (h : List Command) (text : List ℕ) (e : Effect) → f (known_by f p h) (repeats text) ≡ Ok e → row (known_by f p h) (repeats text) ≡ Ok e → Within (known_by f p h) → Within (known_by f p (repeats text ∷ h))
unfolding row repeat
kept_repeats f p h text e is r w =
    let k = known_by f p h in
    let ended_by = λ (next : Option Repeat). ended_block k >>= λ pieces. Ok (steps next pieces) in
    let o = outside_is (region_open h) (next_block k.settings.unit text >>= ended_by) e r in
    let n = bind_ok (next_block k.settings.unit text) ended_by e o.1 in
    let b = bind_ok (ended_block k) (λ pieces. Ok (steps n.0 pieces)) e n.2 in
    let made_it : Ok (steps n.0 b.0) ≡ Ok e = b.2 in
    ends_block f p h (repeats text) b.0 o.0 refl b.1 (then_pieces f p h (repeats text) e is ∙ ap (pieces_after p (length h + 1) (pieces_by f p h)) (let s : steps n.0 b.0 ≡ e = cc in sym s)) w

-- ---- Regions

kept_opens : {W : Type 0} (f : Table W) (p : Place) (h : List Command) (e : Effect) → f (known_by f p h) opens_region ≡ Ok e → e ≡ opens → Within (known_by f p h) → Within (known_by f p (opens_region ∷ h))
kept_opens f p h e is o w =
    cleared f p h opens_region (pieces_by f p h) (then_pieces f p h opens_region e is ∙ ap (pieces_after p (length h + 1) (pieces_by f p h)) o) refl (as_fit (known_by f p h) w)

kept_closes : {W : Type 0} (f : Table W) (p : Place) (h : List Command) (e : Effect) → f (known_by f p h) closes_region ≡ Ok e → row (known_by f p h) closes_region ≡ Ok e → Within (known_by f p h) → Within (known_by f p (closes_region ∷ h))
unfolding row leave
kept_closes f p h e is r w =
    let k = known_by f p h in
    let b = bind_ok (closing k) (λ area. Ok (leaves area)) e (past_test (not (region_open h)) kind.NotInRegion (closing k >>= λ area. Ok (leaves area)) e r) in
    let made_it : Ok (leaves b.0) ≡ Ok e = b.2 in
    let fits = closing_made k b.0 (sound f p h) w b.1 in
    cleared f p h closes_region (pieces_by f p h ++ made p (length h + 1) (listed b.0)) (then_pieces f p h closes_region e is ∙ ap (pieces_after p (length h + 1) (pieces_by f p h)) (let s : leaves b.0 ≡ e = cc in sym s)) refl (pushed k (length h + 1) (listed b.0) w fits)

-- ---- Operations

-- the contour outside a region is empty, and stays so
made_outside : {W : Type 0} (f : Table W) (p : Place) (h : List Command) (c : Command) (to : Spot) (e : Effect) → f (known_by f p h) c ≡ Ok e → contour_before (c ∷ h) ≡ None → Made (known_by f p h) to e → Within (known_by f p h) → Within (known_by f p (c ∷ h))
made_outside f p h c to e is none m w =
    cleared f p h c (pieces_by f p h ++ made p (length h + 1) m.figures) (then_pieces f p h c e is ∙ ap (pieces_after p (length h + 1) (pieces_by f p h)) m.is) none (pushed (known_by f p h) (length h + 1) m.figures w m.fits)

moved : (k : Known) (to : Spot) (e : Effect) → Within k → ◌≡◌ {A = Result Effect GerberKind} (Ok (performs to [])) (Ok e) → Made k to e
moved k to e w g =
    let few = w.few in
    let edges = w.edges in
    let same : performs to [] ≡ e = cc in
    record { figures = []; is = sym same; fits = record { drawn = tt; few = omega (arith, few); edges = omega (arith, edges) } }

performed : (k : Known) (code : Code) (to : Spot) (e : Effect) → Sound k → Within k → IsPlaced to → perform k code to ≡ Ok e → Made k to e
unfolding perform
performed k Draw to e s w there g = draw_made k to e s w there g
performed k Move to e s w there g = moved k to e w g
performed k Flash to e s w there g = flash_made k to e s w there g

-- one edge more
record Longer (contour longer : Option (Outline (Unit {0}))) : Type 0 where
  short : length (spots_of longer) ≤ MOST_CONTOUR_POINTS
  edges : edges_in longer ≤ edges_in contour + 1

longer : (contour : Option (Outline (Unit {0}))) (from to : Spot) → edges_in contour < MOST_CONTOUR_EDGES → Longer contour (lengthened contour from to tt)
longer None from to few = record { short = omega arith; edges = omega arith }
longer (Some o) from to few =
    let leg : Leg (Unit {0}) = record { to = to; bend = tt } in
    let long = length-append o.legs (leg ∷ []) in
    let same = length-map (o.legs ++ leg ∷ []) (λ (l : Leg (Unit {0})). l.to) in
    record { short = omega (arith, few, long, same); edges = omega (arith, long) }

-- what a draw in a region does
record Extended (k : Known) (to : Spot) (e : Effect) : Type 0 where
  is : e ≡ extends to tt
  few : edges_in k.contour < MOST_CONTOUR_EDGES
  room : edges_of k.pieces + (edges_in k.contour + 1) ≤ k.place.room.edges

extended_by : (k : Known) (to : Spot) (e : Effect) → extend k to ≡ Ok e → Extended k to e
unfolding extend_by
extended_by k to e g = by (nat_le MOST_CONTOUR_EDGES (edges_in k.contour)) (exceed k (edges_in k.contour + 1)) refl refl g
  where
    by : (a b : Bool) → nat_le MOST_CONTOUR_EDGES (edges_in k.contour) ≡ a → exceed k (edges_in k.contour + 1) ≡ b → cond (a || b) (Err kind.TooManyVertices) (Ok (extends to tt)) ≡ Ok e → Extended k to e
    by true b ea eb g = cc
    by false true ea eb g = cc
    by false false ea eb g = let s : extends to tt ≡ e = cc in record { is = sym s; few = leb-false _ _ ea; room = ltb-false _ _ eb }

region_kept : {W : Type 0} (f : Table W) (p : Place) (h : List Command) (x y : Option (List ℕ)) (code : Option Code) (b : Bending) (to : Spot) (e : Effect) (d : Code) → code_of code ≡ d → f (known_by f p h) (operates x y code b) ≡ Ok e → region_open h ≡ true → perform_in_region (known_by f p h) d to ≡ Ok e → Within (known_by f p h) → Within (known_by f p (operates x y code b ∷ h))
unfolding perform_in_region
region_kept f p h x y code b to e Draw d is inside g w =
    let k = known_by f p h in
    let x' = extended_by k to e g in
    let there = point_before (operates x y code b ∷ h) in
    let m = longer (contour_before h) (point_before h) there x'.few in
    let edges = m.edges in
    let room = x'.room in
    within f p h (operates x y code b) (pieces_by f p h) (lengthened (contour_before h) (point_before h) there tt) (then_pieces f p h (operates x y code b) e is ∙ ap (pieces_after p (length h + 1) (pieces_by f p h)) x'.is) (rw (d, inside) refl) m.short (as_fit k w) (omega (arith, edges, room))
region_kept f p h x y code b to e Move d is inside g w =
    let k = known_by f p h in
    let closed = bind_ok (closing k) (λ area. Ok (closes to area)) e g in
    let made_it : Ok (closes to closed.0) ≡ Ok e = closed.2 in
    let fits = closing_made k closed.0 (sound f p h) w closed.1 in
    cleared f p h (operates x y code b) (pieces_by f p h ++ made p (length h + 1) (listed closed.0)) (then_pieces f p h (operates x y code b) e is ∙ ap (pieces_after p (length h + 1) (pieces_by f p h)) (let s : closes to closed.0 ≡ e = cc in sym s)) (rw (d, inside) refl) (pushed k (length h + 1) (listed closed.0) w fits)
region_kept f p h x y code b to e Flash d is inside g w = cc

kept_operates : {W : Type 0} (f : Table W) (p : Place) (h : List Command) (x y : Option (List ℕ)) (code : Option Code) (b : Bending) (e : Effect) → f (known_by f p h) (operates x y code b) ≡ Ok e → row (known_by f p h) (operates x y code b) ≡ Ok e → Within (known_by f p h) → Within (known_by f p (operates x y code b ∷ h))
unfolding row operate
kept_operates f p h x y code b e is r w =
    let k = known_by f p h in
    let run = λ (to : Spot). cond (region_open h) (perform_in_region k (code_of code) to) (perform k (code_of code) to) in
    let one = past_test (is_none code && not (is_drawing k.settings.last)) kind.NoOperation (target k.settings x y >>= run) e r in
    let t = bind_ok (target k.settings x y) run e one in
    by t.0 (target_placed k.settings x y t.0 (point_placed h) t.1) (region_open h) refl t.2
  where
    by : (to : Spot) → IsPlaced to → (inside : Bool) → region_open h ≡ inside → cond inside (perform_in_region (known_by f p h) (code_of code) to) (perform (known_by f p h) (code_of code) to) ≡ Ok e → Within (known_by f p (operates x y code b ∷ h))
    by to there true o g = region_kept f p h x y code b to e (code_of code) refl is o g w
    by to there false o g = made_outside f p h (operates x y code b) to e is (none_outside (operates x y code b ∷ h) o) (performed (known_by f p h) (code_of code) to e (sound f p h) w there g) w

-- ---- The image

kept : {W : Type 0} (f : Table W) → HasRows f → (p : Place) (h : List Command) (c : Command) (e : Effect) → f (known_by f p h) c ≡ Ok e → Within (known_by f p h) → Within (known_by f p (c ∷ h))
unfolding IsIdle
kept f t p h (defines text) e is w = let d = t.says (known_by f p h) (defines text) e is in idle f p h (defines text) e is (subst IsIdle (sym d.is) tt) refl w
kept f t p h (names_macro name) e is w = idle f p h (names_macro name) e is (subst IsIdle (sym (t.says (known_by f p h) (names_macro name) e is)) tt) refl w
kept f t p h (body_word text) e is w = idle f p h (body_word text) e is (as_filled (primitive_at Exact text) e (t.says (known_by f p h) (body_word text) e is)) refl w
kept f t p h (repeats text) e is w = kept_repeats f p h text e is (t.shares (known_by f p h) (repeats text) e tt is) w
kept f t p h opens_region e is w = kept_opens f p h e is (t.says (known_by f p h) opens_region e is) w
kept f t p h closes_region e is w = kept_closes f p h e is (t.shares (known_by f p h) closes_region e tt is) w
kept f t p h (operates x y code b) e is w = kept_operates f p h x y code b e is (t.shares (known_by f p h) (operates x y code b) e tt is) w
kept f t p h ends e is w = kept_ends f p h e is (t.shares (known_by f p h) ends e tt is) w
kept f t p h nothing e is w = idle f p h nothing e is (as_stays e (t.says (known_by f p h) nothing e is)) refl w
kept f t p h (refused why) e is w = idle f p h (refused why) e is (as_stays e (t.says (known_by f p h) (refused why) e is)) refl w
kept f t p h (formats format) e is w = idle f p h (formats format) e is (as_stays e (t.says (known_by f p h) (formats format) e is)) refl w
kept f t p h (counts_in unit) e is w = idle f p h (counts_in unit) e is (as_stays e (t.says (known_by f p h) (counts_in unit) e is)) refl w
kept f t p h (selects n) e is w = idle f p h (selects n) e is (as_stays e (t.says (known_by f p h) (selects n) e is)) refl w
kept f t p h (functions function layer) e is w = idle f p h (functions function layer) e is (as_stays e (t.says (known_by f p h) (functions function layer) e is)) refl w
kept f t p h (breaks fault) e is w = idle f p h (breaks fault) e is (as_stays e (t.says (known_by f p h) (breaks fault) e is)) refl w
kept f t p h (curves curve) e is w = idle f p h (curves curve) e is (as_stays e (t.says (known_by f p h) (curves curve) e is)) refl w
kept f t p h (quarters quadrants) e is w = idle f p h (quarters quadrants) e is (as_stays e (t.says (known_by f p h) (quarters quadrants) e is)) refl w
kept f t p h finishes e is w = idle f p h finishes e is (as_stays e (t.says (known_by f p h) finishes e is)) refl w

start_within : {W : Type 0} (f : Table W) (p : Place) → Within (known_by f p [])
unfolding reading.image_by
start_within f p = record { short = omega arith; drawn = tt; few = omega arith; edges = omega arith }

pub image_within : {W : Type 0} (f : Table W) → HasRows f → (p : Place) (h : List Command) → Clean (effect_by f p) h → Within (known_by f p h)
image_within f t p [] clean = start_within f p
image_within {W = W} f t p (c ∷ h) clean = by (f (known_by f p h) c) refl clean.0 (image_within f t p h clean.1)
  where
    by : (r : Result Effect W) → f (known_by f p h) c ≡ r → IsOk r → Within (known_by f p h) → Within (known_by f p (c ∷ h))
    by (Ok e) is ok w = kept f t p h c e is w
    by (Err why) is ok w = absurd (not_ok Effect why ok)

figures_drawn : (pieces : List PlainPiece) → Drawn pieces → AllByRecursion IsDrawn (figures_in pieces)
figures_drawn [] h = tt
figures_drawn (q ∷ pieces) h = (h.0, figures_drawn pieces h.1)

-- the figures of a clean history, where few pens draw them
pub image_flat : {W : Type 0} (f : Table W) → HasRows f → (p : Place) (h : List Command) → p.room ≡ flat_room → Clean (effect_by f p) h → length (pens_of (figures_in (pieces_by f p h))) ≤ MOST_APERTURES → IsFlat (figures_in (pieces_by f p h))
image_flat f t p h room clean pens =
    let w = image_within f t p h clean in
    let few = subst (λ (r : Room). length (pieces_by f p h) ≤ r.pieces) room w.few in
    let edges = subst (λ (r : Room). edges_of (pieces_by f p h) + edges_in (contour_before h) ≤ r.edges) room w.edges in
    let long = length-map (pieces_by f p h) (λ (q : PlainPiece). q.figure) in
    let sum = edges_are (pieces_by f p h) in
    record {
      drawn = figures_drawn (pieces_by f p h) w.drawn;
      few_pieces = omega (arith, few, long);
      few_edges = omega (arith, edges, sum);
      few_pens = pens;
    }

pub images_are_flat : ImagesAreFlat
images_are_flat file layer number pieces (items, are, r) few =
    let p : Place = record { layer = layer; file = number; room = flat_room } in
    let flat = image_flat effect standard_rows p (said r.earlier) refl r.whole.clean in
    subst (λ (ps : List PlainPiece). length (pens_of (figures_in ps)) ≤ MOST_APERTURES → IsFlat (figures_in ps)) (sym r.is) flat few
