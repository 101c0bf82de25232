-- What the primitives of a macro flash can be drawn.
use Rattle.std.proofs.Common.{◌≡◌, ℕ, ◌+◌, ◌%◌, ◌≤◌, Bool, true, false, not, ◌&&◌, cond, eqb, nat_lt, List, [], length, map, ℤ, pos, Option, Some, None, Result, Ok, Err, refl, sym, ap, ◌∙◌, subst, arith}
use Rattle.std.proofs.lemmas.Bool.{eqb-true, ltb-false}
use Rattle.std.proofs.lemmas.List.Elements.{All-from_recursion}
use Rattle.std.specs.List.{list_all}
use Rattle.std.specs.Ordering.{int_eq}
use Rattle.std.specs.Prelude.{unsigned_abs, int_lt}
use Rattle.planar.specs.Plane.{IsPlaced, is_placed}
use Rattle.planar.specs.declared.Spot.{Spot}
use Rattle.area_contact.specs.Contour.{IsClosed}
use Rattle.board_shapes.specs.Figures.{Figure, round, filled}
use Rattle.board_shapes.specs.Rectangles.{halved, rectangle}
use Rattle.lengths.specs.Decimal.{Fraction}
use Rattle.lengths.specs.declared.decimal.Unit.{Unit as Measure}
use Rattle.aperture_macros.specs.declared.TheConstants.{MOST_OUTLINE_EDGES}
use Rattle.aperture_macros.specs.declared.fault.MacroFault.{MacroFault}
use Rattle.aperture_macros.specs.declared.fault.MacroFault.TheVariants.{OffGrid, OutOfRange}
use Rattle.aperture_macros.specs.declared.images.Sketch.{Sketch}
use Rattle.aperture_macros.specs.declared.images.Sketch.TheVariants.{Disc, Rectangle, Regular, Stroke}
use Rattle.aperture_macros.specs.declared.primitive.Form.{Form}
use Rattle.aperture_macros.specs.declared.primitive.Form.TheVariants.{Circle, Outline, VectorLine, CentreLine, Polygon}
use Rattle.aperture_macros.specs.declared.primitive.Copper.TheVariants.{Real}
use Rattle.aperture_macros.specs.declared.primitive.Rotation.{Rotation}
use Rattle.aperture_macros.specs.declared.primitive.Turning.{Turning}
use Rattle.aperture_macros.specs.declared.primitive.Turning.TheVariants.{Quarters, Degrees}
use Rattle.aperture_macros.specs.BodyWord.{PlainPrimitive, ◌>>=◌, part, past}
use Rattle.aperture_macros.specs.Flashes.{figure_at, figure_turned}
use Rattle.aperture_macros.specs.Images.{area_at, circle_at, centre_at, centred, disc_at, figure_by, line_at, line_between, outline_at, polygon_at, set_down, sketch_at, sketched, slanted, stroke_at, outlined, strip}
use Rattle.aperture_macros.specs.Outlines.{closing_at, moved_from}
use Rattle.aperture_macros.specs.Sized.{IsSized}
use Rattle.aperture_macros.specs.Values.{across_at, as_size, coordinate_at, diameter_at, point_at, size_at}
use Rattle.aperture_macros.proofs.Closings.{closing_is, outline_refused, outlined_by}
use Rattle.aperture_macros.proofs.Readings.{passed}
use Rattle.aperture_macros.proofs.Strokes.{then_ok}
use Rattle.macro_flatten.specs.Laws.{IsDrawn}
use Rattle.macro_flatten.proofs.Drawn.{half_drawn, spot_placed, spots_placed}
use Rattle.area_contact.specs.declared.TheConstants.{MOST_CONTOUR_POINTS}
use Rattle.contact.specs.declared.TheConstants.{MOST_DIAMETER}

-- ---- Sketches

-- a disc has the diameter of a pen, and so has a stroke
abbrev HasPen : ℕ → Type 0
HasPen d = (d % 2 ≡ 0) × (d ≤ MOST_DIAMETER) × (eqb d 0 ≡ false)

IsPen : Option Sketch → Type 0
IsPen None = Unit {0}
IsPen (Some (Disc p d)) = HasPen d
IsPen (Some (Stroke p q w)) = HasPen w
IsPen (Some (Rectangle low high)) = Unit {0}
IsPen (Some (Regular p d n)) = Unit {0}

size_even : (text : List ℕ) (given : List Fraction) (unit : Measure) (w : ℕ) → size_at text given unit ≡ Ok w → w % 2 ≡ 0
unfolding size_at
size_even text given unit w h = let u = then_ok (coordinate_at text given unit) as_size w h in by u.0 (eqb (unsigned_abs u.0 % 2) 0) (int_lt u.0 (pos 0)) refl u.2
  where
    by : (z : ℤ) (a b : Bool) → eqb (unsigned_abs z % 2) 0 ≡ a → cond (not a) (Err OffGrid) (cond b (Err OutOfRange) (Ok (unsigned_abs z))) ≡ Ok w → w % 2 ≡ 0
    by z false b even h = cc
    by z true true even h = cc
    by z true false even h = let same : unsigned_abs z ≡ w = cc in subst (λ (n : ℕ). n % 2 ≡ 0) same (eqb-true _ _ even)

circle_pen : (text : List ℕ) (given : List Fraction) (unit : Measure) (s : Option Sketch) → circle_at text given unit ≡ Ok s → IsPen s
unfolding circle_at diameter_at IsPen
circle_pen text given unit s h =
    let sketch = λ (d : ℕ) (p : Spot). cond (eqb d 0) None (Some (Disc p d)) in
    let d = then_ok (diameter_at (part 0 text) given unit) (λ d. point_at (past 1 text) given unit >>= λ p. Ok (sketch d p)) s h in
    let p = then_ok (point_at (past 1 text) given unit) (λ p. Ok (sketch d.0 p)) s d.2 in
    let w = then_ok (size_at (part 0 text) given unit) (λ n. cond (nat_lt MOST_DIAMETER n) (Err OutOfRange) (Ok n)) d.0 d.1 in
    let few = passed (nat_lt MOST_DIAMETER w.0) OutOfRange (Ok w.0) d.0 w.2 in
    let narrow = few.1 in
    let same : w.0 ≡ d.0 = cc in
    by d.0 p.0 (subst (λ (n : ℕ). n % 2 ≡ 0) same (size_even (part 0 text) given unit w.0 w.1)) (subst (λ (n : ℕ). n ≤ MOST_DIAMETER) same (ltb-false _ _ few.0)) (eqb d.0 0) refl p.2
  where
    by : (d : ℕ) (p : Spot) → d % 2 ≡ 0 → d ≤ MOST_DIAMETER → (b : Bool) → eqb d 0 ≡ b → ◌≡◌ {A = Result (Option Sketch) MacroFault} (Ok (cond b None (Some (Disc p d)))) (Ok s) → IsPen s
    by d p even few true none h = let same : None ≡ s = cc in subst IsPen same tt
    by d p even few false some h = let same : Some (Disc p d) ≡ s = cc in subst IsPen same (even, few, some)

-- a test that leaves a rectangle or nothing
rectangle_pen : (b : Bool) (low high : Spot) → IsPen (cond b None (Some (Rectangle low high)))
unfolding IsPen
rectangle_pen true low high = tt
rectangle_pen false low high = tt

-- and one that leaves one of two
strip_pen : (a b : Bool) (low high low' high' : Spot) → IsPen (cond a None (cond b (Some (Rectangle low high)) (Some (Rectangle low' high'))))
unfolding IsPen
strip_pen true b low high low' high' = tt
strip_pen false true low high low' high' = tt
strip_pen false false low high low' high' = tt

-- a slanted line
slanted_pen : (w : ℕ) (p q : Spot) (s : Option Sketch) → w % 2 ≡ 0 → slanted Real w p q ≡ Ok s → IsPen s
unfolding IsPen
slanted_pen w p q s even h =
    let few = passed (nat_lt MOST_DIAMETER w) OutOfRange (Ok (cond (eqb w 0) None (Some (Stroke p q w)))) s h in
    by (eqb w 0) refl (ltb-false _ _ few.0) few.1
  where
    by : (b : Bool) → eqb w 0 ≡ b → w ≤ MOST_DIAMETER → ◌≡◌ {A = Result (Option Sketch) MacroFault} (Ok (cond b None (Some (Stroke p q w)))) (Ok s) → IsPen s
    by true none few h = let same : None ≡ s = cc in subst IsPen same tt
    by false some few h = let same : Some (Stroke p q w) ≡ s = cc in subst IsPen same (even, few, some)

line_pen : (text : List ℕ) (given : List Fraction) (unit : Measure) (s : Option Sketch) → line_at Real text given unit ≡ Ok s → IsPen s
unfolding line_at line_between
line_pen text given unit s h =
    let sketch = λ (w : ℕ) (p q : Spot). cond (int_eq p.x q.x) (Ok (strip w p q w 0)) (cond (int_eq p.y q.y) (Ok (strip w p q 0 w)) (slanted Real w p q)) in
    let w = then_ok (size_at (part 0 text) given unit) (λ w. point_at (past 1 text) given unit >>= λ p. point_at (past 3 text) given unit >>= λ q. sketch w p q) s h in
    let p = then_ok (point_at (past 1 text) given unit) (λ p. point_at (past 3 text) given unit >>= λ q. sketch w.0 p q) s w.2 in
    let q = then_ok (point_at (past 3 text) given unit) (λ q. sketch w.0 p.0 q) s p.2 in
    by w.0 p.0 q.0 (size_even (part 0 text) given unit w.0 w.1) (int_eq p.0.x q.0.x) (int_eq p.0.y q.0.y) q.2
  where
    by : (w : ℕ) (p q : Spot) → w % 2 ≡ 0 → (a b : Bool) → ◌≡◌ {A = Result (Option Sketch) MacroFault} (cond a (Ok (strip w p q w 0)) (cond b (Ok (strip w p q 0 w)) (slanted Real w p q))) (Ok s) → IsPen s
    by w p q even true b h = let same : strip w p q w 0 ≡ s = cc in subst IsPen same (strip_pen _ _ _ _ _ _)
    by w p q even false true h = let same : strip w p q 0 w ≡ s = cc in subst IsPen same (strip_pen _ _ _ _ _ _)
    by w p q even false false h = slanted_pen w p q s even h

centre_pen : (text : List ℕ) (given : List Fraction) (unit : Measure) (s : Option Sketch) → centre_at text given unit ≡ Ok s → IsPen s
unfolding centre_at
centre_pen text given unit s h =
    let w = then_ok (size_at (part 0 text) given unit) (λ w. size_at (part 1 text) given unit >>= λ h. point_at (past 2 text) given unit >>= λ p. Ok (centred w h p)) s h in
    let t = then_ok (size_at (part 1 text) given unit) (λ h. point_at (past 2 text) given unit >>= λ p. Ok (centred w.0 h p)) s w.2 in
    let p = then_ok (point_at (past 2 text) given unit) (λ p. Ok (centred w.0 t.0 p)) s t.2 in
    let made : ◌≡◌ {A = Result (Option Sketch) MacroFault} (Ok (centred w.0 t.0 p.0)) (Ok s) = p.2 in
    let same : centred w.0 t.0 p.0 ≡ s = cc in
    subst IsPen same (rectangle_pen _ _ _)

polygon_pen : (n : ℕ) (text : List ℕ) (given : List Fraction) (unit : Measure) (s : Option Sketch) → polygon_at n text given unit ≡ Ok s → IsPen s
unfolding polygon_at IsPen
polygon_pen n text given unit s h =
    let p = then_ok (point_at text given unit) (λ p. across_at (part 2 text) given unit >>= λ d. Ok (cond (eqb d 0) None (Some (Regular p d n)))) s h in
    let d = then_ok (across_at (part 2 text) given unit) (λ d. Ok (cond (eqb d 0) None (Some (Regular p.0 d n)))) s p.2 in
    by d.0 p.0 (eqb d.0 0) d.2
  where
    by : (d : ℕ) (p : Spot) (b : Bool) → ◌≡◌ {A = Result (Option Sketch) MacroFault} (Ok (cond b None (Some (Regular p d n)))) (Ok s) → IsPen s
    by d p true h = let same : None ≡ s = cc in subst IsPen same tt
    by d p false h = let same : Some (Regular p d n) ≡ s = cc in subst IsPen same tt

-- ---- Figures

same_figure : (f g : Figure) → ◌≡◌ {A = Result (Option Figure) MacroFault} (Ok (Some f)) (Ok (Some g)) → IsDrawn f → IsDrawn g
same_figure f g e h = let s : f ≡ g = cc in subst IsDrawn s h

-- a closed line of few points, where they are within one metre
area_drawn : (points : List Spot) (f : Figure) → IsClosed points → 4 ≤ length points → length points ≤ MOST_CONTOUR_POINTS → area_at points ≡ Ok (Some f) → IsDrawn f
area_drawn points f closed enough few h = by (list_all is_placed points) refl h
  where
    by : (b : Bool) → list_all is_placed points ≡ b → cond b (Ok (Some (filled points))) (Err OutOfRange) ≡ Ok (Some f) → IsDrawn f
    by false e h = cc
    by true e h = same_figure (filled points) f h (record {
      closed = closed;
      enough = enough;
      not_many = few;
      placed = All-from_recursion IsPlaced points (spots_placed points e);
    })

disc_drawn : (p : Spot) (d : ℕ) (f : Figure) → d % 2 ≡ 0 → d ≤ MOST_DIAMETER → eqb d 0 ≡ false → disc_at p d ≡ Ok (Some f) → IsDrawn f
disc_drawn p d f even few some h = by (is_placed p) refl h
  where
    by : (b : Bool) → is_placed p ≡ b → cond b (Ok (Some (round (record { a = p; b = p; r = halved d })))) (Err OutOfRange) ≡ Ok (Some f) → IsDrawn f
    by false e h = cc
    by true e h =
        let r = half_drawn d even few some in
        let there = spot_placed p e in
        same_figure (round (record { a = p; b = p; r = halved d })) f h (there, there, r.0, r.1)

stroke_drawn : (p q : Spot) (w : ℕ) (f : Figure) → HasPen w → stroke_at p q w ≡ Ok (Some f) → IsDrawn f
stroke_drawn p q w f pen h = by (is_placed p) (is_placed q) refl refl h
  where
    by : (a b : Bool) → is_placed p ≡ a → is_placed q ≡ b → cond (a && b) (Ok (Some (round (record { a = p; b = q; r = halved w })))) (Err OutOfRange) ≡ Ok (Some f) → IsDrawn f
    by false b e g h = cc
    by true false e g h = cc
    by true true e g h =
        let r = half_drawn w pen.0 pen.1 pen.2 in
        same_figure (round (record { a = p; b = q; r = halved w })) f h (spot_placed p e, spot_placed q g, r.0, r.1)

sketch_drawn : (rotation : Rotation) (at : Spot) (s : Option Sketch) (f : Figure) → IsPen s → sketch_at rotation at s ≡ Ok (Some f) → IsDrawn f
unfolding sketch_at IsPen
sketch_drawn rotation at None f pen h = cc
sketch_drawn rotation at (Some (Disc p d)) f pen h = disc_drawn (set_down rotation at p) d f pen.0 pen.1 pen.2 h
sketch_drawn rotation at (Some (Stroke p q w)) f pen h = stroke_drawn (set_down rotation at p) (set_down rotation at q) w f pen h
sketch_drawn rotation at (Some (Rectangle low high)) f pen h = area_drawn (map (set_down rotation at) (rectangle low high)) f refl (omega arith) (omega arith) h
sketch_drawn rotation at (Some (Regular p d n)) f pen h = cc

sketched_drawn : (rotation : Rotation) (at : Spot) (r : Result (Option Sketch) MacroFault) (f : Figure) → ((s : Option Sketch) → r ≡ Ok s → IsPen s) → sketched rotation at r ≡ Ok (Some f) → IsDrawn f
sketched_drawn rotation at r f pen h =
    let s = then_ok r (sketch_at rotation at) (Some f) h in
    sketch_drawn rotation at s.0 f (pen s.0 s.1) s.2

outline_drawn : (n : ℕ) (rotation : Rotation) (text : List ℕ) (given : List Fraction) (unit : Measure) (at : Spot) (f : Figure) → 3 ≤ n → n ≤ MOST_OUTLINE_EDGES → outlined rotation at (outline_at n text given unit) ≡ Ok (Some f) → IsDrawn f
outline_drawn n rotation text given unit at f low high h =
    let o = then_ok (outline_at n text given unit) (λ ps. area_at (map (set_down rotation at) ps)) (Some f) h in
    by o.0 o.1 o.2 (moved_from (set_down rotation at) [] (n + 1) text given unit) refl
  where
    by : (points : List Spot) → outline_at n text given unit ≡ Ok points → area_at (map (set_down rotation at) points) ≡ Ok (Some f) → (r : Result (List Spot) MacroFault) → moved_from (set_down rotation at) [] (n + 1) text given unit ≡ r → IsDrawn f
    by points e h (Err fault) m = let refused : ◌≡◌ {A = Result (List Spot) MacroFault} (Ok points) (Err fault) = sym e ∙ outline_refused (set_down rotation at) n text given unit fault m in cc
    by points e h (Ok moved) m =
        let judged : closing_at n text given unit ≡ Ok tt = closing_is n text given unit ∙ rw e refl in
        let o = outlined_by (set_down rotation at) n text given unit moved judged m in
        let long = o.long in
        let again : ◌≡◌ {A = Result (List Spot) MacroFault} (Ok points) (Ok o.points) = sym e ∙ o.outline in
        let same : points ≡ o.points = cc in
        let here : map (set_down rotation at) points ≡ moved = ap (map (set_down rotation at)) same ∙ sym o.each in
        area_drawn moved f o.closed (omega (arith, long, low)) (omega (arith, long, high)) (subst (λ (ps : List Spot). area_at ps ≡ Ok (Some f)) here h)

figure_by_drawn : (form : Form) (rotation : Rotation) (text : List ℕ) (given : List Fraction) (unit : Measure) (at : Spot) (f : Figure) → IsSized form → figure_by form rotation text given unit at ≡ Ok (Some f) → IsDrawn f
unfolding figure_by
figure_by_drawn Circle rotation text given unit at f sized h = sketched_drawn rotation at (circle_at text given unit) f (circle_pen text given unit) h
figure_by_drawn (Outline n) rotation text given unit at f sized h = outline_drawn n rotation text given unit at f sized.0 sized.1 h
figure_by_drawn VectorLine rotation text given unit at f sized h = sketched_drawn rotation at (line_at Real text given unit) f (line_pen text given unit) h
figure_by_drawn CentreLine rotation text given unit at f sized h = sketched_drawn rotation at (centre_at text given unit) f (centre_pen text given unit) h
figure_by_drawn (Polygon n) rotation text given unit at f sized h = sketched_drawn rotation at (polygon_at n text given unit) f (polygon_pen n text given unit) h

turned_drawn : (turning : Turning) (form : Form) (text : List ℕ) (given : List Fraction) (unit : Measure) (at : Spot) (f : Figure) → IsSized form → figure_turned turning form text given unit at ≡ Ok (Some f) → IsDrawn f
unfolding figure_turned
turned_drawn (Quarters rotation) form text given unit at f sized h = figure_by_drawn form rotation text given unit at f sized h
turned_drawn Degrees form text given unit at f sized h = cc

-- what a primitive of lawful size flashes
pub primitive_drawn : (p : PlainPrimitive) (given : List Fraction) (unit : Measure) (at : Spot) (f : Figure) → IsSized p.form → figure_at p given unit at ≡ Ok (Some f) → IsDrawn f
primitive_drawn p given unit at f sized h = turned_drawn p.rotation p.form p.lengths given unit at f sized h
