-- The strokes that primitives flash.
use Rattle.std.proofs.Common.{◌≡◌, ◌≢◌, ℕ, ◌==◌, Bool, true, false, ◌&&◌, cond, List, map, ℤ, ◌+ℤ◌, neg_ℤ, Option, Some, None, Result, Ok, Err, refl, sym, ap, subst, ◌∙◌, arith}
use Rattle.std.proofs.lemmas.Bool.Decides.{Decides-int_eq}
use Rattle.std.proofs.lemmas.Int.{ints}
use Rattle.std.specs.List.{list_all}
use Rattle.std.specs.Ordering.{int_eq}
use Rattle.std.specs.Prelude.{nat_lt, IfOk}
use Rattle.contact.specs.declared.TheConstants.{MOST_DIAMETER}
use Rattle.planar.specs.Plane.{is_placed}
use Rattle.planar.specs.declared.Spot.{Spot}
use Rattle.board_shapes.specs.Figures.{Stroke as Figured, filled, round}
use Rattle.board_shapes.specs.Rectangles.{halved, rectangle}
use Rattle.lengths.specs.Decimal.{Fraction}
use Rattle.lengths.specs.declared.decimal.Unit.{Unit as Measure}
use Rattle.aperture_macros.specs.declared.fault.MacroFault.{MacroFault}
use Rattle.aperture_macros.specs.declared.fault.MacroFault.TheVariants.{OutOfRange, Slanted}
use Rattle.aperture_macros.specs.declared.images.Sketch.{Sketch}
use Rattle.aperture_macros.specs.declared.images.Sketch.TheVariants.{Disc, Rectangle, Regular, Stroke}
use Rattle.aperture_macros.specs.declared.primitive.Form.{Form}
use Rattle.aperture_macros.specs.declared.primitive.Form.TheVariants.{Circle, Outline, VectorLine, CentreLine, Polygon}
use Rattle.aperture_macros.specs.declared.primitive.Copper.{Copper}
use Rattle.aperture_macros.specs.declared.primitive.Copper.TheVariants.{Exact, Real}
use Rattle.aperture_macros.specs.declared.primitive.Rotation.{Rotation}
use Rattle.aperture_macros.specs.declared.primitive.Rotation.TheVariants.{Unturned, Quarter, Half, ThreeQuarters}
use Rattle.aperture_macros.specs.BodyWord.{◌>>=◌, part, past}
use Rattle.aperture_macros.specs.Images.{area_at, circle_at, centre_at, centred, disc_at, figure_by, is_done, judged_by, line_at, line_between, outline_at, outlined, polygon_at, set_down, sketch_at, sketched, slanted, strip, stroke_at}
use Rattle.aperture_macros.specs.declared.primitive.Turning.{Turning}
use Rattle.aperture_macros.specs.declared.primitive.Turning.TheVariants.{Quarters, Degrees}
use Rattle.aperture_macros.specs.BodyWord.{PlainPrimitive}
use Rattle.aperture_macros.specs.Flashes.{figure_turned, is_fine, judged, plainly_judged, turn_judged}
use Rattle.aperture_macros.specs.Laws.{FlashesDiscsAlone, IsSlanted, StrokesAreSlantedLines}
use Rattle.aperture_macros.specs.Values.{across_at, diameter_at, point_at, size_at}

pub then_ok : {A B : Type 0} (r : Result A MacroFault) (f : A → Result B MacroFault) (y : B) → (r >>= f) ≡ Ok y → (x : A) × (r ≡ Ok x) × (f x ≡ Ok y)
then_ok (Ok x) f y h = (x, refl, h)
then_ok (Err e) f y h = cc

-- what is judged without a fault
done_ok : {A : Type 0} (r : Result A MacroFault) → is_done r ≡ Ok tt → (x : A) × (r ≡ Ok x)
done_ok (Ok x) h = (x, refl)
done_ok (Err e) h = cc

-- ---- Sketches

-- a stroke is that of a slanted line, where these lines are taken
IsFor : Copper → Option Sketch → Type 0
IsFor copper (Some (Stroke p q w)) = (copper ≡ Real) × (p.x ≢ q.x) × (p.y ≢ q.y)
IsFor copper other = Unit {0}

-- none, a disc or a rectangle
IsFlat : Option Sketch → Type 0
IsFlat (Some (Stroke p q w)) = ⊥
IsFlat other = Unit {0}

circle_flat : (text : List ℕ) (given : List Fraction) (unit : Measure) (s : Option Sketch) → circle_at text given unit ≡ Ok s → IsFlat s
unfolding circle_at IsFlat
circle_flat text given unit s h =
    let d = then_ok (diameter_at (part 0 text) given unit) (λ d. point_at (past 1 text) given unit >>= λ p. Ok (cond (d == 0) None (Some (Disc p d)))) s h in
    let p = then_ok (point_at (past 1 text) given unit) (λ p. Ok (cond (d.0 == 0) None (Some (Disc p d.0)))) s d.2 in
    by d.0 p.0 (d.0 == 0) p.2
  where
    by : (d : ℕ) (p : Spot) (b : Bool) → ◌≡◌ {A = Result (Option Sketch) MacroFault} (Ok (cond b None (Some (Disc p d)))) (Ok s) → IsFlat s
    by d p true h = let same : None ≡ s = cc in subst IsFlat same tt
    by d p false h = let same : Some (Disc p d) ≡ s = cc in subst IsFlat same tt

one_flat : (a : Bool) (low high : Spot) → IsFlat (cond a None (Some (Rectangle low high)))
unfolding IsFlat
one_flat true low high = tt
one_flat false low high = tt

centre_flat : (text : List ℕ) (given : List Fraction) (unit : Measure) (s : Option Sketch) → centre_at text given unit ≡ Ok s → IsFlat s
unfolding centre_at
centre_flat text given unit s h =
    let w = then_ok (size_at (part 0 text) given unit) (λ w. size_at (part 1 text) given unit >>= λ h. point_at (past 2 text) given unit >>= λ p. Ok (centred w h p)) s h in
    let t = then_ok (size_at (part 1 text) given unit) (λ h. point_at (past 2 text) given unit >>= λ p. Ok (centred w.0 h p)) s w.2 in
    let p = then_ok (point_at (past 2 text) given unit) (λ p. Ok (centred w.0 t.0 p)) s t.2 in
    let made : ◌≡◌ {A = Result (Option Sketch) MacroFault} (Ok (centred w.0 t.0 p.0)) (Ok s) = p.2 in
    let same : centred w.0 t.0 p.0 ≡ s = cc in
    subst IsFlat same (one_flat _ _ _)

polygon_flat : (n : ℕ) (text : List ℕ) (given : List Fraction) (unit : Measure) (s : Option Sketch) → polygon_at n text given unit ≡ Ok s → IsFlat s
unfolding polygon_at IsFlat
polygon_flat n text given unit s h =
    let p = then_ok (point_at text given unit) (λ p. across_at (part 2 text) given unit >>= λ d. Ok (cond (d == 0) None (Some (Regular p d n)))) s h in
    let d = then_ok (across_at (part 2 text) given unit) (λ d. Ok (cond (d == 0) None (Some (Regular p.0 d n)))) s p.2 in
    by d.0 p.0 (d.0 == 0) d.2
  where
    by : (d : ℕ) (p : Spot) (b : Bool) → ◌≡◌ {A = Result (Option Sketch) MacroFault} (Ok (cond b None (Some (Regular p d n)))) (Ok s) → IsFlat s
    by d p true h = let same : None ≡ s = cc in subst IsFlat same tt
    by d p false h = let same : Some (Regular p d n) ≡ s = cc in subst IsFlat same tt

strip_for : (copper : Copper) (a b : Bool) (low high low' high' : Spot) → IsFor copper (cond a None (cond b (Some (Rectangle low high)) (Some (Rectangle low' high'))))
unfolding IsFor
strip_for copper true b low high low' high' = tt
strip_for copper false true low high low' high' = tt
strip_for copper false false low high low' high' = tt

differ : (x y : ℤ) → int_eq x y ≡ false → x ≢ y
differ x y e same = let is : int_eq x y ≡ true = (Decides-int_eq x y).1 same in let never : false ≡ true = sym e ∙ is in cc

slanted_for : (copper : Copper) (w : ℕ) (p q : Spot) (s : Option Sketch) → p.x ≢ q.x → p.y ≢ q.y → slanted copper w p q ≡ Ok s → IsFor copper s
unfolding IsFor
slanted_for Exact w p q s x y h = cc
slanted_for Real w p q s x y h = by (nat_lt MOST_DIAMETER w) (w == 0) h
  where
    by : (a b : Bool) → cond a (Err OutOfRange) (Ok (cond b None (Some (Stroke p q w)))) ≡ Ok s → IsFor Real s
    by true b h = cc
    by false true h = let same : None ≡ s = cc in subst (IsFor Real) same tt
    by false false h = let same : Some (Stroke p q w) ≡ s = cc in subst (IsFor Real) same (refl, x, y)

between_for : (copper : Copper) (w : ℕ) (p q : Spot) (s : Option Sketch) → line_between copper w p q ≡ Ok s → IsFor copper s
unfolding line_between
between_for copper w p q s h = by (int_eq p.x q.x) (int_eq p.y q.y) refl refl h
  where
    by : (a b : Bool) → int_eq p.x q.x ≡ a → int_eq p.y q.y ≡ b → cond a (Ok (strip w p q w 0)) (cond b (Ok (strip w p q 0 w)) (slanted copper w p q)) ≡ Ok s → IsFor copper s
    by true b e g h = let same : strip w p q w 0 ≡ s = cc in subst (IsFor copper) same (strip_for copper _ _ _ _ _ _)
    by false true e g h = let same : strip w p q 0 w ≡ s = cc in subst (IsFor copper) same (strip_for copper _ _ _ _ _ _)
    by false false e g h = slanted_for copper w p q s (differ p.x q.x e) (differ p.y q.y g) h

-- the width and the ends of a line that is taken
record Between (copper : Copper) (text : List ℕ) (given : List Fraction) (unit : Measure) (s : Option Sketch) : Type 0 where
  w : ℕ
  p : Spot
  q : Spot
  is : line_between copper w p q ≡ Ok s
  all : (others : Copper) → line_at others text given unit ≡ line_between others w p q

same_ends : (copper : Copper) (text : List ℕ) (given : List Fraction) (unit : Measure) (w : ℕ) (p q : Spot) → size_at (part 0 text) given unit ≡ Ok w → point_at (past 1 text) given unit ≡ Ok p → point_at (past 3 text) given unit ≡ Ok q → line_at copper text given unit ≡ line_between copper w p q
unfolding line_at
same_ends copper text given unit w p q size start end = rw (size, start, end) refl

line_is : (copper : Copper) (text : List ℕ) (given : List Fraction) (unit : Measure) (s : Option Sketch) → line_at copper text given unit ≡ Ok s → Between copper text given unit s
unfolding line_at
line_is copper text given unit s h =
    let w = then_ok (size_at (part 0 text) given unit) (λ w. point_at (past 1 text) given unit >>= λ p. point_at (past 3 text) given unit >>= λ q. line_between copper w p q) s h in
    let p = then_ok (point_at (past 1 text) given unit) (λ p. point_at (past 3 text) given unit >>= λ q. line_between copper w.0 p q) s w.2 in
    let q = then_ok (point_at (past 3 text) given unit) (λ q. line_between copper w.0 p.0 q) s p.2 in
    record { w = w.0; p = p.0; q = q.0; is = q.2; all = λ others. same_ends others text given unit w.0 p.0 q.0 w.1 p.1 q.1 }

line_for : (copper : Copper) (text : List ℕ) (given : List Fraction) (unit : Measure) (s : Option Sketch) → line_at copper text given unit ≡ Ok s → IsFor copper s
line_for copper text given unit s h = let l = line_is copper text given unit s h in between_for copper l.w l.p l.q s l.is

taken_flat : (s : Option Sketch) → IsFor Exact s → IsFlat s
unfolding IsFor IsFlat
taken_flat None f = tt
taken_flat (Some (Disc p d)) f = tt
taken_flat (Some (Rectangle low high)) f = tt
taken_flat (Some (Regular p d n)) f = tt
taken_flat (Some (Stroke p q w)) f = let never : Exact ≡ Real = f.0 in cc

-- what is taken along an axis is the same where any line is
between_same : (w : ℕ) (p q : Spot) (s : Option Sketch) → line_between Exact w p q ≡ Ok s → line_between Real w p q ≡ Ok s
unfolding line_between
between_same w p q s h = by (int_eq p.x q.x) (int_eq p.y q.y) h
  where
    by : (a b : Bool) → cond a (Ok (strip w p q w 0)) (cond b (Ok (strip w p q 0 w)) (Err Slanted)) ≡ Ok s → cond a (Ok (strip w p q w 0)) (cond b (Ok (strip w p q 0 w)) (slanted Real w p q)) ≡ Ok s
    by true b h = h
    by false true h = h
    by false false h = cc

pub line_any : (copper : Copper) (text : List ℕ) (given : List Fraction) (unit : Measure) (r : Result (Option Sketch) MacroFault) → r ≡ line_at copper text given unit → IfOk r (λ s. line_at Real text given unit ≡ Ok s)
line_any copper text given unit (Err why) h = tt
line_any Exact text given unit (Ok s) h = let l = line_is Exact text given unit s (sym h) in l.all Real ∙ between_same l.w l.p l.q s l.is
line_any Real text given unit (Ok s) h = sym h

-- ---- Figures

no_area : {P : Type 0} (points : List Spot) (s : Figured) → area_at points ≡ Ok (Some (round s)) → P
no_area {P = P} points s h = by (list_all is_placed points) h
  where
    by : (b : Bool) → cond b (Ok (Some (filled points))) (Err OutOfRange) ≡ Ok (Some (round s)) → P
    by true h = cc
    by false h = cc

disc_ends : (p : Spot) (d : ℕ) (s : Figured) → disc_at p d ≡ Ok (Some (round s)) → s.a ≡ s.b
disc_ends p d s h = by (is_placed p) h
  where
    by : (b : Bool) → cond b (Ok (Some (round (record { a = p; b = p; r = halved d })))) (Err OutOfRange) ≡ Ok (Some (round s)) → s.a ≡ s.b
    by false h = cc
    by true h = let same : ◌≡◌ {A = Figured} (record { a = p; b = p; r = halved d }) s = cc in sym (ap (λ (t : Figured). t.a) same) ∙ ap (λ (t : Figured). t.b) same

stroke_ends : (p q : Spot) (w : ℕ) (s : Figured) → stroke_at p q w ≡ Ok (Some (round s)) → (p ≡ s.a) × (q ≡ s.b)
stroke_ends p q w s h = by (is_placed p && is_placed q) h
  where
    by : (b : Bool) → cond b (Ok (Some (round (record { a = p; b = q; r = halved w })))) (Err OutOfRange) ≡ Ok (Some (round s)) → (p ≡ s.a) × (q ≡ s.b)
    by false h = cc
    by true h = let same : ◌≡◌ {A = Figured} (record { a = p; b = q; r = halved w }) s = cc in (ap (λ (t : Figured). t.a) same, ap (λ (t : Figured). t.b) same)

flat_ends : (rotation : Rotation) (at : Spot) (o : Option Sketch) (s : Figured) → IsFlat o → sketch_at rotation at o ≡ Ok (Some (round s)) → s.a ≡ s.b
unfolding sketch_at IsFlat
flat_ends rotation at None s f h = cc
flat_ends rotation at (Some (Disc p d)) s f h = disc_ends (set_down rotation at p) d s h
flat_ends rotation at (Some (Rectangle low high)) s f h = no_area (map (set_down rotation at) (rectangle low high)) s h
flat_ends rotation at (Some (Regular p d n)) s f h = cc
flat_ends rotation at (Some (Stroke p q w)) s f h = absurd f

plus_differ : (a x y : ℤ) → x ≢ y → (a +ℤ x) ≢ (a +ℤ y)
plus_differ a x y h e = h (omega (arith, ints, e))

less_differ : (a x y : ℤ) → x ≢ y → (a +ℤ neg_ℤ x) ≢ (a +ℤ neg_ℤ y)
less_differ a x y h e = h (omega (arith, ints, e))

turned_slanted : (rotation : Rotation) (at p q : Spot) → p.x ≢ q.x → p.y ≢ q.y → ((set_down rotation at p).x ≢ (set_down rotation at q).x) × ((set_down rotation at p).y ≢ (set_down rotation at q).y)
turned_slanted Unturned at p q x y = (plus_differ at.x p.x q.x x, plus_differ at.y p.y q.y y)
turned_slanted Quarter at p q x y = (less_differ at.x p.y q.y y, plus_differ at.y p.x q.x x)
turned_slanted Half at p q x y = (less_differ at.x p.x q.x x, less_differ at.y p.y q.y y)
turned_slanted ThreeQuarters at p q x y = (plus_differ at.x p.y q.y y, less_differ at.y p.x q.x x)

slanted_by : (a b : Spot) (s : Figured) → a ≡ s.a → b ≡ s.b → (a.x ≢ b.x) × (a.y ≢ b.y) → IsSlanted s
slanted_by a b s h k differ = rw (h, k) at differ

line_ends : (rotation : Rotation) (at : Spot) (o : Option Sketch) (s : Figured) → IsFor Real o → sketch_at rotation at o ≡ Ok (Some (round s)) → s.a ≢ s.b → IsSlanted s
unfolding sketch_at IsFor
line_ends rotation at None s f h apart = cc
line_ends rotation at (Some (Disc p d)) s f h apart = absurd (apart (disc_ends (set_down rotation at p) d s h))
line_ends rotation at (Some (Rectangle low high)) s f h apart = no_area (map (set_down rotation at) (rectangle low high)) s h
line_ends rotation at (Some (Regular p d n)) s f h apart = cc
line_ends rotation at (Some (Stroke p q w)) s f h apart =
    let ends = stroke_ends (set_down rotation at p) (set_down rotation at q) w s h in
    slanted_by (set_down rotation at p) (set_down rotation at q) s ends.0 ends.1 (turned_slanted rotation at p q f.1 f.2)

-- ---- The laws

outline_none : {P : Type 0} (n : ℕ) (rotation : Rotation) (text : List ℕ) (given : List Fraction) (unit : Measure) (at : Spot) (s : Figured) → outlined rotation at (outline_at n text given unit) ≡ Ok (Some (round s)) → P
outline_none n rotation text given unit at s h =
    let o = then_ok (outline_at n text given unit) (λ ps. area_at (map (set_down rotation at) ps)) (Some (round s)) h in
    no_area (map (set_down rotation at) o.0) s o.2

flat_by : (r : Result (Option Sketch) MacroFault) (rotation : Rotation) (at : Spot) (s : Figured) → ((o : Option Sketch) → r ≡ Ok o → IsFlat o) → sketched rotation at r ≡ Ok (Some (round s)) → s.a ≡ s.b
flat_by r rotation at s flat h = let o = then_ok r (sketch_at rotation at) (Some (round s)) h in flat_ends rotation at o.0 s (flat o.0 o.1) o.2

judged_flat : (text : List ℕ) (given : List Fraction) (unit : Measure) → is_done (line_at Exact text given unit) ≡ Ok tt → (o : Option Sketch) → line_at Real text given unit ≡ Ok o → IsFlat o
judged_flat text given unit j o h =
    let d = done_ok (line_at Exact text given unit) j in
    let l = line_is Exact text given unit d.0 d.1 in
    let there : ◌≡◌ {A = Result (Option Sketch) MacroFault} (Ok d.0) (Ok o) = sym (l.all Real ∙ between_same l.w l.p l.q d.0 l.is) ∙ h in
    let same : d.0 ≡ o = cc in
    subst IsFlat same (taken_flat d.0 (line_for Exact text given unit d.0 d.1))

discs_by : (form : Form) (rotation : Rotation) (text : List ℕ) (given : List Fraction) (unit : Measure) (at : Spot) (s : Figured) → judged_by Exact form text given unit ≡ Ok tt → figure_by form rotation text given unit at ≡ Ok (Some (round s)) → s.a ≡ s.b
unfolding judged_by figure_by
discs_by Circle rotation text given unit at s j h = flat_by (circle_at text given unit) rotation at s (circle_flat text given unit) h
discs_by (Outline n) rotation text given unit at s j h = outline_none n rotation text given unit at s h
discs_by VectorLine rotation text given unit at s j h = flat_by (line_at Real text given unit) rotation at s (judged_flat text given unit j) h
discs_by CentreLine rotation text given unit at s j h = flat_by (centre_at text given unit) rotation at s (centre_flat text given unit) h
discs_by (Polygon n) rotation text given unit at s j h = flat_by (polygon_at n text given unit) rotation at s (polygon_flat n text given unit) h

round_by : (turning : Turning) (form : Form) (text : List ℕ) (given : List Fraction) (unit : Measure) (at : Spot) (s : Figured) → figure_turned turning form text given unit at ≡ Ok (Some (round s)) → (rotation : Rotation) × (turning ≡ Quarters rotation) × (figure_by form rotation text given unit at ≡ Ok (Some (round s)))
unfolding figure_turned
round_by (Quarters rotation) form text given unit at s h = (rotation, refl, h)
round_by Degrees form text given unit at s h = cc

-- by quarter turns none is judged as a fine one
plainly : (rotation : Rotation) (p : PlainPrimitive) (given : List Fraction) (unit : Measure) → p.rotation ≡ Quarters rotation → judged Exact p given unit ≡ Ok tt → plainly_judged Exact p given unit ≡ Ok tt
unfolding is_fine
plainly rotation p given unit e j =
    let no : is_fine p.rotation p.form p.lengths given unit ≡ false = rw e refl in
    rw no at j

pub flashes_discs_alone : FlashesDiscsAlone
flashes_discs_alone p given unit at s j h =
    let r = round_by p.rotation p.form p.lengths given unit at s h in
    let d = then_ok (judged_by Exact p.form p.lengths given unit) (λ done. turn_judged p.rotation p.form p.lengths given unit) tt (plainly r.0 p given unit r.1 j) in
    discs_by p.form r.0 p.lengths given unit at s d.1 r.2

strokes_by : (form : Form) (rotation : Rotation) (text : List ℕ) (given : List Fraction) (unit : Measure) (at : Spot) (s : Figured) → figure_by form rotation text given unit at ≡ Ok (Some (round s)) → s.a ≢ s.b → (form ≡ VectorLine) × IsSlanted s
unfolding figure_by
strokes_by Circle rotation text given unit at s h apart = absurd (apart (flat_by (circle_at text given unit) rotation at s (circle_flat text given unit) h))
strokes_by (Outline n) rotation text given unit at s h apart = outline_none n rotation text given unit at s h
strokes_by VectorLine rotation text given unit at s h apart =
    let o = then_ok (line_at Real text given unit) (sketch_at rotation at) (Some (round s)) h in
    (refl, line_ends rotation at o.0 s (line_for Real text given unit o.0 o.1) o.2 apart)
strokes_by CentreLine rotation text given unit at s h apart = absurd (apart (flat_by (centre_at text given unit) rotation at s (centre_flat text given unit) h))
strokes_by (Polygon n) rotation text given unit at s h apart = absurd (apart (flat_by (polygon_at n text given unit) rotation at s (polygon_flat n text given unit) h))

pub strokes_are_slanted_lines : StrokesAreSlantedLines
strokes_are_slanted_lines p given unit at s h apart = let r = round_by p.rotation p.form p.lengths given unit at s h in strokes_by p.form r.0 p.lengths given unit at s r.2 apart
