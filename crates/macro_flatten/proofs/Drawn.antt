-- What apertures, contours and copies make can be drawn.
use Rattle.std.proofs.Common.{◌≡◌, ℕ, zero, suc, ◌-◌, ◌/◌, ◌%◌, ◌≤◌, Bool, true, false, not, ◌&&◌, cond, eqb, nat_le, nat_lt, min, List, [], ◌∷◌, length, map, ℤ, pos, negsuc, Option, Some, None, Result, Ok, Err, refl, ap, ◌∙◌, subst, arith}
use Rattle.std.proofs.lemmas.Int.{ints}
use Rattle.std.proofs.lemmas.List.{length-map}
use Rattle.std.proofs.lemmas.List.Elements.{All-from_recursion}
use Rattle.std.specs.List.{list_all, AllByRecursion}
use Rattle.std.specs.Prelude.{unsigned_abs, ◌<ℤ◌, ◌≤ℤ◌}
use borrow.Author.Tests.{leb-true, ltb-false, ltb-true}
use Rattle.planar.specs.Plane.{IsPlaced, IsReached, is_placed, same_spot}
use Rattle.planar.specs.declared.Spot.{Spot}
use Rattle.planar.proofs.Spots.{spot_is}
use Rattle.area_contact.specs.Contour.{end_from, IsClosed, IsContour}
use Rattle.board_shapes.specs.Figures.{Figure, Stroke, round, filled}
use Rattle.board_shapes.specs.Moved.{shifted, shifted_figure, corners as ends}
use Rattle.board_shapes.specs.Rectangles.{lower, rectangle, upper}
use Rattle.apertures.specs.Definition.{is_zero}
use Rattle.apertures.specs.Flash.{NoFlash, leaves, IsNarrow, IsSize, IsLawful, half, area_at, disc, rectangle_at, obround, placed, flash_of}
use Rattle.apertures.specs.declared.aperture.Aperture.{Aperture}
use Rattle.apertures.specs.declared.aperture.Aperture.TheVariants.{Circle, Rectangle, Obround}
use Rattle.regions.specs.Contours.{stays_open, too_short, close_of}
use Rattle.macro_flatten.specs.Laws.{IsDrawn}
use Rattle.area_contact.specs.declared.TheConstants.{MOST_CONTOUR_POINTS}
use Rattle.contact.specs.declared.TheConstants.{MOST_DIAMETER, MOST_RADIUS}
use Rattle.planar.specs.declared.TheConstants.{METRE}

both : (a b : Bool) → (a && b) ≡ true → (a ≡ true) × (b ≡ true)
both true b h = (refl, h)
both false b h = cc

-- ---- Within one metre

reached : (z : ℤ) → unsigned_abs z ≤ METRE → IsReached z
reached (pos n) h = (omega (arith, ints), omega (arith, ints, h))
reached (negsuc n) h = (omega (arith, ints, h), omega (arith, ints))

pub spot_placed : (p : Spot) → is_placed p ≡ true → IsPlaced p
spot_placed p h =
    let b = both (nat_le (unsigned_abs p.x) METRE) (nat_le (unsigned_abs p.y) METRE) h in
    (reached p.x (leb-true _ _ b.0), reached p.y (leb-true _ _ b.1))

pub spots_placed : (ps : List Spot) → list_all is_placed ps ≡ true → AllByRecursion IsPlaced ps
spots_placed [] h = tt
spots_placed (p ∷ ps) h = let b = both (is_placed p) (list_all is_placed ps) h in (spot_placed p b.0, spots_placed ps b.1)

-- ---- Pens

over_zero : (n : ℕ) → eqb n 0 ≡ false → 1 ≤ n
over_zero zero h = cc
over_zero (suc n) h = omega arith

-- half a size is the radius of a pen
pub half_drawn : (n : ℕ) → n % 2 ≡ 0 → n ≤ MOST_DIAMETER → eqb n 0 ≡ false → (pos 0 <ℤ pos (n / 2)) × (pos (n / 2) ≤ℤ MOST_RADIUS)
half_drawn n even most some = let s = over_zero n some in (omega (arith, ints, s, even), omega (arith, ints, most))

size_drawn : (z : ℤ) → IsSize z → unsigned_abs z ≤ MOST_DIAMETER → is_zero z ≡ false → (pos 0 <ℤ pos (unsigned_abs z / 2)) × (pos (unsigned_abs z / 2) ≤ℤ MOST_RADIUS)
size_drawn (pos n) s narrow some = half_drawn n s.even narrow some
size_drawn (negsuc n) s narrow some = let l = s.low in absurd (omega (arith, ints, l))

-- what a pen draws between two spots
pub pen_drawn : (a b : Spot) (d : ℤ) → IsPlaced a → IsPlaced b → IsSize d → IsNarrow (unsigned_abs d) → is_zero d ≡ false → IsDrawn (round (record { a = a; b = b; r = half d }))
pen_drawn a b d h k s narrow some = let r = size_drawn d s narrow some in (h, k, r.0, r.1)

-- ---- Flashes

same_figure : (f g : Figure) → ◌≡◌ {A = Result (Option Figure) NoFlash} (Ok (Some f)) (Ok (Some g)) → IsDrawn f → IsDrawn g
same_figure f g e h = let s : f ≡ g = cc in subst IsDrawn s h

disc_drawn : (n : ℕ) (to : Spot) (f : Figure) → n % 2 ≡ 0 → n ≤ MOST_DIAMETER → IsPlaced to → ◌≡◌ {A = Result (Option Figure) NoFlash} (Ok (disc n to)) (Ok (Some f)) → IsDrawn f
disc_drawn n to f even most h e = by (eqb n 0) refl e
  where
    by : (b : Bool) → eqb n 0 ≡ b → ◌≡◌ {A = Result (Option Figure) NoFlash} (Ok (cond b None (Some (round (record { a = to; b = to; r = pos (n / 2) }))))) (Ok (Some f)) → IsDrawn f
    by true z e = cc
    by false z e = let r = half_drawn n even most z in same_figure (round (record { a = to; b = to; r = pos (n / 2) })) f e (h, h, r.0, r.1)

area_drawn : (points : List Spot) (f : Figure) → IsClosed points → 4 ≤ length points → length points ≤ MOST_CONTOUR_POINTS → area_at points ≡ Ok (Some f) → IsDrawn f
area_drawn points f closed enough few e = placed_or_not (list_all is_placed points) refl e
  where
    placed_or_not : (b : Bool) → list_all is_placed points ≡ b → cond b (Ok (Some (filled points))) (Err leaves) ≡ Ok (Some f) → IsDrawn f
    placed_or_not false z e = cc
    placed_or_not true z e = same_figure (filled points) f e (record {
      closed = closed;
      enough = enough;
      not_many = few;
      placed = All-from_recursion IsPlaced points (spots_placed points z);
    })

rectangle_drawn : (x y : ℕ) (to : Spot) (f : Figure) → rectangle_at x y to ≡ Ok (Some f) → IsDrawn f
rectangle_drawn x y to f e = area_drawn (rectangle (lower to x y) (upper to x y)) f refl (omega arith) (omega arith) e

ends_drawn : (s : Stroke) (f : Figure) → pos 0 <ℤ s.r → s.r ≤ℤ MOST_RADIUS → placed s ≡ Ok (Some f) → IsDrawn f
ends_drawn s f low high e = by (is_placed s.a && is_placed s.b) refl e
  where
    by : (b : Bool) → (is_placed s.a && is_placed s.b) ≡ b → cond b (Ok (Some (round s))) (Err leaves) ≡ Ok (Some f) → IsDrawn f
    by false z e = cc
    by true z e = let p = both (is_placed s.a) (is_placed s.b) z in same_figure (round s) f e (spot_placed s.a p.0, spot_placed s.b p.1, low, high)

obround_drawn : (x y : ℤ) (to : Spot) (f : Figure) → IsSize x → IsSize y → is_zero x ≡ false → is_zero y ≡ false → IsNarrow (min (unsigned_abs x) (unsigned_abs y)) → obround (unsigned_abs x) (unsigned_abs y) to ≡ Ok (Some f) → IsDrawn f
obround_drawn x y to f hx hy sx sy narrow e = by (nat_lt (unsigned_abs y) (unsigned_abs x)) refl e
  where
    by : (b : Bool) → nat_lt (unsigned_abs y) (unsigned_abs x) ≡ b → cond b (placed (record { a = lower to (unsigned_abs x - unsigned_abs y) 0; b = upper to (unsigned_abs x - unsigned_abs y) 0; r = pos (unsigned_abs y / 2) })) (placed (record { a = lower to 0 (unsigned_abs y - unsigned_abs x); b = upper to 0 (unsigned_abs y - unsigned_abs x); r = pos (unsigned_abs x / 2) })) ≡ Ok (Some f) → IsDrawn f
    by true z e = let less = ltb-true _ _ z in let small : unsigned_abs y ≤ MOST_DIAMETER = omega (arith, narrow, less) in let r = size_drawn y hy small sy in ends_drawn (record { a = lower to (unsigned_abs x - unsigned_abs y) 0; b = upper to (unsigned_abs x - unsigned_abs y) 0; r = pos (unsigned_abs y / 2) }) f r.0 r.1 e
    by false z e = let most = ltb-false _ _ z in let small : unsigned_abs x ≤ MOST_DIAMETER = omega (arith, narrow, most) in let r = size_drawn x hx small sx in ends_drawn (record { a = lower to 0 (unsigned_abs y - unsigned_abs x); b = upper to 0 (unsigned_abs y - unsigned_abs x); r = pos (unsigned_abs x / 2) }) f r.0 r.1 e

-- what a lawful aperture flashes
pub flash_drawn : (a : Aperture) (to : Spot) (f : Figure) → IsLawful a → IsPlaced to → flash_of a to ≡ Ok (Some f) → IsDrawn f
unfolding flash_of
flash_drawn (Circle (pos n)) to f h k e = disc_drawn n to f h.0.even h.1 k e
flash_drawn (Circle (negsuc n)) to f h k e = let l = h.0.low in absurd (omega (arith, ints, l))
flash_drawn (Rectangle x y) to f h k e = rectangle_drawn (unsigned_abs x) (unsigned_abs y) to f e
flash_drawn (Obround x y) to f h k e = obround_drawn x y to f h.0 h.1 h.2 h.3 h.4 e

-- ---- Contours

-- what a contour of few spots bounds
pub contour_drawn : (contour points : List Spot) → AllByRecursion IsPlaced contour → length contour ≤ MOST_CONTOUR_POINTS → close_of contour ≡ Ok (Some points) → IsDrawn (filled points)
unfolding close_of
contour_drawn [] points h few e = cc
contour_drawn (a ∷ []) points h few e = cc
contour_drawn (a ∷ b ∷ rest) points h few e = by (same_spot (end_from b rest) a) (nat_lt (length rest) 2) refl refl e
  where
    by : (s t : Bool) → same_spot (end_from b rest) a ≡ s → nat_lt (length rest) 2 ≡ t → cond (not s) (Err stays_open) (cond t (Err too_short) (Ok (Some (a ∷ b ∷ rest)))) ≡ Ok (Some points) → IsDrawn (filled points)
    by false t es et e = cc
    by true true es et e = cc
    by true false es et e =
        let same : a ∷ b ∷ rest ≡ points = cc in
        let long : 2 ≤ length rest = ltb-false _ _ et in
        subst IsContour same (record {
          closed = spot_is (end_from b rest) a es;
          enough = omega (arith, long);
          not_many = few;
          placed = All-from_recursion IsPlaced (a ∷ b ∷ rest) h;
        })

-- ---- Copies

end-shifted : (dx dy : ℤ) (a : Spot) (rest : List Spot) → end_from (shifted dx dy a) (map (shifted dx dy) rest) ≡ shifted dx dy (end_from a rest)
end-shifted dx dy a [] = refl
end-shifted dx dy a (b ∷ rest) = end-shifted dx dy b rest

closed-shifted : (dx dy : ℤ) (points : List Spot) → IsClosed points → IsClosed (map (shifted dx dy) points)
closed-shifted dx dy [] h = tt
closed-shifted dx dy (a ∷ rest) h = end-shifted dx dy a rest ∙ ap (shifted dx dy) h

-- a figure that can be drawn, moved to where its corners are within one metre
pub moved_drawn : (dx dy : ℤ) (f : Figure) → IsDrawn f → list_all is_placed (ends (shifted_figure dx dy f)) ≡ true → IsDrawn (shifted_figure dx dy f)
moved_drawn dx dy (round s) h e =
    let p = spots_placed (shifted dx dy s.a ∷ shifted dx dy s.b ∷ []) e in
    (p.0, p.1.0, h.2, h.3)
moved_drawn dx dy (filled points) h e =
    let few = h.not_many in
    let enough = h.enough in
    let same : length (map (shifted dx dy) points) ≡ length points = length-map points (shifted dx dy) in
    record {
      closed = closed-shifted dx dy points h.closed;
      enough = rw same enough;
      not_many = rw same few;
      placed = All-from_recursion IsPlaced (map (shifted dx dy) points) (spots_placed (map (shifted dx dy) points) e);
    }
