-- Moved figures: none stays within 1 m of 0 that is moved farther than 2 m.
use Rattle.std.specs.Prelude.{◌≡◌, ◌≤◌, Bool, true, false, ◌&&◌, nat_le, ℤ, pos, ◌+ℤ◌, ◌*ℤ◌, unsigned_abs, refl}
use Rattle.std.proofs.Common.{arith}
use Rattle.std.proofs.lemmas.Int.{ints}
use Rattle.std.proofs.lemmas.Bool.Decides.{nat_tests}
use Rattle.planar.specs.Plane.{IsPlaced, IsReached, is_placed}
use Rattle.planar.specs.declared.Spot.{Spot}
use Rattle.planar.specs.declared.TheConstants.{TWO_METRES}
use Rattle.board_shapes.specs.Moved.{IsShift, shifted}
use Rattle.fine_figures.specs.declared.FineFigure.{FineFigure}
use Rattle.fine_figures.specs.declared.FineFigure.TheVariants.{Round, Rectangle}
use Rattle.real_shapes.specs.declared.RealShape.{RealShape}
use Rattle.real_shapes.specs.declared.RealShape.TheVariants as shape
use Rattle.step_repeat.specs.Shifting.{shape_leaves}
use Rattle.real_copper.specs.Figures.{is_half_placed, is_odd_placed, is_real_placed, real_edges, shifted_odd, shifted_real}
use Rattle.real_copper.specs.Shapes.{real_figure}
use Rattle.real_copper.specs.declared.anchored.Anchored.{Anchored}

-- of both tests
pub first_of : (x y : Bool) → (x && y) ≡ true → x ≡ true
first_of true y h = refl
first_of false y h = h

pub second_of : (x y : Bool) → (x && y) ≡ true → y ≡ true
second_of true y h = h
second_of false y h = cc

by_first : (x y : Bool) → x ≡ false → (x && y) ≡ false
by_first true y h = cc
by_first false y h = refl

by_second : (x y : Bool) → y ≡ false → (x && y) ≡ false
by_second true y h = h
by_second false y h = refl

-- the test of a spot, and of one in half u
pub placed_from : (p : Spot) → is_placed p ≡ true → IsPlaced p
placed_from p h = grind (arith, nat_tests, ints)

-- a way between two coordinates within 1 m is at most 2 m
within : (a s : ℤ) → IsReached a → IsReached (a +ℤ s) → IsShift s
within a s h k = (omega (arith, ints, h.0, h.1, k.0, k.1), omega (arith, ints, h.0, h.1, k.0, k.1))

short : (dx dy : ℤ) (p : Spot) → is_placed p ≡ true → is_placed (shifted dx dy p) ≡ true → IsShift dx × IsShift dy
short dx dy p h k =
    let near = placed_from p h in
    let there = placed_from (shifted dx dy p) k in
    (within p.x dx near.0 there.0, within p.y dy near.1 there.1)

gone : (dx dy : ℤ) (p : Spot) → ¬ (IsShift dx × IsShift dy) → is_placed p ≡ true → is_placed (shifted dx dy p) ≡ false
gone dx dy p long h = by (is_placed (shifted dx dy p)) refl
  where
    by : (b : Bool) → is_placed (shifted dx dy p) ≡ b → is_placed (shifted dx dy p) ≡ false
    by false e = e
    by true e = absurd (long (short dx dy p h e))

half_way : (a s : ℤ) → nat_le (unsigned_abs a) TWO_METRES ≡ true → nat_le (unsigned_abs (a +ℤ pos 2 *ℤ s)) TWO_METRES ≡ true → IsShift s
half_way a s h k = grind (arith, nat_tests, ints)

half_short : (dx dy : ℤ) (p : Spot) → is_half_placed p ≡ true → is_half_placed (shifted (pos 2 *ℤ dx) (pos 2 *ℤ dy) p) ≡ true → IsShift dx × IsShift dy
half_short dx dy p h k =
    (half_way p.x dx (first_of _ _ h) (first_of _ _ k), half_way p.y dy (second_of _ _ h) (second_of _ _ k))

half_gone : (dx dy : ℤ) (p : Spot) → ¬ (IsShift dx × IsShift dy) → is_half_placed p ≡ true → is_half_placed (shifted (pos 2 *ℤ dx) (pos 2 *ℤ dy) p) ≡ false
half_gone dx dy p long h = by (is_half_placed (shifted (pos 2 *ℤ dx) (pos 2 *ℤ dy) p)) refl
  where
    by : (b : Bool) → is_half_placed (shifted (pos 2 *ℤ dx) (pos 2 *ℤ dy) p) ≡ b → is_half_placed (shifted (pos 2 *ℤ dx) (pos 2 *ℤ dy) p) ≡ false
    by false e = e
    by true e = absurd (long (half_short dx dy p h e))

odd_gone : (dx dy : ℤ) (f : FineFigure) → ¬ (IsShift dx × IsShift dy) → is_odd_placed f ≡ true → is_odd_placed (shifted_odd dx dy f) ≡ false
odd_gone dx dy (Round s) long h = by_first _ _ (half_gone dx dy s.a long (first_of _ _ h))
odd_gone dx dy (Rectangle b) long h = by_first _ _ (half_gone dx dy (record { x = b.left; y = b.low }) long (first_of _ _ h))

shape_gone : (dx dy : ℤ) (s : RealShape) → ¬ (IsShift dx × IsShift dy) → is_real_placed (real_figure s) ≡ true → is_real_placed (shifted_real dx dy (real_figure s)) ≡ false
shape_gone dx dy (shape.Plain s) long h = shape_leaves s dx dy long
shape_gone dx dy (shape.ArcDraw a) long h = by_first _ _ (gone dx dy a.centre long (first_of _ _ h))
shape_gone dx dy (shape.Slanted a) long h = by_first _ _ (gone dx dy a.start long (first_of _ _ h))
shape_gone dx dy (shape.Region area) long h = by_first _ _ (gone dx dy area.start long (first_of _ _ h))
shape_gone dx dy (shape.Turned t) long h = by_first _ _ (gone dx dy t.about long (first_of _ _ h))
shape_gone dx dy (shape.TurnedDisc d) long h = by_first _ _ (gone dx dy d.centre long (first_of _ _ h))
shape_gone dx dy (shape.Polygon g) long h = by_first _ _ (gone dx dy g.polygon.centre long (first_of _ _ h))
shape_gone dx dy (shape.Fine f) long h = odd_gone dx dy f long h
shape_gone dx dy (shape.Holed h) long near = by_first _ _ (odd_gone dx dy h.outline long (first_of _ _ near))

pub anchored_leaves : (f : Anchored) (dx dy : ℤ) → ¬ (IsShift dx × IsShift dy) → is_real_placed (shifted_real dx dy (real_figure f.shape)) ≡ false
anchored_leaves f dx dy long = shape_gone dx dy f.shape long f.near

-- none counts 2^32 edges or more
pub anchored_few : (f : Anchored) → real_edges (real_figure f.shape) ≤ 4294967295
anchored_few f = f.few
