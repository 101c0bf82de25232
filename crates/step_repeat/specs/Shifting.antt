-- Which shapes stay within 1 m where they are shifted, and that each has few edges.
use Rattle.std.proofs.Common.{◌≡◌, ℕ, ◌<◌, ◌≤◌, suc, zero, Bool, true, false, ◌&&◌, List, [], ◌∷◌, length, map, ℤ, ◌+ℤ◌, refl, ap, ◌∙◌, arith}
use Rattle.std.specs.Prelude.{All, slice_index_or}
use Rattle.std.specs.List.{list_all}
use Rattle.std.proofs.lemmas.Int.{ints}
use Rattle.std.proofs.lemmas.Bool.Decides.{nat_tests}
use Rattle.planar.specs.Plane.{IsPlaced, IsReached, is_placed}
use Rattle.planar.specs.declared.Spot.{Spot}
use Rattle.board_shapes.specs.Figures.{Figure, round, filled, figure_of, IsLawfulFigure}
use Rattle.board_shapes.specs.Moved.{IsShift, StaysPlaced, corners, shifted, shifted_figure}
use Rattle.board_shapes.specs.Shapes.{lawful}
use Rattle.board_shapes.specs.declared.shape.Shape.{Shape}
use Rattle.board_shapes.specs.declared.shape.Shape.TheVariants.{Round, Filled}
use Rattle.step_repeat.specs.Figures.{shape_handling}

-- the test of one spot, and of several
placed_is : (p : Spot) → IsPlaced p → is_placed p ≡ true
placed_is p h = grind (arith, nat_tests, ints)

placed_from : (p : Spot) → is_placed p ≡ true → IsPlaced p
placed_from p h = grind (arith, nat_tests, ints)

all_is : (ps : List Spot) → All IsPlaced ps → list_all is_placed ps ≡ true
all_is [] h = refl
all_is (p ∷ ps) h =
    let first : is_placed p ≡ true = placed_is p (h 0 p (omega arith)) in
    let more : list_all is_placed ps ≡ true = all_is ps (λ k d below. h (suc k) d (omega arith)) in
    rw (first, more) refl

both : (a b : Bool) → (a && b) ≡ true → (a ≡ true) × (b ≡ true)
both true b h = (refl, h)
both false b h = cc

all_cons : (p : Spot) (ps : List Spot) → IsPlaced p → All IsPlaced ps → (k : ℕ) (d : Spot) → k < length (p ∷ ps) → IsPlaced (slice_index_or (p ∷ ps) k d)
all_cons p ps h more zero d below = h
all_cons p ps h more (suc k) d below = more k d (omega arith)

all_from : (ps : List Spot) → list_all is_placed ps ≡ true → All IsPlaced ps
all_from [] h = λ k d below. absurd (omega arith)
all_from (p ∷ ps) h =
    let parts = both (is_placed p) (list_all is_placed ps) h in
    all_cons p ps (placed_from p parts.0) (all_from ps parts.1)

moved_corners : (dx dy : ℤ) (f : Figure) → corners (shifted_figure dx dy f) ≡ map (shifted dx dy) (corners f)
moved_corners dx dy (round s) = refl
moved_corners dx dy (filled points) = refl

-- a figure shifted, by its corners
pub figure_stays : (dx dy : ℤ) (f : Figure) → StaysPlaced dx dy f → shape_handling.within (shape_handling.shifted dx dy f) ≡ true
figure_stays dx dy f h = ap (list_all is_placed) (moved_corners dx dy f) ∙ all_is _ h

pub figure_leaves : (dx dy : ℤ) (f : Figure) → ¬ StaysPlaced dx dy f → shape_handling.within (shape_handling.shifted dx dy f) ≡ false
figure_leaves dx dy f gone = by (list_all is_placed (corners (shifted_figure dx dy f))) refl
  where
    by : (b : Bool) → list_all is_placed (corners (shifted_figure dx dy f)) ≡ b → list_all is_placed (corners (shifted_figure dx dy f)) ≡ false
    by false e = e
    by true e = absurd (gone (all_from (map (shifted dx dy) (corners f)) (rw moved_corners at e)))

-- a way between two places within 1 m is at most 2 m
within : (a s : ℤ) → IsReached a → IsReached (a +ℤ s) → IsShift s
within a s h k = (omega (arith, ints, h.0, h.1, k.0, k.1), omega (arith, ints, h.0, h.1, k.0, k.1))

near : (dx dy : ℤ) (p : Spot) → IsPlaced p → IsPlaced (shifted dx dy p) → IsShift dx × IsShift dy
near dx dy p h k = (within p.x dx h.0 k.0, within p.y dy h.1 k.1)

at_first : (dx dy : ℤ) (p : Spot) (ps : List Spot) → All IsPlaced (p ∷ ps) → All IsPlaced (map (shifted dx dy) (p ∷ ps)) → IsShift dx × IsShift dy
at_first dx dy p ps h k = near dx dy p (h 0 p (omega arith)) (k 0 p (omega arith))

along : (dx dy : ℤ) (ps : List Spot) → 0 < length ps → All IsPlaced ps → All IsPlaced (map (shifted dx dy) ps) → IsShift dx × IsShift dy
along dx dy [] some h k = absurd (omega arith)
along dx dy (p ∷ ps) some h k = at_first dx dy p ps h k

is_short : (dx dy : ℤ) (f : Figure) → IsLawfulFigure f → StaysPlaced dx dy f → IsShift dx × IsShift dy
is_short dx dy (round s) h k = near dx dy s.a h.0 (k 0 s.a (omega arith))
is_short dx dy (filled points) h k = along dx dy points (let enough = h.enough in omega arith) h.placed k

-- no shape stays within 1 m that is moved farther than 2 m
pub shape_leaves : (s : Shape) (dx dy : ℤ) → ¬ (IsShift dx × IsShift dy) → shape_handling.within (shape_handling.shifted dx dy (figure_of s)) ≡ false
shape_leaves s dx dy long = figure_leaves dx dy (figure_of s) (λ k. long (is_short dx dy (figure_of s) (lawful s) k))

-- no shape counts 2^32 edges or more
pub shape_few : (s : Shape) → shape_handling.edges (figure_of s) ≤ 4294967295
shape_few (Round c) = omega arith
shape_few (Filled area) = let h = area.not_many in omega (arith, h)
