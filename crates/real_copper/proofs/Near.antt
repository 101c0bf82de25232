-- What is within 1 m of 0.
use Rattle.std.proofs.Common.{◌≡◌, ◌≤◌, suc, true, List, [], ◌∷◌, refl, arith}
use Rattle.std.specs.Prelude.{All}
use Rattle.std.specs.List.{list_all}
use Rattle.std.proofs.lemmas.Int.{ints}
use Rattle.std.proofs.lemmas.Bool.Decides.{nat_tests}
use Rattle.planar.specs.Plane.{IsPlaced, is_placed}
use Rattle.planar.specs.declared.Spot.{Spot}
use Rattle.board_shapes.specs.Figures.{figure_of}
use Rattle.board_shapes.specs.Shapes.{lawful}
use Rattle.board_shapes.specs.declared.shape.Shape.{Shape}
use Rattle.board_shapes.specs.declared.shape.Shape.TheVariants.{Round, Filled}
use Rattle.fine_figures.specs.Taken.{doubled}
use Rattle.step_repeat.specs.Shifting.{shape_few}
use Rattle.real_copper.specs.Figures.{exact, is_half_placed, is_real_placed, real_edges}

pub placed_is : (p : Spot) → IsPlaced p → is_placed p ≡ true
placed_is p h = grind (arith, nat_tests, ints)

all_is : (ps : List Spot) → All IsPlaced ps → list_all is_placed ps ≡ true
all_is [] h = refl
all_is (p ∷ ps) h =
    let first : is_placed p ≡ true = placed_is p (h 0 p (omega arith)) in
    let more : list_all is_placed ps ≡ true = all_is ps (λ k d below. h (suc k) d (omega arith)) in
    rw (first, more) refl

-- a shape that is taken exactly is
pub plain_near : (s : Shape) → is_real_placed (exact (figure_of s)) ≡ true
plain_near (Round c) =
    let h = lawful (Round c) in
    rw (placed_is c.a h.0, placed_is c.b h.1) refl
plain_near (Filled area) = let h = lawful (Filled area) in all_is area.points.items h.placed

pub plain_few : (s : Shape) → real_edges (exact (figure_of s)) ≤ 4294967295
plain_few s = shape_few s

-- and a spot in half u, of one that is
pub doubled_near : (p : Spot) → IsPlaced p → is_half_placed (doubled p) ≡ true
doubled_near p h = grind (arith, nat_tests, ints)
