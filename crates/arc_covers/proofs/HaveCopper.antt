-- Each shape that is read has a copper.
use Rattle.std.proofs.Common.{◌≡◌, ◌<◌, ◌≤◌, ℕ, Bool, true, false, ◌&&◌, List, All, Option, Some, slice_get, refl, sym, subst, arith}
use Rattle.std.specs.Prelude.{nat_le, nat_lt}
use Rattle.std.proofs.lemmas.Bool.Decides.{nat_tests}
use Rattle.std.proofs.lemmas.Option.{get_or_from_slice_get, slice_get_within}
use Rattle.board_shapes.specs.declared.placed.Placed.{Placed}
use Rattle.arcs.specs.Laws as arcs
use Rattle.arc_regions.specs.Laws as regions
use Rattle.slants.specs.Laws as slants
use Rattle.slants.specs.declared.cones.TheConstants.{RIGHT_ANGLE}
use Rattle.turned_polygons.specs.Laws.{TurnedPolygonsHaveCopper}
use Rattle.real_shapes.specs.Settled.{is_settled}
use Rattle.real_shapes.specs.declared.RealShape.{RealShape}
use Rattle.real_shapes.specs.declared.RealShape.TheVariants.{Plain, ArcDraw, Slanted, Region, Turned, TurnedDisc, Polygon, Fine, Holed}
use Rattle.arc_covers.specs.Laws.{RealBoardsHaveCopper, ShapesHaveCopper}
use Rattle.arc_covers.specs.RealBoards.{IsCopperOf, least_at}

-- of both tests
both : (x y : Bool) → (x && y) ≡ true → (x ≡ true) × (y ≡ true)
both true y h = (refl, h)
both false y h = cc

acute : (angle : ℕ) → nat_lt angle RIGHT_ANGLE ≡ true → angle < RIGHT_ANGLE
acute angle h = grind (arith, nat_tests)

at_most : (a b : ℕ) → nat_le a b ≡ true → a ≤ b
at_most a b h = grind (arith, nat_tests)

pub shapes_have_copper : arcs.SurelyIsPossibly → regions.SurelyIsPossibly → slants.SurelyIsPossibly → slants.DiscsHaveCopper → TurnedPolygonsHaveCopper → ShapesHaveCopper
shapes_have_copper draws areas turns discs polygons (Plain shape) h = λ p. ((λ x. x), (λ x. x))
shapes_have_copper draws areas turns discs polygons (ArcDraw arc) h = record { least = λ p x. x; most = λ p x. draws arc p x }
shapes_have_copper draws areas turns discs polygons (Slanted line) h = λ p. ((λ x. x), (λ x. x))
shapes_have_copper draws areas turns discs polygons (Region area) h = record { least = λ p x. x; most = λ p x. areas area.start area.parts.items p x }
shapes_have_copper draws areas turns discs polygons (Turned t) h = record { least = λ p x. x; most = λ p x. turns t.contour.items t.about t.angle p (acute t.angle h) x }
shapes_have_copper draws areas turns discs polygons (TurnedDisc disc) h = record { least = λ p x. x; most = λ p x. discs disc p (acute disc.angle h) x }
shapes_have_copper draws areas turns discs polygons (Polygon g) h =
    let a = both (nat_lt g.angle RIGHT_ANGLE) (nat_le 3 g.polygon.corners && nat_le g.polygon.corners 12) h in
    let c = both (nat_le 3 g.polygon.corners) (nat_le g.polygon.corners 12) a.1 in
    record { least = λ p x. x; most = λ p x. polygons g p (acute g.angle a.0) (record { enough = at_most 3 g.polygon.corners c.0; few = at_most g.polygon.corners 12 c.1 }) x }
shapes_have_copper draws areas turns discs polygons (Fine fine) h = λ p. ((λ x. x), (λ x. x))
shapes_have_copper draws areas turns discs polygons (Holed held) h = λ p. ((λ x. x), (λ x. x))

-- the piece there is one of them
settled_at : (pieces : List (Placed RealShape)) (i : ℕ) (piece : Placed RealShape) → All (λ (q : Placed RealShape). is_settled q.shape ≡ true) pieces → slice_get pieces i ≡ Some piece → is_settled piece.shape ≡ true
settled_at pieces i piece h is = subst (λ (q : Placed RealShape). is_settled q.shape ≡ true) (get_or_from_slice_get pieces i piece piece is) (h i piece (slice_get_within pieces i piece is))

pub boards_have_copper : ShapesHaveCopper → RealBoardsHaveCopper
boards_have_copper each pieces b h spans = record {
  spans = spans;
  copper = λ i piece is. subst (λ (o : Option (Placed RealShape)). IsCopperOf piece.shape (λ p. least_at o p)) (sym is) (each piece.shape (settled_at pieces i piece h is));
}
