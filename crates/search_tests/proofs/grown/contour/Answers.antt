use Rattle.std.proofs.Common.{All, List, subst, sym}
use Rattle.std.proofs.lemmas.List.Elements.{All-push}
use Rattle.planar.specs.declared.Spot.{Spot}
use Rattle.planar.specs.Plane.{IsPlaced}
use Rattle.search_tests.proofs.grown.contour.Goals as goal

pub loop-at-preserved : goal.loop-at-preserved
loop-at-preserved c = subst (λ (xs : List Spot). All IsPlaced xs) (sym c.in_ok-push.ensures.items) (All-push IsPlaced c.loop-at.points.items c.moved.result c.loop-at.invariant c.moved.ensures)
