use Rattle.std.proofs.Common.{All}
use Rattle.planar.specs.Plane.{IsPlaced}
use Rattle.search_tests.proofs.grown.contour.Given as goal

abbrev pub invariant-loop-at : goal.invariant-loop-at
invariant-loop-at l = All IsPlaced l.points.items
