use Rattle.std.proofs.Common.{All}
use Rattle.planar.specs.Plane.{IsPlaced}
use Rattle.search_tests.proofs.areas.area_of.Given as goal

abbrev pub invariant-loop-corner : goal.invariant-loop-corner
invariant-loop-corner l = All IsPlaced l.points.items
