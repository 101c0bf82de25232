use Rattle.std.proofs.Common.{All}
use Rattle.planar.specs.Plane.{IsPlaced}
use Rattle.search_tests.proofs.areas.rungs.Given as goal

abbrev pub invariant-loop-i : goal.invariant-loop-i
invariant-loop-i l = All IsPlaced l.points.items
