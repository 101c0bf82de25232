use Rattle.std.proofs.Common.{drop, ◌↔◌}
use Rattle.arc_regions.specs.Taken.{AreClear, IsClear}
use Rattle.arc_regions.proofs.below.chain_clear.Given as goal
use Rattle.planar.specs.Plane.{EachFrom}

abbrev pub invariant-loop-to : goal.invariant-loop-to
invariant-loop-to g l = EachFrom (IsClear l.frame l.area.points.items l.r) l.from (drop l.to-index l.rest) ↔ AreClear l.frame l.area.points.items l.r l.chain
