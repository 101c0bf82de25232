use Rattle.std.proofs.Common.{drop, ◌↔◌}
use Rattle.planar.specs.Plane.{at}
use Rattle.slants.specs.Copper.{InSlant}
use Rattle.slants.specs.Taken.{Each}
use Rattle.slants.proofs.below.has_corners.Given as goal

abbrev pub invariant-loop-q : goal.invariant-loop-q
invariant-loop-q l = Each (λ q. InSlant l.slant (at q)) (drop l.q-index l.points) ↔ Each (λ q. InSlant l.slant (at q)) l.points
