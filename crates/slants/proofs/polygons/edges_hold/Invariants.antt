use Rattle.std.proofs.Common.{ℕ, ◌<◌}
use Rattle.slants.specs.Polygons.{EdgeHolds}
use Rattle.slants.proofs.polygons.edges_hold.Given as goal

abbrev pub invariant-loop-k : goal.invariant-loop-k
invariant-loop-k l = (k : ℕ) → k < l.k → EdgeHolds l.g l.points k
