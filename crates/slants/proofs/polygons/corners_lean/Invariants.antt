use Rattle.std.proofs.Common.{ℕ, ◌*◌, ◌<◌}
use Rattle.slants.specs.Polygons.{corner_of, turns_to}
use Rattle.slants.specs.Turned.{Leans}
use Rattle.slants.proofs.polygons.corners_lean.Given as goal

abbrev pub invariant-loop-k : goal.invariant-loop-k
invariant-loop-k l = (k : ℕ) → k < l.k → Leans (turns_to l.g (2 * k)) l.b l.c (corner_of l.g k)
