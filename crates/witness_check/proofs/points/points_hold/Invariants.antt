use Rattle.std.proofs.Common.{ℕ, ◌<◌}
use Rattle.witness_check.specs.Lines.{IsLineAt}
use Rattle.witness_check.proofs.points.points_hold.Given as goal

abbrev pub invariant-loop-k : goal.invariant-loop-k
invariant-loop-k l = (k : ℕ) → k < l.k → IsLineAt l.numbers l.probes l.homes l.lines k
