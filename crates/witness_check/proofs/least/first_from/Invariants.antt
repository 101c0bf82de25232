use Rattle.std.proofs.Common.{get_or, ◌<◌, ◌≤◌, ℕ}
use Rattle.witness_check.specs.declared.least.ProbePlace.{ProbePlace}
use Rattle.witness_check.proofs.least.first_from.Given as goal

abbrev pub invariant-loop-j : goal.invariant-loop-j
invariant-loop-j l = (j : ℕ) (e : ProbePlace) → l.from ≤ j → j < l.j → (get_or l.points j e).place < l.start
