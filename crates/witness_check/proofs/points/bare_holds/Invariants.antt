use Rattle.witness_check.proofs.Bare.{IsBareTo}
use Rattle.witness_check.proofs.points.bare_holds.Given as goal

abbrev pub invariant-loop-i : goal.invariant-loop-i
invariant-loop-i l = IsBareTo l.bare l.lines l.at l.i
