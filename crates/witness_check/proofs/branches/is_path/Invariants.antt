use Rattle.witness_check.proofs.Walking.{IsWalked}
use Rattle.witness_check.proofs.branches.is_path.Given as goal

abbrev pub invariant-loop-i : goal.invariant-loop-i
invariant-loop-i l = IsWalked l.net l.stamp l.stamps l.pieces l.i
