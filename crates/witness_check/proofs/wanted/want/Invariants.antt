use Rattle.witness_check.proofs.Picking.{Marks}
use Rattle.witness_check.proofs.wanted.want.Given as goal

abbrev pub invariant-loop-branch : goal.invariant-loop-branch
invariant-loop-branch l = Marks l.initial.wanted l.branches l.branch-index l.wanted
