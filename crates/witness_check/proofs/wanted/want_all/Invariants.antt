use Rattle.std.proofs.Common.{◌≡◌, length}
use Rattle.witness_check.proofs.Picking.{AreWantedTo}
use Rattle.witness_check.proofs.wanted.want_all.Given as goal

abbrev pub invariant-loop-short : goal.invariant-loop-short
invariant-loop-short l = (length l.wanted ≡ length l.initial.wanted) × AreWantedTo l.wanted l.shorts l.short-index
