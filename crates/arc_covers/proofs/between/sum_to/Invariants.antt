use Rattle.std.proofs.Common.{◌≡◌, ◌+◌, take, sum}
use Rattle.arc_covers.proofs.between.sum_to.Given as goal

abbrev pub invariant-loop-count : goal.invariant-loop-count
invariant-loop-count l = l.left + sum (take l.count-index l.counts) ≡ l.fn.all
