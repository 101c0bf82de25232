use Rattle.std.proofs.Common.{◌-◌}
use Rattle.gaps.specs.declared.gap.Gap.{Gap}
use Rattle.gaps.specs.Meetings.{Covered, IsLineOf}
use Rattle.gaps.proofs.found.Found.covers_all.Given as goal

abbrev pub decreases-loop-layer : goal.decreases-loop-layer
decreases-loop-layer l = l.past - l.layer

abbrev pub invariant-loop-layer : goal.invariant-loop-layer
invariant-loop-layer l = (gap : Gap) → IsLineOf l.fn.pair.low l.fn.pair.high l.fn.pair.first l.fn.pair.second l.fn.pair.top l.layer gap → Covered l.fn.self.lines.items gap
