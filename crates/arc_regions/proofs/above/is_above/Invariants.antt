use Rattle.std.proofs.Common.{drop, ◌↔◌}
use Rattle.arc_regions.specs.Taken.{AreStretches, all_chained}
use Rattle.arc_regions.proofs.above.is_above.Given as goal

abbrev pub invariant-loop-stretch : goal.invariant-loop-stretch
invariant-loop-stretch l = AreStretches l.fn.start l.from (all_chained (drop l.stretch-index l.stretches)) ↔ AreStretches l.fn.start l.fn.start (all_chained l.stretches)
