use Rattle.std.proofs.Common.{◌≢◌, arith, sym, take}
use Rattle.std.proofs.lemmas.Bool.{both_ways}
use Rattle.std.proofs.lemmas.List.{take_all}
use Rattle.std.proofs.lemmas.List.Elements.{All-more, All-same}
use Rattle.arc_covers.proofs.regions.length_to.Goals as goal

pub loop-i-preserved : goal.loop-i-preserved
loop-i-preserved c = All-more (λ s. s ≢ c.args.end) c.args.spots.now c.loop-i.i _ (omega arith) c.loop-i.invariant (λ e. both_ways c.is_same.result c.if-is_same.false (c.is_same.ensures.same.1 e))

pub returns-clause-none : goal.returns-clause-none
returns-clause-none c = All-same (λ s. s ≢ c.args.end) c.args.spots.now (take c.loop-i.i c.args.spots.now) (sym (take_all c.loop-i.i c.args.spots.now (omega arith))) c.loop-i.invariant
