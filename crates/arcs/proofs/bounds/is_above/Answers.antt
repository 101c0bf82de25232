use Rattle.std.proofs.Common.{arith}
use Rattle.arcs.specs.Taken.{TakenAbove}
use Rattle.arcs.proofs.Taken.{above_decided, above_holds, refused}
use Rattle.arcs.proofs.bounds.is_above.Goals as goal

pub returns-in-None-clause-taken : goal.returns-in-None-clause-taken
returns-in-None-clause-taken c = refused (TakenAbove c.args.arc.now c.args.chain.now c.args.r) (λ t. c.in-None.ensures t.judged)

pub returns-in-Some-clause-taken : goal.returns-in-Some-clause-taken
returns-in-Some-clause-taken c = above_decided c.args.arc.now c.args.chain.now c.args.r c.in-Some.ring.0 c.in-Some.ring.1 c.in-Some.ensures.0 c.chain_round.result c.in-Some.ensures.1 (omega arith) (omega arith) c.chain_round.ensures

pub returns-in-Some-clause-curves : goal.returns-in-Some-clause-curves
returns-in-Some-clause-curves c = λ yes. above_holds c.args.arc.now c.args.chain.now c.args.r ((returns-in-Some-clause-taken c).0 yes)
