use Rattle.std.proofs.Common.{arith}
use Rattle.arcs.specs.Taken.{TakenBelow}
use Rattle.arcs.proofs.Taken.{below_decided, below_lies, refused}
use Rattle.arcs.proofs.bounds.is_below.Goals as goal

pub returns-in-None-clause-taken : goal.returns-in-None-clause-taken
returns-in-None-clause-taken c = refused (TakenBelow c.args.arc.now c.args.chain.now c.args.r) (λ t. c.in-None.ensures t.judged)

pub returns-in-Some-clause-taken : goal.returns-in-Some-clause-taken
returns-in-Some-clause-taken c = below_decided c.args.arc.now c.args.chain.now c.args.r c.in-Some.ring.0 c.in-Some.ring.1 c.in-Some.ensures.0 c.chain_inside.result c.in-Some.ensures.1 (omega arith) c.chain_inside.ensures

pub returns-in-Some-clause-curves : goal.returns-in-Some-clause-curves
returns-in-Some-clause-curves c = λ yes. below_lies c.args.arc.now c.args.chain.now c.args.r ((returns-in-Some-clause-taken c).0 yes)
