use Rattle.clear_polarity.proofs.Lists.{begin_with}
use Rattle.clear_polarity.proofs.above.begun.Goals as goal

pub returns-then-not-are_same-clause-none : goal.returns-then-not-are_same-clause-none
returns-then-not-are_same-clause-none c = λ rest e. let t = c.are_same.ensures.1 (begin_with c.args.others.now c.args.shapes.now rest e) in let f = c.if-not-are_same.true in cc
