use Rattle.std.proofs.Common.{arith}
use Rattle.texts.proofs.Decimals.{one, two}
use Rattle.texts.proofs.writing.put_two.Goals as goal

pub returns-then-n-lt10 : goal.returns-then-n-lt10
returns-then-n-lt10 c = rw (one c.args.n c.if-n-lt10.true) c.put.ensures

pub returns : goal.returns
returns c = rw (two c.args.n (omega arith) (omega arith), ← c.pair-tens.ensures.tens, ← c.pair-tens.ensures.ones) c.put-2.ensures
