use Rattle.std.proofs.Common.{arith}
use Rattle.texts.proofs.Decimals.{three, four, five}
use Rattle.texts.proofs.writing.put_few.Goals as goal

pub returns-then-few-ge10000 : goal.returns-then-few-ge10000
returns-then-few-ge10000 c = rw (five c.args.n (omega arith) (omega arith), ← c.pair-second.ensures.tens, ← c.pair-second.ensures.ones, ← c.pair-tens.ensures.tens, ← c.pair-tens.ensures.ones) c.put.ensures

pub returns-then-few-ge1000 : goal.returns-then-few-ge1000
returns-then-few-ge1000 c = rw (four c.args.n (omega arith) (omega arith), ← c.pair-first.ensures.tens, ← c.pair-first.ensures.ones, ← c.pair-tens-then-few-ge1000.ensures.tens, ← c.pair-tens-then-few-ge1000.ensures.ones) c.put-then-few-ge1000.ensures

pub returns : goal.returns
returns c = rw (three c.args.n (omega arith) (omega arith), ← c.pair-tens-2.ensures.tens, ← c.pair-tens-2.ensures.ones) c.put-2.ensures
