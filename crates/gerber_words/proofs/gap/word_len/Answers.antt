use Rattle.std.proofs.Common.{◌+◌, refl}
use Rattle.gerber_words.proofs.Strides.{breaks_at_line, breaks_at_percent, no_star, read_at, reads}
use Rattle.gerber_words.proofs.gap.word_len.Goals as goal

pub returns-in-42 : goal.returns-in-42
returns-in-42 c = (
  c.loop-i.invariant.plain,
  read_at c.args.bytes.now (c.plain_front-start.result + c.loop-i.i) 42 (reads c.args.bytes.now c.plain_front-start.result c.loop-i.i 42 c.plain_front-start.ensures.within c.loop-i-test.true c.in-42.is),
)

pub returns-in-37 : goal.returns-in-37
returns-in-37 c = breaks_at_percent c.args.bytes.now (c.plain_front-start.result + c.loop-i.i) c.loop-i.invariant.same (reads c.args.bytes.now c.plain_front-start.result c.loop-i.i 37 c.plain_front-start.ensures.within c.loop-i-test.true c.in-37.is)

pub returns-in-10 : goal.returns-in-10
returns-in-10 c = breaks_at_line c.args.bytes.now c.plain_front-start.result c.loop-i.i _ c.loop-i.invariant.same c.plain_front-start.ensures.within c.loop-i-test.true refl c.in-10.is

pub returns : goal.returns
returns c = no_star c.args.bytes.now c.plain_front-start.result c.loop-i.i c.loop-i.invariant.same c.plain_front-start.ensures.within c.loop-i-test.false
