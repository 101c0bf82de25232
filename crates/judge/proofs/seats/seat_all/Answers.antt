use Rattle.std.proofs.Common.{None, arith, get_or, refl}
use Rattle.verdict.specs.declared.verdict.PointLine.{PointLine}
use Rattle.judge.proofs.FirstSeats.{seated_first, seated_last, seated_line}
use Rattle.judge.proofs.seats.seat_all.Goals as goal

abbrev no_line : PointLine
no_line = record { number = 0; layer = 0; name = 0; net = None }

pub loop-i-init : goal.loop-i-init
loop-i-init c = (c.requires.agree, seated_first c.args.lines.now c.args.groups.now c.requires.empty)

pub loop-i-preserved : goal.loop-i-preserved
loop-i-preserved c = (
  c.in_ok-seat_line.ensures.agree,
  seated_line c.args.lines.now c.loop-i.i (get_or c.args.lines.now c.loop-i.i no_line) no_line c.loop-i.groups c.seat_line.new.groups c.loop-i-test.true refl c.loop-i.invariant.1 c.in_ok-seat_line.ensures.seated,
)

pub returns : goal.returns
returns c = seated_last c.args.lines.now c.loop-i.i c.loop-i.groups (omega arith) c.loop-i.invariant.1
