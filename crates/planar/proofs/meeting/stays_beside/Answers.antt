use Rattle.std.proofs.Common.{rules}
use Rattle.planar.proofs.Meet.{reaches_line}
use Rattle.planar.proofs.Signs.{both_below, both_over, greater, lesser}
use Rattle.planar.proofs.meeting.stays_beside.Goals as goal

pub returns-then-min-gt0 : goal.returns-then-min-gt0
returns-then-min-gt0 c = λ _. both_over (reaches_line c.args.a c.args.b c.args.c c.args.d) (lesser (search rules) (search rules) (search rules) c.cross-start.ensures c.cross-end.ensures c.min.ensures.value) c.if-min-gt0.true

pub returns-else-min-gt0 : goal.returns-else-min-gt0
returns-else-min-gt0 c = λ below. both_below (reaches_line c.args.a c.args.b c.args.c c.args.d) (greater (search rules) (search rules) (search rules) c.cross-start.ensures c.cross-end.ensures c.max.ensures.value) below
