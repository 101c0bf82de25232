use Rattle.planar.proofs.Meet.{either_decides, first_decides}
use Rattle.planar.proofs.meeting.ends_meet.Goals as goal

pub returns-then-end_meets : goal.returns-then-end_meets
returns-then-end_meets c = first_decides c.end_meets.ensures c.if-end_meets.true

pub returns-else-end_meets : goal.returns-else-end_meets
returns-else-end_meets c = either_decides c.end_meets.ensures c.if-end_meets.false c.end_meets-else-end_meets.ensures
