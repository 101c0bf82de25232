use Rattle.planar.proofs.Meet.{either_decides, first_decides}
use Rattle.planar.proofs.meeting.end_meets.Goals as goal

pub returns-then-on_segment : goal.returns-then-on_segment
returns-then-on_segment c = first_decides c.on_segment.ensures c.if-on_segment.true

pub returns-else-on_segment : goal.returns-else-on_segment
returns-else-on_segment c = either_decides c.on_segment.ensures c.if-on_segment.false c.on_segment-else-on_segment.ensures
