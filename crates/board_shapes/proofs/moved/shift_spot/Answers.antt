use Rattle.board_shapes.proofs.Shifts.{shift_read}
use Rattle.board_shapes.proofs.moved.shift_spot.Goals as goal

pub returns : goal.returns
returns c = shift_read c.args.p c.args.by.x c.args.by.y c.requires.placed c.requires.way.0 c.requires.way.1
