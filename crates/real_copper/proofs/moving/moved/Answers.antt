use Rattle.board_shapes.proofs.Shifts.{shift_read}
use Rattle.real_copper.proofs.moving.moved.Goals as goal

pub returns : goal.returns
returns c = shift_read c.args.p c.args.by.x c.args.by.y c.requires.placed c.args.by.across c.args.by.up
