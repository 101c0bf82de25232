use Rattle.real_copper.proofs.Sums.{half_shift_read}
use Rattle.real_copper.proofs.moving.moved_half.Goals as goal

pub returns : goal.returns
returns c = half_shift_read c.args.p c.args.by.x c.args.by.y c.requires.placed c.args.by.across c.args.by.up
