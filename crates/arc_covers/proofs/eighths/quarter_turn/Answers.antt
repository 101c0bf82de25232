use Rattle.std.proofs.Common.{refl}
use Rattle.arc_covers.proofs.Turning.{less_read, more_read, stays_round}
use Rattle.arc_covers.proofs.eighths.quarter_turn.Goals as goal

pub returns : goal.returns
returns c =
    rw (
      less_read c.args.c.x c.args.s.y c.args.c.y c.requires.c_placed.0 c.requires.c_placed.1 c.requires.round.1,
      more_read c.args.c.y c.args.s.x c.args.c.x c.requires.c_placed.1 c.requires.c_placed.0 c.requires.round.0,
    ) record { value = refl; round = stays_round c.args.c c.args.s c.requires.round }
