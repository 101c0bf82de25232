use Rattle.std.proofs.Common.{◌∙◌, ap, refl}
use Rattle.arc_covers.specs.Eighths as spec
use Rattle.arc_covers.proofs.Turning.{less_within, more_within, sum_read, ways_less, ways_more}
use Rattle.arc_covers.proofs.eighths.eighth_turn.Goals as goal

pub shortened-requires : goal.shortened-requires
shortened-requires c = rw (ways_less c.args.c c.args.s c.requires.c_placed c.requires.s_placed) record { within = less_within c.args.c c.args.s c.requires.c_placed c.requires.s_placed }

pub shortened-requires-2 : goal.shortened-requires-2
shortened-requires-2 c = rw (ways_more c.args.c c.args.s c.requires.c_placed c.requires.s_placed) record { within = more_within c.args.c c.args.s c.requires.c_placed c.requires.s_placed }

pub returns-clause-value : goal.returns-clause-value
returns-clause-value c =
    let across = c.shortened.ensures.value ∙ ap spec.shortened (ways_less c.args.c c.args.s c.requires.c_placed c.requires.s_placed) in
    let up = c.shortened-2.ensures.value ∙ ap spec.shortened (ways_more c.args.c c.args.s c.requires.c_placed c.requires.s_placed) in
    rw (
      sum_read c.args.c.x c.shortened.result c.requires.c_placed.0 c.shortened.ensures.within,
      sum_read c.args.c.y c.shortened-2.result c.requires.c_placed.1 c.shortened-2.ensures.within,
      across,
      up,
    ) refl
