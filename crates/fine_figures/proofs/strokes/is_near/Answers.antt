use Rattle.std.proofs.Common.{rules}
use Rattle.fine_figures.proofs.Read.{near_read}
use Rattle.fine_figures.proofs.strokes.is_near.Goals as goal

pub returns : goal.returns
returns c = near_read c.args.a c.args.b c.abs_diff.result c.abs_diff-2.result c.args.far c.is_short.result (search rules) (search rules) (search rules) (search rules) c.abs_diff.ensures c.abs_diff-2.ensures c.is_short.ensures
