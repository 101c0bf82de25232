use Rattle.std.proofs.Common.{rules}
use Rattle.aperture_macros.specs.Images.{line_at}
use Rattle.aperture_macros.proofs.Strokes.{line_any}
use Rattle.aperture_macros.proofs.images.line.Goals as goal

pub returns-clause-any : goal.returns-clause-any
unfolding line_at
returns-clause-any c = line_any c.args.copper c.args.text.now c.args.parameters.now c.args.unit c.line_between.result (search rules)
