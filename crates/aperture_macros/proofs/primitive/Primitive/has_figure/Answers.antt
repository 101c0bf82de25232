use Rattle.std.proofs.Common.{◌∙◌}
use Rattle.aperture_macros.proofs.Closings.{judged_is}
use Rattle.aperture_macros.proofs.primitive.Primitive.has_figure.Goals as goal

pub returns-in-Ok-clause-lawful : goal.returns-in-Ok-clause-lawful
returns-in-Ok-clause-lawful c = rw c.in-Outline.is (c.in-Ok.ensures ∙ judged_is c.args.copper c.in-Outline.edges c.args.self.now.lengths.now c.args.parameters.now c.args.unit)

pub returns-in-Err-clause-lawful : goal.returns-in-Err-clause-lawful
returns-in-Err-clause-lawful c = rw c.in-Outline.is (c.in-Err.ensures ∙ judged_is c.args.copper c.in-Outline.edges c.args.self.now.lengths.now c.args.parameters.now c.args.unit)
