use Rattle.turned_outlines.proofs.Places.{along_read, along_small}
use Rattle.turned_outlines.proofs.nearest.along.Goals as goal

pub returns-clause-value : goal.returns-clause-value
returns-clause-value c = along_read c.args.a c.args.b c.dot.result c.requires.a_placed c.requires.b_placed c.dot.ensures

pub returns-clause-small : goal.returns-clause-small
returns-clause-small c = along_small c.args.a c.args.b c.dot.result c.requires.a_placed c.requires.b_placed c.dot.ensures
