use Rattle.turned_outlines.proofs.Places.{across_read, across_small}
use Rattle.turned_outlines.proofs.nearest.across.Goals as goal

pub returns-clause-value : goal.returns-clause-value
returns-clause-value c = across_read c.args.a c.args.b c.cross.result c.requires.a_placed c.requires.b_placed c.cross.ensures

pub returns-clause-small : goal.returns-clause-small
returns-clause-small c = across_small c.args.a c.args.b c.cross.result c.requires.a_placed c.requires.b_placed c.cross.ensures
