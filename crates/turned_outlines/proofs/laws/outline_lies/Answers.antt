use Rattle.turned_outlines.proofs.Outlines.{outline_lies}
use Rattle.turned_outlines.proofs.laws.outline_lies.Goals as goal

pub returns : goal.returns
returns c = outline_lies c.discs_are_between.ensures c.taken_lies.ensures
