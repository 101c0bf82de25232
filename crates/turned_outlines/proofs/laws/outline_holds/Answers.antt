use Rattle.turned_outlines.proofs.Outlines.{outline_holds}
use Rattle.turned_outlines.proofs.laws.outline_holds.Goals as goal

pub returns : goal.returns
returns c = outline_holds c.discs_are_between.ensures
