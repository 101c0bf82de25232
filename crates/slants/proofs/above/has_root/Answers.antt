use Rattle.slants.proofs.Read.{root_read}
use Rattle.slants.proofs.above.has_root.Goals as goal

pub returns : goal.returns
returns c = root_read c.args.slant.now c.args.points.now c.root_of.result c.goes_round.result c.root_of.ensures.under c.root_of.ensures.over c.goes_round.ensures
