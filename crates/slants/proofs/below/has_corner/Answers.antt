use Rattle.slants.proofs.Read.{corner_read}
use Rattle.slants.proofs.below.has_corner.Goals as goal

pub returns : goal.returns
returns c = corner_read c.args.slant.now c.args.q c.is_about.result c.requires.apart c.is_about.ensures
