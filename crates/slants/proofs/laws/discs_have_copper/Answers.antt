use Rattle.slants.proofs.Near.{disc_copper}
use Rattle.slants.proofs.laws.discs_have_copper.Goals as goal

pub returns : goal.returns
returns c = disc_copper
