use Rattle.clear_polarity.proofs.Between.{have_copper}
use Rattle.clear_polarity.proofs.laws.layers_have_copper.Goals as goal

pub returns : goal.returns
returns c = have_copper
