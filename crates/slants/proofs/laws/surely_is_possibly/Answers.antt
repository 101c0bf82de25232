use Rattle.slants.proofs.Near.{surely_possibly}
use Rattle.slants.proofs.laws.surely_is_possibly.Goals as goal

pub returns : goal.returns
returns c = surely_possibly
