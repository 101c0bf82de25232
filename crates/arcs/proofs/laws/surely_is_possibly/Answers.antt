use Rattle.arcs.proofs.Places.{surely_is_possibly}
use Rattle.arcs.proofs.laws.surely_is_possibly.Goals as goal

pub returns : goal.returns
returns c = surely_is_possibly
