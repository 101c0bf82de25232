use Rattle.arc_regions.proofs.Curves.{surely_is_possibly}
use Rattle.arc_regions.proofs.laws.surely_is_possibly.Goals as goal

pub returns : goal.returns
returns c = surely_is_possibly
