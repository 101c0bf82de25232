use Rattle.arcs.proofs.Each.{surely_of_each}
use Rattle.arcs.proofs.laws.surely_of_each.Goals as goal

pub returns : goal.returns
returns c = surely_of_each
