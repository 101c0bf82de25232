use Rattle.arcs.proofs.Places.{possibly_of_each}
use Rattle.arcs.proofs.laws.possibly_of_each.Goals as goal

pub returns : goal.returns
returns c = possibly_of_each
