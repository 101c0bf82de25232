use Rattle.arcs.proofs.Places.{possibly_at_ends}
use Rattle.arcs.proofs.laws.possibly_at_ends.Goals as goal

pub returns : goal.returns
returns c = possibly_at_ends
