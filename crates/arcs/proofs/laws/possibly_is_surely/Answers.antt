use Rattle.arcs.proofs.OneDistance.{possibly_is_surely}
use Rattle.arcs.proofs.laws.possibly_is_surely.Goals as goal

pub returns : goal.returns
returns c = possibly_is_surely
