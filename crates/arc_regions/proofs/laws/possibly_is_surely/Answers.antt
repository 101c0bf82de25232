use Rattle.arc_regions.proofs.Curves.{possibly_is_surely}
use Rattle.arc_regions.proofs.laws.possibly_is_surely.Goals as goal

pub returns : goal.returns
returns c = possibly_is_surely
