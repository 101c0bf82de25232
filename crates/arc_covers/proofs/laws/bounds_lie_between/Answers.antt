use Rattle.arc_covers.proofs.Bounded.{between}
use Rattle.arc_covers.proofs.laws.bounds_lie_between.Goals as goal

pub returns : goal.returns
returns g c = λ lower upper real is. between g.R.Copper.holds lower upper real is
