use Rattle.clear_polarity.proofs.Bounded.{bounds}
use Rattle.clear_polarity.proofs.laws.bounds_lie_between.Goals as goal

pub returns : goal.returns
returns g c = bounds g.R.Reading.holds g.R.Reading.marks
