use Rattle.clear_polarity.proofs.Between.{lies_between}
use Rattle.clear_polarity.proofs.laws.readings_lie_between.Goals as goal

pub returns : goal.returns
returns g c = lies_between g.R.Reading.holds g.R.Reading.marks
