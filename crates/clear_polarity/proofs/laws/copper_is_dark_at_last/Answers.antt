use Rattle.clear_polarity.proofs.Layering.{after_all, last_decides}
use Rattle.clear_polarity.proofs.laws.copper_is_dark_at_last.Goals as goal

pub returns-clause-after : goal.returns-clause-after
returns-clause-after g c = after_all g.R.Reading.marks

pub returns-clause-last : goal.returns-clause-last
returns-clause-last g c = last_decides g.R.Reading.marks
