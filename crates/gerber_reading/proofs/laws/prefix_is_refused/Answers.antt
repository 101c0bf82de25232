use Rattle.gerber_reading.proofs.Prefixes.{prefix_refused}
use Rattle.gerber_reading.proofs.laws.prefix_is_refused.Goals as goal

pub returns : goal.returns
returns g c = λ not_ended file p pieces j read. prefix_refused g.D.Dialect.dialect not_ended j p c.words_lie_ahead.ensures c.prefix_has_first_words.ensures file pieces read
