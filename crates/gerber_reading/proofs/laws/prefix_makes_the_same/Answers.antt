use Rattle.gerber_reading.proofs.Prefixes.{prefix_same}
use Rattle.gerber_reading.proofs.laws.prefix_makes_the_same.Goals as goal

pub returns : goal.returns
returns g c = λ not_ended file p j pieces others n read part. prefix_same g.D.Dialect.dialect not_ended j p c.words_lie_ahead.ensures c.prefix_has_first_words.ensures file pieces others n read part
