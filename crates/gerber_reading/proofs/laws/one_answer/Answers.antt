use Rattle.gerber_reading.proofs.OneAnswer.{one_answer}
use Rattle.gerber_reading.proofs.laws.one_answer.Goals as goal

pub returns : goal.returns
returns g c = one_answer c.words_lie_ahead.ensures g.D.Dialect.dialect
