use Rattle.x2_nets.proofs.OneAnswer.{one_answer}
use Rattle.x2_nets.proofs.laws.one_answer.Goals as goal

pub returns : goal.returns
returns c = one_answer c.words_lie_ahead.ensures
