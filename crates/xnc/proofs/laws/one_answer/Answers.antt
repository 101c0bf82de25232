use Rattle.xnc.proofs.OneAnswer.{one_answer}
use Rattle.xnc.proofs.laws.one_answer.Goals as goal

pub returns : goal.returns
returns c = one_answer
