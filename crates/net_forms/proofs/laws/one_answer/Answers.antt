use Rattle.net_forms.proofs.OneAnswer.{one_answer}
use Rattle.net_forms.proofs.laws.one_answer.Goals as goal

pub returns : goal.returns
returns c = one_answer
