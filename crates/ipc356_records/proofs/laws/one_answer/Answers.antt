use Rattle.ipc356_records.proofs.OneAnswer.{one_answer}
use Rattle.ipc356_records.proofs.laws.one_answer.Goals as goal

pub returns : goal.returns
returns c = one_answer
