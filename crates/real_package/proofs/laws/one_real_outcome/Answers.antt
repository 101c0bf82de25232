use Rattle.real_package.proofs.OneOutcome.{one_outcome}
use Rattle.real_package.proofs.laws.one_real_outcome.Goals as goal

pub returns : goal.returns
returns c = λ files name. one_outcome (record { copper = c.one_real_answer.ensures; drill = c.one_answer.ensures; netlist = c.one_answer-2.ensures }) files name
