use Rattle.verdict.proofs.Counting.{right_verdicts_are_few}
use Rattle.verdict.proofs.laws.right_verdicts_are_few.Goals as goal

pub returns : goal.returns
returns c = right_verdicts_are_few
