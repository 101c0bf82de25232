use Rattle.reports.proofs.SmallParts.{right_verdicts_are_small}
use Rattle.reports.proofs.laws.right_verdicts_are_small.Goals as goal

pub returns : goal.returns
returns c = right_verdicts_are_small c.right_verdicts_are_few.ensures
