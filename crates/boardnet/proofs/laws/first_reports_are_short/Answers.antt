use Rattle.boardnet.proofs.ReportLength.{first_reports_are_short}
use Rattle.boardnet.proofs.laws.first_reports_are_short.Goals as goal

pub returns : goal.returns
returns c = first_reports_are_short c.right_verdicts_are_small.ensures c.reports_are_short.ensures
