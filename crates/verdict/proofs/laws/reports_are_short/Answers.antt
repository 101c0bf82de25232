use Rattle.verdict.proofs.Shortness.{reports_are_short}
use Rattle.verdict.proofs.laws.reports_are_short.Goals as goal

pub returns : goal.returns
returns c = reports_are_short
