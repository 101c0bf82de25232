use Rattle.boardnet.proofs.Passes.{reports_pass}
use Rattle.boardnet.proofs.laws.reports_pass.Goals as goal

pub returns : goal.returns
returns c = reports_pass c.first_reports_are_short.ensures
