use Rattle.std.proofs.Common.{arith}
use Rattle.verdict.proofs.ReadReport.{found, refused}
use Rattle.verdict.proofs.report_reading.read_report.Goals as goal

pub returns-clause-ok : goal.returns-clause-ok
returns-clause-ok c = found c.args.text.now c.report.result c.report.ensures

pub returns-clause-fault : goal.returns-clause-fault
returns-clause-fault c = refused c.args.text.now c.report.result (omega (arith, c.type_inv.text)) c.report.ensures
