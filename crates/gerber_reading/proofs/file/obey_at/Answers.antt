use Rattle.gerber_reading.specs.Command.{view}
use Rattle.gerber_reading.proofs.ReadSoFar.{stopped}
use Rattle.gerber_reading.proofs.file.obey_at.Goals as goal

pub returns-in-Err-clause-stops : goal.returns-in-Err-clause-stops
returns-in-Err-clause-stops g c = rw c.fault_at.ensures (stopped g.D.Dialect.plain g.D.Dialect.dialect.table c.args.reader.now (view c.args.command.now) c.args.at c.in-Err.halt c.in-Err.ensures.halt)
