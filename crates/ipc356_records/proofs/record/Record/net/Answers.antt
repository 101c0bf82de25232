use Rattle.std.proofs.Common.{length, ap, arith}
use Rattle.texts.proofs.Blanks.{trimmed-within}
use Rattle.ipc356_records.proofs.record.Record.net.Goals as goal

pub returns-clause-short : goal.returns-clause-short
returns-clause-short c = omega (arith, c.columns.ensures.within, ap length c.trimmed.ensures, trimmed-within c.columns.result.now)
