use Rattle.std.proofs.Common.{None}
use Rattle.gerber_reading.specs.CommandEffects.{ended_block_by}
use Rattle.gerber_reading.specs.Reader.{EndsBlock, Stops}
use Rattle.real_copper.specs.Arcs.{as_real}
use Rattle.real_copper.specs.Figures.{real_handling}
use Rattle.real_copper.specs.RealReader.{HasObeyed, known, plain}
use Rattle.real_copper.specs.Rows.{end}
use Rattle.real_copper.proofs.Carrying.{if_err, on_ok}
use Rattle.real_copper.proofs.Closed.{end_stops, has_ended}
use Rattle.real_copper.proofs.obeying.end.Goals as goal

pub returns-clause-ok : goal.returns-clause-ok
returns-clause-ok c =
    on_ok (EndsBlock plain real_handling c.args.reader.now c.end_block.new.reader) (HasObeyed c.args.reader.now (end (known c.args.reader.now)) None None c.end_block.new.reader) (has_ended c.args.reader.now c.end_block.new.reader c.if-reader.false) c.end_block.result c.end_block.ensures.ok

pub returns-clause-halt : goal.returns-clause-halt
returns-clause-halt c =
    if_err (Stops (as_real (ended_block_by real_handling (known c.args.reader.now)))) (Stops (end (known c.args.reader.now))) (end_stops (known c.args.reader.now) c.if-reader.false) c.end_block.result c.end_block.ensures.halt
