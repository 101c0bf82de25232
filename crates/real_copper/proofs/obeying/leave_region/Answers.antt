use Rattle.std.proofs.Common.{None}
use Rattle.gerber_reading.specs.Reader.{Stops}
use Rattle.real_copper.specs.RealReader.{Closes, HasObeyed, known}
use Rattle.real_copper.specs.Rows.{closing, leave}
use Rattle.real_copper.proofs.Carrying.{if_err, on_ok}
use Rattle.real_copper.proofs.Closed.{has_left, leave_stops}
use Rattle.real_copper.proofs.obeying.leave_region.Goals as goal

pub returns-clause-ok : goal.returns-clause-ok
returns-clause-ok c =
    on_ok (Closes c.args.reader.now c.close.new.reader) (HasObeyed c.args.reader.now (leave (known c.args.reader.now)) None None c.close.new.reader) (has_left c.args.reader.now c.close.new.reader c.if-not-reader.false) c.close.result c.close.ensures.ok

pub returns-clause-halt : goal.returns-clause-halt
returns-clause-halt c =
    if_err (Stops (closing (known c.args.reader.now))) (Stops (leave (known c.args.reader.now))) (leave_stops (known c.args.reader.now) c.if-not-reader.false) c.close.result c.close.ensures.halt
