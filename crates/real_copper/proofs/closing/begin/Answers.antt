use Rattle.std.proofs.Common.{◌≡◌, None, Ok, Some}
use Rattle.gerber_reading.specs.Command.{bending_of}
use Rattle.gerber_reading.specs.Reader.{Stops}
use Rattle.gerber_reading.specs.declared.command.Code.TheVariants.{Move}
use Rattle.real_copper.specs.Arcs.{no_arc}
use Rattle.real_copper.specs.RealReader.{HasObeyed, known}
use Rattle.real_copper.specs.Rows.{perform_in_region}
use Rattle.real_copper.proofs.Carrying.{if_err, on_ok}
use Rattle.real_copper.proofs.Closed.{begin_stops, begin_stops_behind, has_begun}
use Rattle.real_copper.proofs.closing.begin.Goals as goal

pub returns-in-Ok-clause-ok : goal.returns-in-Ok-clause-ok
returns-in-Ok-clause-ok c = λ to.
    on_ok (no_arc (bending_of c.args.bending.now) ≡ Ok None) (HasObeyed c.args.reader.now (perform_in_region (known c.args.reader.now) Move (bending_of c.args.bending.now) to) (Some to) None c.close.new.reader) (has_begun c.args.reader.now c.close.new.reader (bending_of c.args.bending.now) to c.in-Ok.ensures.ok) c.without_offsets.result c.without_offsets.ensures.ok

pub returns-in-Ok-clause-halt : goal.returns-in-Ok-clause-halt
returns-in-Ok-clause-halt c = λ to.
    if_err (Stops (no_arc (bending_of c.args.bending.now))) (Stops (perform_in_region (known c.args.reader.now) Move (bending_of c.args.bending.now) to)) (begin_stops_behind c.args.reader.now c.close.new.reader (bending_of c.args.bending.now) to c.in-Ok.ensures.ok) c.without_offsets.result c.without_offsets.ensures.halt

pub returns-in-Err-clause-halt : goal.returns-in-Err-clause-halt
returns-in-Err-clause-halt c = λ to. begin_stops (known c.args.reader.now) (bending_of c.args.bending.now) to c.in-Err.halt c.in-Err.ensures.halt
