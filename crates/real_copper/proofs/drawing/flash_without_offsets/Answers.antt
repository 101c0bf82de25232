use Rattle.std.proofs.Common.{◌≡◌, None, Ok, Some}
use Rattle.gerber_reading.specs.Command.{bending_of}
use Rattle.gerber_reading.specs.Reader.{Stops}
use Rattle.real_copper.specs.Arcs.{no_arc}
use Rattle.real_copper.specs.RealReader.{HasObeyed, known}
use Rattle.real_copper.specs.Rows.{flash}
use Rattle.real_copper.proofs.Carrying.{flash_stops, flash_stops_behind, has_flashed, if_err, on_ok}
use Rattle.real_copper.proofs.drawing.flash_without_offsets.Goals as goal

pub returns-in-Ok-clause-ok : goal.returns-in-Ok-clause-ok
returns-in-Ok-clause-ok c =
    on_ok (no_arc (bending_of c.args.bending.now) ≡ Ok None) (HasObeyed c.args.reader.now (flash (known c.args.reader.now) (bending_of c.args.bending.now) c.args.to) (Some c.args.to) None c.flash_at.new.reader) (has_flashed c.args.reader.now c.flash_at.new.reader (bending_of c.args.bending.now) c.args.to c.in-Ok.ensures.ok) c.without_offsets.result c.without_offsets.ensures.ok

pub returns-in-Ok-clause-halt : goal.returns-in-Ok-clause-halt
returns-in-Ok-clause-halt c =
    if_err (Stops (no_arc (bending_of c.args.bending.now))) (Stops (flash (known c.args.reader.now) (bending_of c.args.bending.now) c.args.to)) (flash_stops_behind c.args.reader.now c.flash_at.new.reader (bending_of c.args.bending.now) c.args.to c.in-Ok.ensures.ok) c.without_offsets.result c.without_offsets.ensures.halt

pub returns-in-Err-clause-halt : goal.returns-in-Err-clause-halt
returns-in-Err-clause-halt c = flash_stops (known c.args.reader.now) (bending_of c.args.bending.now) c.args.to c.in-Err.halt c.in-Err.ensures.halt
