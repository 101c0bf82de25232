use Rattle.std.proofs.Common.{◌+◌, rules}
use Rattle.gerber_layer.specs.Reader.{known_of, place_of}
use Rattle.gerber_layer.proofs.Rooms.{flash_carries_if, flash_stops_if, flash_stops_too}
use Rattle.gerber_layer.proofs.reader.flash.Goals as goal

pub returns-in-Ok-clause-halt : goal.returns-in-Ok-clause-halt
returns-in-Ok-clause-halt c =
    let flashes = rw c.deref.ensures.value at c.in-Ok.ensures.ok in
    flash_stops_if c.take_on.result (known_of c.args.reader.now) c.args.to c.in-Some-Composed.name.now c.in-Some-Composed.parameters.items c.in-Some-Composed.unit (place_of c.args.reader.now) (c.args.reader.now.commands + 1) c.in-Ok.pieces.items (search rules) flashes c.take_on.ensures.halt

pub returns-in-Ok-clause-ok : goal.returns-in-Ok-clause-ok
returns-in-Ok-clause-ok c =
    let flashes = rw c.deref.ensures.value at c.in-Ok.ensures.ok in
    flash_carries_if c.take_on.result c.args.reader.now c.take_on.new.self c.args.to c.in-Some-Composed.name.now c.in-Some-Composed.parameters.items c.in-Some-Composed.unit c.in-Ok.pieces.items (search rules) flashes c.take_on.ensures.ok c.take_on.ensures.room

pub returns-in-Err-clause-halt : goal.returns-in-Err-clause-halt
returns-in-Err-clause-halt c =
    let stops = rw c.deref.ensures.value at c.in-Err.ensures.halt in
    flash_stops_too (known_of c.args.reader.now) c.args.to c.in-Some-Composed.name.now c.in-Some-Composed.parameters.items c.in-Some-Composed.unit c.in-Err.halt (search rules) stops
