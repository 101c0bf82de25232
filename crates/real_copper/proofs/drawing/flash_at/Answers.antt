use Rattle.std.proofs.Common.{rules}
use Rattle.real_copper.proofs.Flashing.{composed_stops}
use Rattle.real_copper.proofs.drawing.flash_at.Goals as goal

pub returns-in-Err-take_on-clause-halt : goal.returns-in-Err-take_on-clause-halt
returns-in-Err-take_on-clause-halt c =
    let flashes = rw c.deref.ensures.value at c.in-Ok.ensures.ok in
    rw c.halted.ensures (composed_stops c.args.reader.now c.args.to c.in-Some-Composed.name.now c.in-Some-Composed.parameters.items c.in-Some-Composed.unit c.in-Ok.pieces.items (search rules) flashes c.in-Err-take_on.halt c.in-Err-take_on.ensures.halt)
