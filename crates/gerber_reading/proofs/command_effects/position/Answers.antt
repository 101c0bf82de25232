use Rattle.std.proofs.Common.{Ok, Err, sym, ◌∙◌}
use Rattle.gerber_reading.proofs.Coordinates.{fault_named, placed}
use Rattle.gerber_reading.proofs.command_effects.position.Goals as goal

pub returns-in-Ok : goal.returns-in-Ok
returns-in-Ok c = placed c.args.digits.now c.args.format.decimals c.args.unit (Ok c.in-Ok.len) c.in-Ok.ensures

pub returns-in-Err : goal.returns-in-Err
returns-in-Err c = rw c.choose.ensures (sym (fault_named c.in-Err.fault) ∙ placed c.args.digits.now c.args.format.decimals c.args.unit (Err c.in-Err.fault) c.in-Err.ensures)
