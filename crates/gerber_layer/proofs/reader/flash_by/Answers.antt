use Rattle.gerber_layer.specs.Reader.{known_of}
use Rattle.gerber_layer.proofs.Copies.{stops_flash}
use Rattle.gerber_layer.proofs.reader.flash_by.Goals as goal

pub returns-in-Err-clause-halt : goal.returns-in-Err-clause-halt
returns-in-Err-clause-halt c =
    rw c.halt_of_flash.ensures (stops_flash (known_of c.args.reader.now) c.args.aperture c.args.to c.in-Err.fault c.in-Err.ensures.shape)
