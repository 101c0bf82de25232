use Rattle.made_files.proofs.MadeHoles.{made_holes_are_read}
use Rattle.made_files.proofs.made_holes_are_read.Goals as goal

pub returns : goal.returns
returns c = made_holes_are_read
