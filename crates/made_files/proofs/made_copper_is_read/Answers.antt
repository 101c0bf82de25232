use Rattle.made_files.proofs.MadeCopper.{made_copper_is_read}
use Rattle.made_files.proofs.made_copper_is_read.Goals as goal

pub returns : goal.returns
returns c = made_copper_is_read
