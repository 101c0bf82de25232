use Rattle.made_files.proofs.MadePoints.{made_points_are_read}
use Rattle.made_files.proofs.made_points_are_read.Goals as goal

pub returns : goal.returns
returns c = made_points_are_read
