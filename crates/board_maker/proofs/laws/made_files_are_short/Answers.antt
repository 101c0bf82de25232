use Rattle.board_maker.proofs.Shortness.{made_files_are_short}
use Rattle.board_maker.proofs.laws.made_files_are_short.Goals as goal

pub returns : goal.returns
returns c = made_files_are_short
