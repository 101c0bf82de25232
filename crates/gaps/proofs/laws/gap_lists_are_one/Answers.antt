use Rattle.gaps.proofs.OneBoard.{gap_lists_are_one}
use Rattle.gaps.proofs.laws.gap_lists_are_one.Goals as goal

pub returns : goal.returns
returns c = gap_lists_are_one
