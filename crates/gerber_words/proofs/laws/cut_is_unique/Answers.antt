use Rattle.gerber_words.proofs.OneCut.{cut_is_unique}
use Rattle.gerber_words.proofs.laws.cut_is_unique.Goals as goal

pub returns : goal.returns
returns c = cut_is_unique
