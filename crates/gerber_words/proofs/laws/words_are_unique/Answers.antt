use Rattle.gerber_words.specs.Words.{start}
use Rattle.gerber_words.proofs.OneCut.{words_lie_ahead}
use Rattle.gerber_words.proofs.laws.words_are_unique.Goals as goal

pub returns : goal.returns
returns c = λ file. words_lie_ahead (start file)
