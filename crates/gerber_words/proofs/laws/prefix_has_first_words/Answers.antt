use Rattle.gerber_words.proofs.Prefixes.{prefix_has_first_words}
use Rattle.gerber_words.proofs.laws.prefix_has_first_words.Goals as goal

pub returns : goal.returns
returns c = prefix_has_first_words
