use Rattle.gerber_layer.proofs.Prefixes.{macro_prefix_makes_the_same}
use Rattle.gerber_layer.proofs.laws.macro_prefix_makes_the_same.Goals as goal

pub returns : goal.returns
returns c = macro_prefix_makes_the_same c.words_lie_ahead.ensures c.prefix_has_first_words.ensures
