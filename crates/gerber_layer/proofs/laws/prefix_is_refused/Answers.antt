use Rattle.gerber_layer.proofs.Prefixes.{prefix_is_refused}
use Rattle.gerber_layer.proofs.laws.prefix_is_refused.Goals as goal

pub returns : goal.returns
returns c = prefix_is_refused c.words_lie_ahead.ensures c.prefix_has_first_words.ensures
