use Rattle.gerber_layer.proofs.Prefixes.{macro_prefix_is_refused}
use Rattle.gerber_layer.proofs.laws.macro_prefix_is_refused.Goals as goal

pub returns : goal.returns
returns c = macro_prefix_is_refused c.words_lie_ahead.ensures c.prefix_has_first_words.ensures
