use Rattle.gerber_reading.proofs.OneAnswer.{one_answer}
use Rattle.gerber_layer.specs.MacroLayer.{flat_place, with_macros}
use Rattle.gerber_layer.proofs.laws.one_macro_answer.Goals as goal

pub returns : goal.returns
returns c file = one_answer c.words_lie_ahead.ensures with_macros file flat_place
