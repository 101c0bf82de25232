use Rattle.gerber_layer.proofs.Numbers.{in_range, one_kind, one_number}
use Rattle.gerber_layer.proofs.laws.kinds_have_own_numbers.Goals as goal

pub returns : goal.returns
returns c = (one_number, one_kind, in_range)
