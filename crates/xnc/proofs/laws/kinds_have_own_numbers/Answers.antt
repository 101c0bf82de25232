use Rattle.xnc.proofs.KindNumbers.{one_number}
use Rattle.xnc.proofs.laws.kinds_have_own_numbers.Goals as goal

pub returns : goal.returns
returns c = one_number
