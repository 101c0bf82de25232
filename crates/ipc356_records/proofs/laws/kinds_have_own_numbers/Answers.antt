use Rattle.ipc356_records.proofs.KindNumbers.{one_number}
use Rattle.ipc356_records.proofs.laws.kinds_have_own_numbers.Goals as goal

pub returns : goal.returns
returns c = one_number
