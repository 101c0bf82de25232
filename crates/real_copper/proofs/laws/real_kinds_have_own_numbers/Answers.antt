use Rattle.real_copper.proofs.Numbers.{apart, one_number}
use Rattle.real_copper.proofs.laws.real_kinds_have_own_numbers.Goals as goal

pub returns : goal.returns
returns c = (one_number c.kinds_have_own_numbers.ensures, apart c.kinds_have_own_numbers.ensures)
