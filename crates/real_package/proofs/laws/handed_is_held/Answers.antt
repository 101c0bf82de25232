use Rattle.real_package.proofs.Agreed.{handed_is_held}
use Rattle.real_package.proofs.laws.handed_is_held.Goals as goal

pub returns : goal.returns
returns c = handed_is_held
