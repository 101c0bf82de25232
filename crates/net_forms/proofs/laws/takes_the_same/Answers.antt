use Rattle.net_forms.proofs.Same.{takes_the_same}
use Rattle.net_forms.proofs.laws.takes_the_same.Goals as goal

pub returns : goal.returns
returns c = takes_the_same
