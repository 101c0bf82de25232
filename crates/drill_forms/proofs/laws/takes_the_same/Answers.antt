use Rattle.drill_forms.proofs.Same.{takes_the_same}
use Rattle.drill_forms.proofs.laws.takes_the_same.Goals as goal

pub returns : goal.returns
returns c = takes_the_same
