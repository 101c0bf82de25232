use Rattle.drill_forms.proofs.Ending.{prefix_makes_the_same}
use Rattle.drill_forms.proofs.laws.prefix_makes_the_same.Goals as goal

pub returns : goal.returns
returns c = prefix_makes_the_same
