use Rattle.arcs.proofs.Taken.{above_holds, below_lies}
use Rattle.arcs.proofs.laws.taken_is_between.Goals as goal

pub returns : goal.returns
returns c = λ a chain r p. (λ taken. below_lies a chain r taken p, λ taken. above_holds a chain r taken p)
