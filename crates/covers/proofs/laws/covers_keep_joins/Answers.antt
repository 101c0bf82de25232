use Rattle.covers.proofs.Covering.{keeps}
use Rattle.covers.proofs.laws.covers_keep_joins.Goals as goal

pub returns : goal.returns
returns g c = λ first second over. keeps g.B.Copper.holds first g.C.Copper.holds second over
