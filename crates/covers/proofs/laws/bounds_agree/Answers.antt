use Rattle.covers.proofs.Covering.{between}
use Rattle.covers.proofs.laws.bounds_agree.Goals as goal

pub returns : goal.returns
returns g c = λ lower real upper over under. between g.L.Copper.holds lower g.R.Copper.holds real g.U.Copper.holds upper over under (c.covers_keep_joins.ensures lower real over) (c.covers_keep_joins-2.ensures real upper under)
