use Rattle.covers.proofs.HalfDiscs.{above, below, none_missing, none_open, none_short}
use Rattle.covers.specs.Worked.{discs, whole}
use Rattle.covers.proofs.worked.half_discs_agree.Goals as goal

pub returns-clause-below : goal.returns-clause-below
returns-clause-below c = below

pub returns-clause-above : goal.returns-clause-above
returns-clause-above c = above

pub returns-clause-agrees : goal.returns-clause-agrees
returns-clause-agrees c = c.bounds_agree.ensures whole discs whole below above none_missing none_open none_short
