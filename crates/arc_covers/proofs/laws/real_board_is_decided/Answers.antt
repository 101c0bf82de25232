use Rattle.arc_covers.proofs.Bounded.{judged}
use Rattle.arc_covers.proofs.laws.real_board_is_decided.Goals as goal

pub returns-clause-agrees : goal.returns-clause-agrees
returns-clause-agrees g c = λ lower upper v w real is by opens bare shorts. c.verdicts_decide.ensures.agrees lower upper v w real (judged g.R.Copper.holds lower upper v w real (c.bounds_lie_between.ensures lower upper real is) by) opens bare shorts

pub returns-clause-decides : goal.returns-clause-decides
returns-clause-decides g c = λ lower upper v w real is by. c.verdicts_decide.ensures.decides lower upper v w real (judged g.R.Copper.holds lower upper v w real (c.bounds_lie_between.ensures lower upper real is) by)
