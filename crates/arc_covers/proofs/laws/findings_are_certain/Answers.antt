use Rattle.arc_covers.proofs.Findings.{certain}
use Rattle.arc_covers.proofs.laws.findings_are_certain.Goals as goal

pub returns : goal.returns
returns g c = λ lower upper v w real is by.
    let t = c.tables_are_unique.ensures.unique lower by.lower_lawful in
    let u = c.tables_are_unique.ensures.unique upper by.upper_lawful in
    certain v w g.R.Copper.holds real (c.real_board_is_decided.ensures.decides lower upper v w real is by) lower upper t.tables u.tables t.are u.are (by.lower_right t.tables t.are) (by.upper_right u.tables u.are) is.lower_netlist is.upper_netlist
