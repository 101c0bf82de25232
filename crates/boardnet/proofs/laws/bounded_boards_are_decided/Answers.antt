use Rattle.boardnet.proofs.Decisions.{bounded_boards_agree, bounded_boards_are_decided, bounded_findings_are_certain}
use Rattle.boardnet.proofs.AllListed.{bounded_findings_are_listed}
use Rattle.boardnet.proofs.laws.bounded_boards_are_decided.Goals as goal

pub returns-clause-agrees : goal.returns-clause-agrees
returns-clause-agrees g c = bounded_boards_agree g.R.Copper.holds c.taken_are_bounds.ensures c.real_board_is_decided.ensures.agrees

pub returns-clause-decides : goal.returns-clause-decides
returns-clause-decides g c = bounded_boards_are_decided g.R.Copper.holds c.taken_are_bounds.ensures c.real_board_is_decided.ensures.decides

pub returns-clause-certain : goal.returns-clause-certain
returns-clause-certain g c = bounded_findings_are_certain g.R.Copper.holds c.taken_are_bounds.ensures c.findings_are_certain.ensures

pub returns-clause-listed : goal.returns-clause-listed
returns-clause-listed g c =
    let w = c.boards_have_the_laws.ensures in
    bounded_findings_are_listed g.R.Copper.holds c.taken_are_bounds.ensures c.real_board_is_decided.ensures.agrees c.real_board_is_decided.ensures.decides c.findings_are_certain.ensures w.joins w.opens w.shorts
