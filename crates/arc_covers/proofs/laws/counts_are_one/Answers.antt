use Rattle.arc_covers.proofs.Counted.{apart, first, one}
use Rattle.arc_covers.proofs.laws.counts_are_one.Goals as goal

pub returns-clause-one : goal.returns-clause-one
returns-clause-one c = one

pub returns-clause-apart : goal.returns-clause-apart
returns-clause-apart c = apart

pub returns-clause-first : goal.returns-clause-first
returns-clause-first c = first
