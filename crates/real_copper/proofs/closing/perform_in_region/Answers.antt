use Rattle.real_copper.proofs.closing.perform_in_region.Goals as goal

pub returns-in-Move-clause-ok : goal.returns-in-Move-clause-ok
returns-in-Move-clause-ok c = rw c.in-Move.is (c.begin.ensures.ok c.args.to)

pub returns-in-Move-clause-halt : goal.returns-in-Move-clause-halt
returns-in-Move-clause-halt c = rw c.in-Move.is (c.begin.ensures.halt c.args.to)
