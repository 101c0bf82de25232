use Rattle.cell_index.proofs.Whole.{finds_near}
use Rattle.cell_index.proofs.cells.Cells.candidates.Goals as goal

pub returns-clause-near : goal.returns-clause-near
returns-clause-near g c = finds_near (g.W.Wanted.wanted c.args.wanted.now) g.S.Closed.holds c.args.self.now.items.now c.args.self.now.finer.copies.items c.args.i c.met.new.into.items c.args.self.now.copied c.args.self.now.met c.in_default.ensures.met
