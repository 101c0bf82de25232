use Rattle.std.proofs.Common.{◌<◌, All}
use Rattle.cell_index.proofs.Rows.{AreFiled}
use Rattle.cell_index.proofs.filing.Plan.filings.Given as goal

abbrev pub invariant-loop-p : goal.invariant-loop-p
invariant-loop-p g l = All (λ f. f.row < 16385) l.filings.items × AreFiled g.S.Closed.extent l.self.frame l.self.items.now l.layer l.p l.filings.items
