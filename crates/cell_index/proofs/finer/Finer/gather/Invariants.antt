use Rattle.std.proofs.Common.{length}
use Rattle.cell_index.specs.Finding.{IsMet}
use Rattle.cell_index.specs.Stretched.{copy_in}
use Rattle.cell_index.proofs.Found.{IsGathered}
use Rattle.cell_index.proofs.finer.Finer.gather.Given as goal

abbrev pub invariant-loop-k : goal.invariant-loop-k
invariant-loop-k g l = IsGathered (length l.fn.self.copies.items) (λ q. g.W.Wanted.wanted l.fn.wanted q × IsMet (copy_in l.fn.self.copies.items q) l.bounds l.fn.patch l.across l.up) l.list l.k l.fn.into.items l.into.items
