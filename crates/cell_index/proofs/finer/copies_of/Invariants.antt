use Rattle.std.proofs.Common.{All, take}
use Rattle.cell_index.specs.Stretched.{AreCopies}
use Rattle.cell_index.proofs.finer.copies_of.Given as goal

abbrev pub invariant-loop-p : goal.invariant-loop-p
invariant-loop-p g l = AreCopies g.S.Closed.extent l.stretch l.items l.p l.copies.items × All (λ p. g.S.Closed.is_lawful p.shape) (take l.p l.items)
