use Rattle.std.proofs.Common.{◌≤◌, ◌<◌, ℕ, length}
use Rattle.cell_index.specs.Cells.{cell_of}
use Rattle.cell_index.specs.Finding.{Finds, Grows}
use Rattle.cell_index.specs.Stretched.{corner}
use Rattle.cell_index.proofs.finer.Finer.in_line.Given as goal

abbrev pub invariant-loop-across : goal.invariant-loop-across
invariant-loop-across g l = Grows (length l.fn.self.copies.items) l.fn.into.items l.into.items
    × ((across : ℕ) → l.fn.patch.left ≤ across → across < l.across → Finds (g.W.Wanted.wanted l.fn.wanted) l.fn.self.copies.items l.bounds l.fn.patch across l.fn.up (cell_of (λ s. s.bounds) corner l.fn.self.copies.items 1 across l.fn.up) l.into.items)
