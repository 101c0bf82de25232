use Rattle.std.proofs.Common.{◌≤◌, ◌<◌, ℕ, length}
use Rattle.cell_index.specs.Cells.{cell_of}
use Rattle.cell_index.specs.Finding.{Finds, Grows}
use Rattle.cell_index.specs.Stretched.{corner}
use Rattle.cell_index.proofs.finer.Finer.in_patch.Given as goal

abbrev pub invariant-loop-up : goal.invariant-loop-up
invariant-loop-up g l = Grows (length l.fn.self.copies.items) l.fn.into.items l.into.items
    × ((across up : ℕ) → l.fn.patch.left ≤ across → across ≤ l.fn.patch.right → l.fn.patch.low ≤ up → up < l.up → Finds (g.W.Wanted.wanted l.fn.wanted) l.fn.self.copies.items l.bounds l.fn.patch across up (cell_of (λ s. s.bounds) corner l.fn.self.copies.items 1 across up) l.into.items)
