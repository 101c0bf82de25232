use Rattle.std.proofs.Common.{◌≡◌, ℕ, ◌+◌, Some, length, slice_get}
use Rattle.cell_index.specs.Rows.{IsSheet}
use Rattle.cell_index.specs.declared.bins.Bins.{Bins}
use Rattle.cell_index.proofs.filing.Plan.sheets.Given as goal

abbrev pub invariant-loop-layer : goal.invariant-loop-layer
invariant-loop-layer g l = (length l.sheets.items ≡ l.layer) × ((k : ℕ) (b : Bins) → slice_get l.sheets.items k ≡ Some b → IsSheet g.S.Closed.extent l.self.frame l.self.items.now (k + 1) b)
