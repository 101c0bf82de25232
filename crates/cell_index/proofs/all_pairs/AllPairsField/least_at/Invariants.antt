use Rattle.std.proofs.Common.{ℕ, ◌<◌}
use Rattle.cell_index.specs.Among.{UnderAmong}
use Rattle.cell_index.proofs.all_pairs.AllPairsField.least_at.Given as goal

abbrev pub invariant-loop-p : goal.invariant-loop-p
invariant-loop-p g l = (q : ℕ) → q < l.p → UnderAmong g.S.Closed.holds l.fn.self.items.now l.at l.layer q → ⊥
