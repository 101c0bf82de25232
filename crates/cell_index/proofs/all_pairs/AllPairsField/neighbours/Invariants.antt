use Rattle.std.proofs.Common.{◌≡◌, true}
use Rattle.cell_index.specs.Bins.{passing}
use Rattle.cell_index.proofs.all_pairs.AllPairsField.neighbours.Given as goal

abbrev pub invariant-loop-q : goal.invariant-loop-q
invariant-loop-q g l = l.into.items ≡ passing (λ p. true) l.q
