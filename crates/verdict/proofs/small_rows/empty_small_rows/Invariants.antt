use Rattle.std.proofs.Common.{◌≡◌, [], length, All}
use Rattle.verdict.proofs.small_rows.empty_small_rows.Given as goal

abbrev pub invariant-loop : goal.invariant-loop
invariant-loop g l = (length l.rows.items ≡ l.counter) × All (λ row. row ≡ []) l.rows.items
