use Rattle.std.proofs.Common.{◌≡◌, ◌-◌}
use Rattle.verdict.specs.ReportReading.{items_at}
use Rattle.verdict.proofs.ReadLists.{with_front}
use Rattle.verdict.proofs.lines.items.Given as goal

abbrev pub invariant-loop : goal.invariant-loop
invariant-loop g l = (with_front l.items (items_at g.T.Line.at (l.count - l.counter) l.counter l.rest) ≡ items_at g.T.Line.at l.count 0 l.bytes) × (l.line.number ≡ l.counter)
