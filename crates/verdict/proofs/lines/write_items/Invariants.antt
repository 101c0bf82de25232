use Rattle.std.proofs.Common.{◌≡◌, ◌++◌, take}
use Rattle.std.specs.List.{AllByRecursion}
use Rattle.verdict.specs.ReportText.{numbered}
use Rattle.verdict.proofs.lines.write_items.Given as goal

abbrev pub invariant-loop-number : goal.invariant-loop-number
invariant-loop-number g l = (l.out.items ≡ l.initial.out.items ++ numbered g.T.Line.text 0 (take l.number l.items)) × AllByRecursion g.T.Line.is_lawful (take l.number l.items)
