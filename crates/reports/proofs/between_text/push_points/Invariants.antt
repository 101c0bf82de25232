use Rattle.std.proofs.Common.{◌≡◌, ◌++◌, take}
use Rattle.std.specs.List.{flat_map}
use Rattle.reports.specs.BetweenText.{point_line}
use Rattle.reports.proofs.between_text.push_points.Given as goal

abbrev pub invariant-loop-number : goal.invariant-loop-number
invariant-loop-number l = l.out.items ≡ l.initial.out.items ++ flat_map (point_line l.item l.probes l.names) (take l.number-index l.points)
