use Rattle.std.proofs.Common.{◌≡◌, map, take}
use Rattle.reports.specs.Findings.{short_points}
use Rattle.reports.proofs.findings.points_of.Given as goal

abbrev pub invariant-loop-short : goal.invariant-loop-short
invariant-loop-short l = map (λ points. points.items) l.all.items ≡ map short_points (take l.short-index l.shorts)
