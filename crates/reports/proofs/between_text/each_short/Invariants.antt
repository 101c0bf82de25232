use Rattle.std.proofs.Common.{◌≡◌, ◌++◌, take}
use Rattle.std.specs.List.{flat_map}
use Rattle.reports.specs.BetweenText.{short_part}
use Rattle.reports.proofs.between_text.each_short.Given as goal

abbrev pub invariant-loop-short : goal.invariant-loop-short
invariant-loop-short l = l.out.items ≡ l.initial.out.items ++ flat_map (λ short. short_part l.probes l.names short.items) (take l.short-index l.shorts)
