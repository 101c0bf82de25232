use Rattle.std.proofs.Common.{◌≡◌, ◌++◌, ◌-◌}
use Rattle.std.specs.Prelude.{option_map}
use Rattle.gerber_reading.specs.Tools.{decimals_in}
use Rattle.gerber_reading.proofs.parameters.decimals.Given as goal

-- the decimals so far, with those that remain, are all
abbrev pub invariant-loop : goal.invariant-loop
invariant-loop l = decimals_in l.n l.text ≡ option_map (λ more. l.decimals.items ++ more) (decimals_in (l.n - l.counter) l.rest)
