-- The commands, and the one that a value of the program stands for.
use Rattle.std.specs.Prelude.{ℕ, List}
use Rattle.boardnet.specs.declared.commands.Command.{Command as Given}
use Rattle.boardnet.specs.declared.commands.Command.TheVariants as given
use Rattle.reports.specs.declared.judged.Version.{Version}

-- the names of a package's manifest, of those of two packages that bound it, and of their file of counts
pub record BoundNames : Type 0 where
  pub real : List ℕ
  pub lower : List ℕ
  pub upper : List ℕ
  pub counts : List ℕ

abbrev pub bound_names : (real lower upper counts : List ℕ) → BoundNames
bound_names real lower upper counts = record { real = real; lower = lower; upper = upper; counts = counts }

-- What is asked for: to check the package of a manifest with a report of a version, to audit a report on it, to check the
-- made board of two numbers, to write a netlist of the package, to list its gaps at so many nanometres, to check it by the
-- net names in its copper files, to rewrite a copper file without macros, or to judge a package by two that bound it.
pub data Command : Type 0 where
  Check : Version → List ℕ → Command
  Audit : List ℕ → List ℕ → Command
  Trial : ℕ → ℕ → Command
  Write : List ℕ → Command
  Gaps : List ℕ → ℕ → Command
  X2 : List ℕ → Command
  Flatten : List ℕ → Command
  Between : BoundNames → Command

-- the command that a value stands for, its names as the bytes that they hold
abbrev pub asked : Given → Command
asked (given.Check version manifest) = Check version manifest.now
asked (given.Audit manifest report) = Audit manifest.now report.now
asked (given.Trial seed size) = Trial seed size
asked (given.Write manifest) = Write manifest.now
asked (given.Gaps manifest nanometres) = Gaps manifest.now nanometres
asked (given.X2 manifest) = X2 manifest.now
asked (given.Flatten file) = Flatten file.now
asked (given.Between real lower upper counts) = Between (bound_names real.now lower.now upper.now counts.now)
