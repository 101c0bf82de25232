-- What the readers of words keep.
use Rattle.std.specs.Prelude.{◌≡◌, ℕ, ◌≤◌, true, List, Option, Some, None, IfSome}
use Rattle.planar.specs.Plane.{IsPlaced}
use Rattle.lengths.specs.Decimal.{is_whole}
use Rattle.step_repeat.specs.Repeats.{IsLawful}
use Rattle.gerber_reading.specs.Command.{Command, formats, operates}
use Rattle.gerber_reading.specs.declared.command.Format.{Format}
use Rattle.gerber_reading.specs.declared.settings.Settings.{Settings}

-- digits are a number, with its sign
abbrev pub IsWhole : Option (List ℕ) → Type 0
IsWhole None = Unit {0}
IsWhole (Some digits) = is_whole digits ≡ true

-- a format has at most 7 decimals
abbrev pub IsShortFormat : Option Format → Type 0
IsShortFormat None = Unit {0}
IsShortFormat (Some format) = format.decimals ≤ 7

-- a format of at most 7 decimals, a current point within one metre, and lawful counts and steps of an open block
pub record AreLawfulSettings (s : Settings) : Type 0 where
  pub format : IsShortFormat s.format
  pub at : IsPlaced s.at
  pub block : IfSome s.block IsLawful

-- what each command that is read keeps
abbrev pub IsLawfulCommand : Command → Type 0
IsLawfulCommand (formats format) = format.decimals ≤ 7
IsLawfulCommand (operates x y code b) = IsWhole x × IsWhole y
IsLawfulCommand other = Unit {0}
