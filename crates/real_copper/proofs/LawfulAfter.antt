-- Lawful settings stay lawful.
use Rattle.std.proofs.Common.{◌≤◌, Option, Some, None}
use Rattle.std.specs.Prelude.{IfSome}
use Rattle.planar.specs.Plane.{IsPlaced}
use Rattle.planar.specs.declared.Spot.{Spot}
use Rattle.file_reading.specs.LookingBack.{keep_first}
use Rattle.step_repeat.specs.Repeats.{IsLawful}
use Rattle.step_repeat.specs.declared.repeat.Repeat.{Repeat}
use Rattle.gerber_reading.specs.After.{after}
use Rattle.gerber_reading.specs.Command.{Command, formats, operates, repeats}
use Rattle.gerber_reading.specs.Lawful.{AreLawfulSettings, IsLawfulCommand, IsShortFormat}
use Rattle.gerber_reading.specs.declared.command.Format.{Format}
use Rattle.gerber_reading.specs.declared.settings.Settings.{Settings}

short : (format : Format) (first : Option Format) → format.decimals ≤ 7 → IsShortFormat first → IsShortFormat (keep_first (Some format) first)
short format None h k = h
short format (Some first) h k = k

-- behind a command that leads to a spot within 1 m, and opens a lawful block
pub after_lawful : (s : Settings) (c : Command) (to : Option Spot) (next : Option Repeat) → AreLawfulSettings s → IsLawfulCommand c → IfSome to IsPlaced → IfSome next IsLawful → AreLawfulSettings (after s c to next)
after_lawful s (formats format) to next h k f g = record { format = short format s.format k h.format; at = h.at; block = h.block }
after_lawful s (operates x y code b) (Some to) next h k f g = record { format = h.format; at = f; block = h.block }
after_lawful s (repeats text) to next h k f g = record { format = h.format; at = h.at; block = g }
after_lawful s other to next h k f g = record { format = h.format; at = h.at; block = h.block }
