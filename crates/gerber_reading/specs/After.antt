-- What the reader keeps behind a command.
use Rattle.std.specs.Prelude.{true, false, Option, Some, None}
use Rattle.planar.specs.declared.Spot.{Spot}
use Rattle.step_repeat.specs.declared.repeat.Repeat.{Repeat}
use Rattle.gerber_reading.specs.Command.{Command, curves, quarters, formats, counts_in, selects, repeats, opens_region, closes_region, operates, ends}
use Rattle.gerber_reading.specs.declared.settings.Settings.{Settings}
use Rattle.gerber_reading.specs.CommandEffects.{Effect, Outline, performs, extends, closes, opens, leaves, steps, code_of}
use Rattle.file_reading.specs.LookingBack.{keep_first, latest}
use Rattle.gerber_reading.specs.Settings.{lengthened}

-- where an effect leads
abbrev pub heads : {G E A : Type 0} → (Effect G E A) → Option Spot
heads (performs to figure) = Some to
heads (extends to e) = Some to
heads (closes to figure) = Some to
heads other = None

-- the block that it opens
abbrev pub opened : {G E A : Type 0} → (Effect G E A) → Option Repeat
opened (steps next pieces) = next
opened other = None

-- the settings behind a command, by where its effect leads and the block that it opens
abbrev pub after : Settings → Command → Option Spot → Option Repeat → Settings
after s (formats format) to next = record s { format = keep_first (Some format) s.format }
after s (counts_in unit) to next = record s { unit = keep_first (Some unit) s.unit }
after s (selects n) to next = record s { selected = Some n }
after s (operates x y code b) (Some to) next = record s { at = to; last = Some (code_of code); curve = latest b.curve s.curve }
after s (curves curve) to next = record s { curve = curve }
after s (quarters quadrants) to next = record s { quadrants = Some quadrants }
after s opens_region to next = record s { region = true }
after s closes_region to next = record s { region = false }
after s (repeats text) to next = record s { block = next }
after s ends to next = record s { ended = true }
after s other to next = s

-- the contour behind an effect
abbrev pub contour_after : {G E A : Type 0} → Effect G E A → Option (Outline E) → Spot → Option (Outline E)
contour_after (extends to e) contour from = lengthened contour from to e
contour_after (closes to figure) contour from = None
contour_after opens contour from = None
contour_after (leaves figure) contour from = None
contour_after other contour from = contour
