-- What the aperture dictionary and the macros of a file hold, where apertures are standard ones.
use Rattle.std.specs.Prelude.{ℤ, Option, None}
use Rattle.apertures.specs.declared.aperture.Aperture.{Aperture}
use Rattle.apertures.specs.Flash.{pen_of}
use Rattle.gerber_reading.specs.Tools as reading
pub use Rattle.gerber_reading.specs.Tools.{standard, composed, Macro, Macros, latest_or, macro_named, has_room, begun, longer, filled_up, decimals_in, parameters_in, composed_in, tool_by, tool_in, name_text, number_digits}

abbrev pub Tool : Type 0
Tool = reading.Tool Aperture

-- the diameter of the pen that it is: a circle alone draws
abbrev pub pen_with : Tool → Option ℤ
pen_with (standard aperture) = pen_of aperture
pen_with (composed name parameters unit) = None
