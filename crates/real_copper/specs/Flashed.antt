-- The answers of flashes as plain data.
use Rattle.std.specs.Prelude.{◌≡◌, Option, option_map, Result, Ok, Err}
use Rattle.apertures.specs.Flash.{NoFlash, leaves}
use Rattle.apertures.specs.declared.fault.FlashFault.{FlashFault}
use Rattle.apertures.specs.declared.fault.FlashFault.TheVariants as flash
use Rattle.aperture_macros.specs.declared.fault.FigureFault.{FigureFault}
use Rattle.aperture_macros.specs.declared.fault.FigureFault.TheVariants as figure
use Rattle.aperture_macros.specs.declared.fault.MacroFault.{MacroFault}
use Rattle.real_copper.specs.Figures.{RealFigure}
use Rattle.real_copper.specs.Shapes.{real_figure}
use Rattle.real_copper.specs.declared.anchored.Anchored.{Anchored}

-- the figure of what is anchored, if there is one
abbrev pub option_figure : Option Anchored → Option RealFigure
option_figure f = option_map (λ (a : Anchored). real_figure a.shape) f

-- the answer is the flash, unless memory is wanted
abbrev pub Flashes : Result (Option Anchored) FlashFault → Result (Option RealFigure) NoFlash → Type 0
Flashes (Ok f) what = Ok (option_figure f) ≡ what
Flashes (Err flash.OutOfRange) what = Err leaves ≡ what
Flashes (Err flash.NoMemory) what = Unit {0}

-- the answer is the figure of a primitive, unless memory is wanted
abbrev pub Makes : Result (Option Anchored) FigureFault → Result (Option RealFigure) MacroFault → Type 0
Makes (Ok f) what = Ok (option_figure f) ≡ what
Makes (Err (figure.Macro why)) what = Err why ≡ what
Makes (Err figure.NoMemory) what = Unit {0}
