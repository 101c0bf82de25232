-- What stops a flash.
use Rattle.std.proofs.Common.{refl, Err}
use Rattle.planar.specs.declared.Spot.{Spot}
use Rattle.apertures.specs.Flash.{Flashes, flash_of}
use Rattle.apertures.specs.declared.aperture.Aperture.{Aperture}
use Rattle.apertures.specs.declared.fault.FlashFault.{FlashFault}
use Rattle.apertures.specs.declared.fault.FlashFault.TheVariants as flash
use Rattle.gerber_layer.specs.Reader.{Stops, halt_of_flash}
use Rattle.gerber_layer.specs.CommandEffects.{Known, flash_by}

-- what stops a flash
pub stops_flash : (k : Known) (aperture : Aperture) (to : Spot) (fault : FlashFault) → Flashes (Err fault) (flash_of aperture to) → Stops (flash_by k aperture to) (halt_of_flash fault)
unfolding flash_by
stops_flash k aperture to flash.OutOfRange e = rw (← e) refl
stops_flash k aperture to flash.NoMemory e = tt
