use Rattle.aperture_macros.proofs.Strokes.{flashes_discs_alone}
use Rattle.aperture_macros.proofs.laws.flashes_discs_alone.Goals as goal

pub returns : goal.returns
returns c = flashes_discs_alone
