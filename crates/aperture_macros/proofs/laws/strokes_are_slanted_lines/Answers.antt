use Rattle.aperture_macros.proofs.Strokes.{strokes_are_slanted_lines}
use Rattle.aperture_macros.proofs.laws.strokes_are_slanted_lines.Goals as goal

pub returns : goal.returns
returns c = strokes_are_slanted_lines
