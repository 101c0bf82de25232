use Rattle.macro_flatten.proofs.MacroImages.{macro_images_are_flat}
use Rattle.macro_flatten.proofs.laws.macro_images_are_flat.Goals as goal

pub returns : goal.returns
returns c = macro_images_are_flat
