use Rattle.gerber_layer.proofs.LookingBack.{looks_back_to_its_contour}
use Rattle.gerber_layer.proofs.laws.looks_back_to_its_contour.Goals as goal

pub returns : goal.returns
returns c = looks_back_to_its_contour
