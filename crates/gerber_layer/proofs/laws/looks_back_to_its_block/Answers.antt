use Rattle.gerber_layer.proofs.Blocks.{looks_back_to_its_block}
use Rattle.gerber_layer.proofs.laws.looks_back_to_its_block.Goals as goal

pub returns : goal.returns
returns c = looks_back_to_its_block
