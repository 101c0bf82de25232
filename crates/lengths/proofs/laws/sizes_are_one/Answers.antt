use Rattle.lengths.proofs.GridLemmas.{Sizes-is}
use Rattle.lengths.proofs.laws.sizes_are_one.Goals as goal

pub returns : goal.returns
returns c = λ d unit answer right. Sizes-is d unit answer right
