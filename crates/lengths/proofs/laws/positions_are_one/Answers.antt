use Rattle.lengths.proofs.GridLemmas.{Positions-is}
use Rattle.lengths.proofs.laws.positions_are_one.Goals as goal

pub returns : goal.returns
returns c = λ d unit answer right. Positions-is d unit answer right
