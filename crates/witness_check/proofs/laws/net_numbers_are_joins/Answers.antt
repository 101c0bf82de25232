use Rattle.witness_check.proofs.Joins.{net_numbers_are_joins}
use Rattle.witness_check.proofs.laws.net_numbers_are_joins.Goals as goal

pub returns : goal.returns
returns c = net_numbers_are_joins
