use Rattle.witness_check.proofs.Listed.{opens_cover_split_names}
use Rattle.witness_check.proofs.laws.opens_cover_split_names.Goals as goal

pub returns : goal.returns
returns c = opens_cover_split_names
