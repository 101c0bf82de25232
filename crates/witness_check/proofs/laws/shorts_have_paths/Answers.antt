use Rattle.witness_check.proofs.Paths.{shorts_have_paths}
use Rattle.witness_check.proofs.laws.shorts_have_paths.Goals as goal

pub returns : goal.returns
returns c = shorts_have_paths
