use Rattle.witness_check.proofs.Differences.{verdicts_differ_in_witnesses_only}
use Rattle.witness_check.proofs.laws.verdicts_differ_in_witnesses_only.Goals as goal

pub returns : goal.returns
returns c = verdicts_differ_in_witnesses_only
