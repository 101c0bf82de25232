use Rattle.verdict.proofs.OneText.{no_front}
use Rattle.verdict.proofs.laws.no_report_is_a_front.Goals as goal

pub returns : goal.returns
returns c = no_front
