use Rattle.verdict.proofs.OneText.{one_text}
use Rattle.verdict.proofs.laws.report_text_is_injective.Goals as goal

pub returns : goal.returns
returns c = one_text
