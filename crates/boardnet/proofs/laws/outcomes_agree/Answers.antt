use Rattle.std.proofs.Common.{Some}
use Rattle.boardnet.proofs.OneOutcome.{outcome_held}
use Rattle.boardnet.proofs.Soundness.{sound}
use Rattle.boardnet.proofs.laws.outcomes_agree.Goals as goal

pub returns : goal.returns
returns c = λ files before after command outcome w is. outcome_held command (Some files) before after ((sound command).agrees (record { listed = c.handed_is_held.ensures; real = c.handed_is_held-2.ensures }) (Some files) before after w) outcome is
