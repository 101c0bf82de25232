use Rattle.board_package.proofs.OneOutcome.{one_outcome}
use Rattle.board_package.proofs.laws.one_outcome.Goals as goal

pub returns : goal.returns
returns c = λ files name. one_outcome c.files_have_one_answer.ensures files name
