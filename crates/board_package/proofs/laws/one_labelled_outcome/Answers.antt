use Rattle.board_package.proofs.LabelledOutcome.{one_labelled_outcome}
use Rattle.board_package.proofs.laws.one_labelled_outcome.Goals as goal

pub returns : goal.returns
returns c = λ files name. one_labelled_outcome (record { files = c.files_have_one_answer.ensures; labels = c.one_answer.ensures }) files name
