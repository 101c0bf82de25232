use Rattle.boardnet.proofs.Agreeable.{files_agree}
use Rattle.boardnet.proofs.laws.files_agree.Goals as goal

pub returns : goal.returns
returns c = files_agree
