use Rattle.macro_flatten.proofs.laws.flat_text_reads.Goals as goal
use Rattle.macro_flatten.proofs.FlattenedRead.{flat_text_reads}

pub returns : goal.returns
returns c = flat_text_reads c.one_answer.ensures
