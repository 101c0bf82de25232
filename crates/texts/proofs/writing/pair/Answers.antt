use Rattle.texts.proofs.Pairs.{ones_are, tens_are}
use Rattle.texts.proofs.writing.pair.Goals as goal

pub returns-clause-tens : goal.returns-clause-tens
returns-clause-tens c = tens_are c.args.n c.requires

pub returns-clause-ones : goal.returns-clause-ones
returns-clause-ones c = ones_are c.args.n c.requires
