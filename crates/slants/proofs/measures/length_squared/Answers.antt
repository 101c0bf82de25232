use Rattle.std.proofs.Common.{rules}
use Rattle.slants.proofs.Read.{length_small}
use Rattle.slants.proofs.measures.length_squared.Goals as goal

pub returns-clause-small : goal.returns-clause-small
returns-clause-small c = length_small c.args.slant.now.start c.args.slant.now.end c.unsigned_abs.result c.dot.result c.requires.slant.start c.requires.slant.end c.dot.ensures (search rules) c.unsigned_abs.ensures.value
