use Rattle.real_copper.proofs.Setting.{is_about}
use Rattle.real_copper.proofs.sketches.odd_sketched.Goals as goal

pub odd_shape-requires-clause-about : goal.odd_shape-requires-clause-about
odd_shape-requires-clause-about c = is_about c.args.rotation c.args.at c.args.fine.start c.moved-p.result c.moved-p.ensures c.requires.at_placed c.requires.near.0
