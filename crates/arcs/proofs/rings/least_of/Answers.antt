use Rattle.arcs.specs.Copper.{lesser, spread}
use Rattle.arcs.proofs.Roots.{inmost_root}
use Rattle.arcs.proofs.rings.least_of.Goals as goal

pub returns-clause-root : goal.returns-clause-root
returns-clause-root c = inmost_root (lesser c.args.arc.now) (spread c.args.arc.now) c.squares_of.result.0 c.args.more c.saturating_sub.result c.root_down.result c.squares_of.ensures.near c.requires.is c.saturating_sub.ensures c.root_down.ensures.under c.root_down.ensures.greatest
