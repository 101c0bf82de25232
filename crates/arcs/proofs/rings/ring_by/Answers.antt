use Rattle.arcs.specs.Copper.{inmost, outmost}
use Rattle.arcs.proofs.Roots.{ring_some}
use Rattle.arcs.proofs.rings.ring_by.Goals as goal

pub returns-in-Some : goal.returns-in-Some
returns-in-Some c = ring_some (inmost c.args.arc.now) (outmost c.args.arc.now) c.least_of-least.result c.in-Some.most c.args.k c.saturating_sub.result c.in-Some.ensures c.least_of-least.ensures.root c.saturating_sub.ensures
