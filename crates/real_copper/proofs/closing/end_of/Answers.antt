use Rattle.real_copper.proofs.Edges.{last_end}
use Rattle.real_copper.proofs.closing.end_of.Goals as goal

pub returns-in-Some : goal.returns-in-Some
returns-in-Some c = last_end c.args.contour.now.first c.args.contour.now.legs.items c.in-Some.leg.now (rw c.deref.ensures.value at c.in-Some.ensures.value)
