use Rattle.contact.proofs.Rounds.{in_bounds}
use Rattle.area_contact.specs.Contour.{area_box}
use Rattle.area_contact.proofs.Apart.{spot_apart}
use Rattle.area_contact.proofs.filled.AreaClosed.has.Goals as goal

pub returns-else-holds : goal.returns-else-holds
returns-else-holds c = spot_apart c.args.self.now.points.items c.args.p c.bounds.result c.holds.result c.bounds.ensures.lawful c.bounds.ensures.value c.if-holds.false c.holds.ensures

pub covers-requires-clause-in_frame : goal.covers-requires-clause-in_frame
covers-requires-clause-in_frame c = in_bounds (area_box c.args.self.now.points.items) c.bounds.result c.args.frame c.args.p c.bounds.ensures.value c.requires.inside (c.holds.ensures.0 c.if-holds.true)
