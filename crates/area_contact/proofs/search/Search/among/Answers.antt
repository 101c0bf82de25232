use Rattle.area_contact.specs.Contour.{Reaches}
use Rattle.area_contact.proofs.Searches.{found, past, nowhere}
use Rattle.area_contact.proofs.search.Search.among.Goals as goal

pub loop-number-preserved : goal.loop-number-preserved
loop-number-preserved c = past (Reaches c.args.self.now.capsule.now.a c.args.self.now.capsule.now.b c.args.self.now.capsule.now.r) c.args.self.now.points.now c.args.numbers.now c.loop-number.number-index c.loop-number-test.true c.reaches.ensures c.if-reaches.false c.loop-number.invariant

pub returns-then-reaches : goal.returns-then-reaches
returns-then-reaches c = found (Reaches c.args.self.now.capsule.now.a c.args.self.now.capsule.now.b c.args.self.now.capsule.now.r) c.args.self.now.points.now c.args.numbers.now c.loop-number.number-index c.loop-number-test.true c.reaches.ensures c.if-reaches.true c.loop-number.invariant

pub returns : goal.returns
returns c = nowhere (Reaches c.args.self.now.capsule.now.a c.args.self.now.capsule.now.b c.args.self.now.capsule.now.r) c.args.self.now.points.now c.args.numbers.now c.loop-number.number-index c.loop-number-test.false c.loop-number.invariant
