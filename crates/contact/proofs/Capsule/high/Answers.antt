use Rattle.contact.proofs.Away.{above_fits, above_is}
use Rattle.contact.proofs.Capsule.high.Goals as goal

pub overflow_add-result : goal.overflow_add-result
overflow_add-result c = above_fits c.args.self.now.a.y c.args.self.now.b.y c.args.self.now.r c.max.result c.args.self.now.start.1 c.args.self.now.end.1 c.args.self.now.radius c.max.ensures.value

pub returns : goal.returns
returns c = above_is c.args.self.now.a.y c.args.self.now.b.y c.args.self.now.r c.max.result c.args.self.now.start.1 c.args.self.now.end.1 c.args.self.now.radius c.max.ensures.value
