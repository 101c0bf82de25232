use Rattle.contact.proofs.Away.{below_fits, below_is}
use Rattle.contact.proofs.Capsule.low.Goals as goal

pub overflow_sub-result : goal.overflow_sub-result
overflow_sub-result c = below_fits c.args.self.now.a.y c.args.self.now.b.y c.args.self.now.r c.min.result c.args.self.now.start.1 c.args.self.now.end.1 c.args.self.now.radius c.min.ensures.value

pub returns : goal.returns
returns c = below_is c.args.self.now.a.y c.args.self.now.b.y c.args.self.now.r c.min.result c.args.self.now.start.1 c.args.self.now.end.1 c.args.self.now.radius c.min.ensures.value
