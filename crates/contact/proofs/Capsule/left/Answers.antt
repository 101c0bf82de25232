use Rattle.contact.proofs.Away.{below_fits, below_is}
use Rattle.contact.proofs.Capsule.left.Goals as goal

pub overflow_sub-result : goal.overflow_sub-result
overflow_sub-result c = below_fits c.args.self.now.a.x c.args.self.now.b.x c.args.self.now.r c.min.result c.args.self.now.start.0 c.args.self.now.end.0 c.args.self.now.radius c.min.ensures.value

pub returns : goal.returns
returns c = below_is c.args.self.now.a.x c.args.self.now.b.x c.args.self.now.r c.min.result c.args.self.now.start.0 c.args.self.now.end.0 c.args.self.now.radius c.min.ensures.value
