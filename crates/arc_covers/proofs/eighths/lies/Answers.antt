use Rattle.arc_covers.proofs.Lying.{not_reached}
use Rattle.arc_covers.proofs.eighths.lies.Goals as goal

pub returns-then-not-is_reached : goal.returns-then-not-is_reached
returns-then-not-is_reached c = not_reached c.args.region.now.start c.args.region.now.parts.items c.args.area.now.points.items c.is_reached.result c.if-not-is_reached.true c.is_reached.ensures
