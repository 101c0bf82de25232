use Rattle.arc_regions.proofs.Read.{corner_first, corner_placed}
use Rattle.arc_regions.proofs.below.first_corner.Goals as goal

pub returns-clause-placed : goal.returns-clause-placed
returns-clause-placed c = corner_placed c.args.area.now.points.items c.corner.result c.args.area.now.enough c.corner.ensures c.args.area.now.placed

pub returns-clause-first : goal.returns-clause-first
returns-clause-first c = corner_first c.args.area.now.points.items c.corner.result c.args.area.now.enough c.corner.ensures
