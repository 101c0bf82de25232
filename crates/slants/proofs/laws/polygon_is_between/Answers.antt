use Rattle.slants.proofs.Regular.{above_polygons, below_polygon}
use Rattle.slants.proofs.laws.polygon_is_between.Goals as goal

pub returns : goal.returns
returns c = (below_polygon, above_polygons)
