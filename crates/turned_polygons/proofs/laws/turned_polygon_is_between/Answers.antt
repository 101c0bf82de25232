use Rattle.turned_polygons.proofs.Bounds.{is_between}
use Rattle.turned_polygons.proofs.laws.turned_polygon_is_between.Goals as goal

pub returns : goal.returns
returns c = is_between c.discs_are_between.ensures c.polygon_is_between.ensures
