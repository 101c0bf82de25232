use Rattle.turned_polygons.proofs.Bounds.{have_copper}
use Rattle.turned_polygons.proofs.laws.turned_polygons_have_copper.Goals as goal

pub returns : goal.returns
returns c = have_copper c.near_is_between.ensures c.polygons_have_copper.ensures
