use Rattle.slants.proofs.Steps.{polygon_copper}
use Rattle.slants.proofs.laws.polygons_have_copper.Goals as goal

pub returns : goal.returns
returns c = polygon_copper
