use Rattle.arc_regions.proofs.Curves.{sector_of_each}
use Rattle.arc_regions.proofs.laws.sector_of_each.Goals as goal

pub returns : goal.returns
returns c = sector_of_each
