use Rattle.std.proofs.Common.{◌*◌}
use Rattle.area_contact.proofs.RunBoxes.{part_slice}
use Rattle.area_contact.proofs.runs.part.Goals as goal

pub returns : goal.returns
returns g c = part_slice c.args.items.now c.args.size (c.args.size * c.args.k) c.min-from.result c.min-to.result c.min-from.ensures c.min-to.ensures
