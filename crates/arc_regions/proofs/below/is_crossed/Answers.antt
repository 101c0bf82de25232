use Rattle.std.proofs.Common.{pos}
use Rattle.planar.specs.Plane.{at}
use Rattle.area_contact.specs.Parity.{crossed, crossed_is}
use Rattle.area_contact.proofs.Loops.{same_test}
use Rattle.arc_regions.proofs.below.is_crossed.Goals as goal

pub returns : goal.returns
returns c = same_test c.ray_crosses.result (crossed (record { start = c.args.a; end = c.args.b }) c.args.p.x c.args.p.y (pos 1)) c.ray_crosses.ensures (crossed_is (record { start = c.args.a; end = c.args.b }) (at c.args.p))
