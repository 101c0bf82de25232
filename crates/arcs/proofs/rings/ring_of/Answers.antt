use Rattle.std.proofs.Common.{pos, ◌^◌}
use Rattle.arcs.proofs.Radii.{over_outmost}
use Rattle.arcs.proofs.rings.ring_of.Goals as goal

pub returns-in-None : goal.returns-in-None
returns-in-None c = over_outmost c.args.arc.now (pos (2 ^ 128)) c.in-None.ensures
