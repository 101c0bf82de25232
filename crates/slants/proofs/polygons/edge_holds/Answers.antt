use Rattle.std.proofs.Common.{subst, sym}
use Rattle.slants.specs.Turned.{AreReady}
use Rattle.slants.proofs.Reach.{back_ready}
use Rattle.slants.proofs.polygons.edge_holds.Goals as goal

pub triangle_of-requires : goal.triangle_of-requires
triangle_of-requires c = record { ready = subst AreReady (sym c.back-m.ensures) (back_ready c.turns_to.result c.turns_to.ensures.ready) }

pub all_lean-requires-clause-ready : goal.all_lean-requires-clause-ready
all_lean-requires-clause-ready c = subst AreReady (sym c.back-m.ensures) (back_ready c.turns_to.result c.turns_to.ensures.ready)
