use Rattle.std.proofs.Common.{List, ap, arith, length, subst, ℕ}
use Rattle.board_shapes.specs.Plain.{plain_board}
use Rattle.board_shapes.specs.declared.probe.Probe.{Probe}
use Rattle.witness_check.specs.Strips.{AreSet}
use Rattle.witness_check.proofs.least.places_of.Goals as goal

pub returns : goal.returns
returns c = subst (λ (n : ℕ). AreSet (plain_board c.args.board.now) c.args.height n c.loop-k.points.items) (let same = ap (λ (ps : List Probe). length ps) c.probes-k-end.ensures.items in omega (arith, same)) c.loop-k.invariant
