use Rattle.turned_outlines.proofs.Both.{each_placed}
use Rattle.turned_outlines.proofs.above.stand_for.Goals as goal

pub returns-then-closed-clause-placed : goal.returns-then-closed-clause-placed
returns-then-closed-clause-placed c = λ yes. each_placed c.args.figure.now.about c.args.figure.now.angle c.args.r c.deref-then-closed.result.now c.args.corners.now (c.are_near.ensures.0 yes)
