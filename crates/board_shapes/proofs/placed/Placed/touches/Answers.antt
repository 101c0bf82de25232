use Rattle.std.proofs.Common.{arith}
use Rattle.std.proofs.lemmas.Bool.Decides.{nat_tests}
use Rattle.board_shapes.proofs.placed.Placed.touches.Goals as goal

pub returns-clause-touch : goal.returns-clause-touch
returns-clause-touch g c = (λ h. (grind (arith, nat_tests), c.meets.ensures.share.0 h), λ h. c.meets.ensures.share.1 h.1)
