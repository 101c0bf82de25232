use Rattle.std.proofs.Common.{arith, pos}
use Rattle.arc_covers.proofs.Parts.{other_length}
use Rattle.arc_covers.proofs.regions.are_links.Goals as goal

pub returns-then-pieces-rest : goal.returns-then-pieces-rest
returns-then-pieces-rest c = other_length c.args.pieces.now c.args.start c.args.rest.now (pos c.args.r) (λ e. absurd (omega (arith, e)))
