use Rattle.std.proofs.Common.{arith}
use Rattle.slants.proofs.Reach.{inner_small}
use Rattle.slants.proofs.polygons.inner.Goals as goal

pub returns-clause-small : goal.returns-clause-small
returns-clause-small c = inner_small c.args.g.now.diameter c.saturating_sub-less.result (omega (arith, c.saturating_sub-less.ensures, c.cosine_of_half-across.ensures.small))
