use Rattle.std.proofs.Common.{rules}
use Rattle.slants.proofs.Sums.{sign_read}
use Rattle.slants.proofs.turned.leans_so.Goals as goal

pub returns : goal.returns
returns c = sign_read c.lean.result _ c.lean.ensures (search rules)
