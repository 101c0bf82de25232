use Rattle.std.proofs.Common.{arith}
use Rattle.slants.proofs.Moved.{above_disc}
use Rattle.slants.proofs.discs.is_above_disc.Goals as goal

pub returns-then-disc-r-clause-copper : goal.returns-then-disc-r-clause-copper
returns-then-disc-r-clause-copper c = λ yes p (t, k, inside). above_disc c.args.disc.now c.args.s c.args.r t p record { large = let less = c.if-disc-r.true in grind (arith, less); near = c.stays_near.ensures.0 yes } k inside
