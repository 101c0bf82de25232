use Rattle.std.proofs.Common.{arith}
use Rattle.slants.proofs.Moved.{below_disc}
use Rattle.slants.proofs.discs.is_below_disc.Goals as goal

pub returns-then-r-disc-clause-copper : goal.returns-then-r-disc-clause-copper
returns-then-r-disc-clause-copper c = λ yes p inside t k. below_disc c.args.disc.now c.args.s c.args.r t p record { small = let less = c.if-r-disc.true in grind (arith, less); near = c.stays_near.ensures.0 yes } k inside
