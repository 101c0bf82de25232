use Rattle.std.proofs.Common.{refl}
use Rattle.real_copper.proofs.Near.{plain_few, plain_near}
use Rattle.real_copper.proofs.flashes.plain.Goals as goal

pub invariant_of-result : goal.invariant_of-result
invariant_of-result c = record { near = plain_near c.args.shape; settled = refl; few = plain_few c.args.shape }
