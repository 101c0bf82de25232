use Rattle.std.proofs.Common.{pos, rules}
use Rattle.arcs.proofs.Taken.{ring_read}
use Rattle.arcs.proofs.judged.ring_for.Goals as goal

pub returns : goal.returns
returns c = ring_read c.args.arc.now c.args.chain.now (pos c.args.k) c.ring_of.result (search rules) (search rules) (search rules) c.ring_of.ensures
