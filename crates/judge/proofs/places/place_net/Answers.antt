use Rattle.std.proofs.Common.{arith}
use Rattle.judge.proofs.Placing.{placed_more}
use Rattle.judge.proofs.places.place_net.Goals as goal

pub loop-k-preserved : goal.loop-k-preserved
loop-k-preserved c = placed_more c.args.net.now _ c.loop-k.k c.loop-k.places c.requires.once (omega arith) (let e = c.requires.inside c.loop-k.k (omega arith) in let f = c.loop-k.invariant.room in omega arith) c.loop-k.invariant
