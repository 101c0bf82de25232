use Rattle.std.proofs.Common.{length}
use Rattle.judge.proofs.Placing.{ArePlaced}
use Rattle.judge.proofs.places.place_net.Given as goal

abbrev pub invariant-loop-k : goal.invariant-loop-k
invariant-loop-k l = ArePlaced l.net (length l.initial.places) l.k l.places
