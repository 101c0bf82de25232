use Rattle.witness_check.proofs.Once.{IsStandingTo}
use Rattle.witness_check.proofs.nets.stand_net.Given as goal

abbrev pub invariant-loop-k : goal.invariant-loop-k
invariant-loop-k l = IsStandingTo 4294967295 l.number l.net l.initial.numbers l.initial.places l.k l.numbers l.places
