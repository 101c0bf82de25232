use Rattle.std.proofs.Common.{arith}
use Rattle.witness_check.proofs.nets.standing_of.Goals as goal

pub stand_once-requires-clause-known : goal.stand_once-requires-clause-known
stand_once-requires-clause-known c = λ i p h. let e = c.requires.known i p h in let f = c.as_mut_slice.ensures.len in let g = c.in_ok-numbers.ensures.len in omega arith
