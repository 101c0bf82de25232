use Rattle.std.proofs.Common.{length}
use Rattle.net_numbers.proofs.Numbering.{AreNumbered}
use Rattle.net_numbers.proofs.number_nets.Given as goal

abbrev pub invariant-loop-i : goal.invariant-loop-i
invariant-loop-i l = AreNumbered l.nets (length l.initial.numbers) l.i l.numbers
