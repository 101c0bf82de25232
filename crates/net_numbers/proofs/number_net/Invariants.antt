use Rattle.net_numbers.proofs.Numbering.{IsNumbered}
use Rattle.net_numbers.proofs.number_net.Given as goal

abbrev pub invariant-loop-twig : goal.invariant-loop-twig
invariant-loop-twig l = IsNumbered l.net l.number l.initial.numbers l.twig-index l.numbers
