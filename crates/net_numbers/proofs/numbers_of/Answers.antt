use Rattle.std.proofs.Common.{ℕ, List, arith, get_or, ◌∙◌, ap}
use Rattle.std.proofs.lemmas.List.{with_items_is}
use Rattle.net_numbers.proofs.numbers_of.Goals as goal

pub number_nets-requires-clause-known : goal.number_nets-requires-clause-known
number_nets-requires-clause-known c = λ i p h. let e = c.requires.known i p h in let f = c.as_mut_slice.ensures.len in let g = c.in_ok-numbers.ensures.len in omega arith

pub returns-clause-numbers : goal.returns-clause-numbers
returns-clause-numbers c = λ i p h.
    let same = with_items_is c.in_ok-numbers.numbers c.number_nets.new.numbers (omega (arith, c.as_mut_slice.ensures.len)) in
    ap (λ (xs : List ℕ). get_or xs p 0) same ∙ c.number_nets.ensures i p h
