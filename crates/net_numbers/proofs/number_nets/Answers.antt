use Rattle.std.proofs.Common.{◌≡◌, List, [], arith, sym, subst, Contains, ◌∙◌}
use Rattle.std.proofs.lemmas.List.{get_or_read}
use Rattle.verdict.specs.declared.verdict.Twig.{Twig}
use Rattle.verdict.specs.Forest.{pieces_of, net_at}
use Rattle.net_numbers.proofs.Numbering.{numbers_more}
use Rattle.verdict.proofs.Holding.{held_within}
use Rattle.net_numbers.proofs.number_nets.Goals as goal

pub number_net-requires : goal.number_net-requires
number_net-requires c = λ p h.
    let same : c.as_slice.result.now ≡ net_at c.args.nets.now c.loop-i.i = c.as_slice.ensures ∙ get_or_read c.args.nets.now c.loop-i.i c.index-nets-i.result (omega arith) c.index-nets-i.is [] in
    let e = c.requires.known c.loop-i.i p (subst (λ (n : List Twig). Contains (pieces_of n) p) same h) in
    omega arith

pub loop-i-preserved : goal.loop-i-preserved
loop-i-preserved c =
    let same : c.as_slice.result.now ≡ net_at c.args.nets.now c.loop-i.i = c.as_slice.ensures ∙ get_or_read c.args.nets.now c.loop-i.i c.index-nets-i.result (omega arith) c.index-nets-i.is [] in
    numbers_more c.args.nets.now _ c.loop-i.i c.loop-i.numbers c.number_net.new.numbers c.requires.one_net c.loop-i.invariant (omega arith)
    (λ p h. c.number_net.ensures.inside p (subst (λ (n : List Twig). Contains (pieces_of n) p) (sym same) h))
    (λ p none. c.number_net.ensures.outside p (λ h. none (subst (λ (n : List Twig). Contains (pieces_of n) p) same h)))

pub returns : goal.returns
returns c = λ i p h. let e = held_within c.args.nets.now i p h in c.loop-i.invariant.done i p (omega arith) h
