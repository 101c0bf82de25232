use Rattle.std.proofs.Common.{arith}
use Rattle.net_numbers.proofs.Numbering.{numbered_more, numbered_inside, numbered_outside}
use Rattle.verdict.proofs.Holding.{piece_read, piece_held}
use Rattle.net_numbers.proofs.number_net.Goals as goal

pub bounds-numbers-twig : goal.bounds-numbers-twig
bounds-numbers-twig c =
    let e = c.requires _ (piece_held c.args.net.now c.loop-twig.twig-index (omega arith)) in
    let f = c.loop-twig.invariant.long in
    omega arith

pub loop-twig-preserved : goal.loop-twig-preserved
loop-twig-preserved c =
    let e = c.requires _ (piece_held c.args.net.now c.loop-twig.twig-index (omega arith)) in
    let f = c.loop-twig.invariant.long in
    numbered_more _ _ _ _ _ _ c.loop-twig.invariant (piece_read c.args.net.now c.loop-twig.twig-index (omega arith)) (omega arith)

pub returns-clause-inside : goal.returns-clause-inside
returns-clause-inside c = λ p h. numbered_inside _ _ _ _ _ p c.loop-twig.invariant (omega arith) h

pub returns-clause-outside : goal.returns-clause-outside
returns-clause-outside c = λ p h. numbered_outside _ _ _ _ _ p c.loop-twig.invariant (omega arith) h
