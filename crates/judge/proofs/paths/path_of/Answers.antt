use Rattle.std.proofs.Common.{ℕ, List, Contains, All, subst, sym}
use Rattle.verdict.specs.Forest.{pieces_of}
use Rattle.judge.proofs.Climbing.{up_start, up_more, up_done, up_inside}
use Rattle.judge.proofs.paths.path_of.Goals as goal
use Rattle.verdict.proofs.Placing.{placed}

pub bounds-places-start : goal.bounds-places-start
bounds-places-start c = (placed c.args.net.now c.args.places.now c.args.start c.requires.places c.requires.start).1

pub loop-k-init : goal.loop-k-init
loop-k-init c = rw c.new-pieces.ensures (up_start c.args.net.now c.args.places.now c.args.flags.now c.args.start c.requires.places c.requires.start)

pub loop-k-preserved : goal.loop-k-preserved
loop-k-preserved c = rw c.in_ok-push.ensures.ok (up_more c.args.net.now c.args.flags.now c.args.start c.loop-k.pieces c.loop-k.k c.above-k.result c.loop-k.invariant c.loop-k-test.true c.above-k.ensures.before c.above-k.ensures.named)

pub returns-clause-path : goal.returns-clause-path
returns-clause-path c = rw c.in_ok-push-2.ensures.ok (up_done c.args.net.now c.args.flags.now c.args.start c.loop-k.pieces c.loop-k.k c.loop-k.invariant c.loop-k-test.false)

pub returns-clause-inside : goal.returns-clause-inside
returns-clause-inside c = subst (λ (xs : List ℕ). All (λ piece. Contains (pieces_of c.args.net.now) piece) xs) (sym c.in_ok-push-2.ensures.ok) (up_inside c.args.net.now c.args.flags.now c.args.start c.loop-k.pieces c.loop-k.k c.loop-k.invariant)
