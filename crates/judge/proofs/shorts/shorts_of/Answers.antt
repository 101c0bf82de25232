use Rattle.std.proofs.Common.{◌≡◌, [], List, All, Contains, arith, sym, ◌∙◌, subst}
use Rattle.std.proofs.lemmas.List.{get_or_read}
use Rattle.verdict.specs.declared.verdict.Twig.{Twig}
use Rattle.verdict.specs.Forest.{pieces_of, net_at}
use Rattle.verdict.specs.declared.verdict.Mark.{Mark}
use Rattle.judge.specs.Judged.{HasHome}
use Rattle.judge.proofs.Branches.{shorted_all, shorted_more, shorted_skip}
use Rattle.judge.proofs.shorts.shorts_of.Goals.{then-names-gt1+in_ok-push_short, else-names-gt1}
use Rattle.judge.proofs.shorts.shorts_of.Goals as goal
use Rattle.verdict.specs.Seats.{marks_at}

pub push_short-requires-clause-known : goal.push_short-requires-clause-known
push_short-requires-clause-known c = λ p h.
    let same : c.as_slice-net.result.now ≡ net_at c.args.nets.now c.loop-n.n = c.as_slice-net.ensures ∙ get_or_read c.args.nets.now c.loop-n.n c.index-nets-n.result (omega arith) c.index-nets-n.is [] in
    let e = c.requires.known c.loop-n.n p (subst (λ (n : List Twig). Contains (pieces_of n) p) same h) in
    let f = c.as_mut_slice-places.ensures.len in
    let g = c.in_ok-table.ensures.len in
    omega arith

pub push_short-requires-clause-homes : goal.push_short-requires-clause-homes
push_short-requires-clause-homes c =
    let same : c.as_slice-net.result.now ≡ net_at c.args.nets.now c.loop-n.n = c.as_slice-net.ensures ∙ get_or_read c.args.nets.now c.loop-n.n c.index-nets-n.result (omega arith) c.index-nets-n.is [] in
    let row : c.as_slice-names.result.now ≡ marks_at c.args.marks.now c.loop-n.n = c.as_slice-names.ensures ∙ get_or_read c.args.marks.now c.loop-n.n c.index-marks-n.result (omega arith) c.index-marks-n.is [] in
    subst (λ (net : List Twig). All (HasHome net c.args.homes.now) c.as_slice-names.result.now) (sym same) (subst (λ (xs : List Mark). All (HasHome (net_at c.args.nets.now c.loop-n.n) c.args.homes.now) xs) (sym row) (c.requires.homes c.loop-n.n (omega arith)))

pub loop-n-preserved : goal.loop-n-preserved
loop-n-preserved c =
    let same : c.as_slice-net.result.now ≡ net_at c.args.nets.now c.loop-n.n = c.as_slice-net.ensures ∙ get_or_read c.args.nets.now c.loop-n.n c.index-nets-n.result (omega arith) c.index-nets-n.is [] in
    let row : c.as_slice-names.result.now ≡ marks_at c.args.marks.now c.loop-n.n = c.as_slice-names.ensures ∙ get_or_read c.args.marks.now c.loop-n.n c.index-marks-n.result (omega arith) c.index-marks-n.is [] in
    elim c.if-names-gt1.branch [
      | then-names-gt1+in_ok-push_short w ↦ rw w.shorts-is (shorted_more c.args.nets.now c.args.marks.now c.args.homes.now c.loop-n.n c.loop-n.shorts w.push_short.new.shorts c.as_slice-net.result.now c.as_slice-names.result.now c.loop-n-test.true c.requires.long same row c.loop-n.invariant w.in_ok-push_short.ensures.outlines w.in_ok-push_short.ensures.branches)
      | else-names-gt1 w ↦ rw w.shorts-is (shorted_skip c.args.nets.now c.args.marks.now c.args.homes.now c.loop-n.n c.loop-n.shorts c.as_slice-names.result.now c.loop-n-test.true c.requires.long row (omega arith) c.loop-n.invariant)
    ]

pub returns-clause-outlines : goal.returns-clause-outlines
returns-clause-outlines c = λ names lines given.
    shorted_all c.args.nets.now c.args.marks.now c.args.homes.now c.loop-n.n c.loop-n.shorts names lines c.loop-n-test.false c.loop-n.invariant given

pub returns-clause-branches : goal.returns-clause-branches
returns-clause-branches c = λ lines firsts. c.loop-n.invariant.branches lines firsts
