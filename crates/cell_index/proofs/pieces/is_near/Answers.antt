use Rattle.std.proofs.Common.{◌≡◌, ◌≢◌, Some, sym, ap, ◌∙◌, slice_get, arith}
use Rattle.std.proofs.lemmas.Option.{slice_get-get_or}
use Rattle.cell_index.proofs.Pairs.{near_there, near_back, ticks_of}
use Rattle.cell_index.proofs.pieces.is_near.Goals as goal

pub returns-clause-near : goal.returns-clause-near
returns-clause-near g c =
    let here : slice_get c.args.items.now c.args.p ≡ Some c.index-items-p.result = slice_get-get_or c.args.items.now c.args.p c.index-items-p.result c.requires.first ∙ ap (λ x. Some x) (sym c.index-items-p.is) in
    let there : slice_get c.args.items.now c.args.q ≡ Some c.index-items-q.result = slice_get-get_or c.args.items.now c.args.q c.index-items-q.result c.requires.second ∙ ap (λ x. Some x) (sym c.index-items-q.is) in
    let other : c.args.p ≢ c.args.q = λ e. c.if-q-p.false (sym e) in (
      λ h. near_there g.S.Closed.holds c.args.items.now c.args.p c.args.q c.index-items-p.result c.index-items-q.result here there other (c.touches.ensures.touch.0 h),
      λ n. c.touches.ensures.touch.1 (near_back g.S.Closed.holds c.args.items.now c.args.p c.args.q c.index-items-p.result c.index-items-q.result here there n),
    )

pub returns-clause-ticks : goal.returns-clause-ticks
returns-clause-ticks g c =
    let here : slice_get c.args.items.now c.args.p ≡ Some c.index-items-p.result = slice_get-get_or c.args.items.now c.args.p c.index-items-p.result c.requires.first ∙ ap (λ x. Some x) (sym c.index-items-p.is) in
    let there : slice_get c.args.items.now c.args.q ≡ Some c.index-items-q.result = slice_get-get_or c.args.items.now c.args.q c.index-items-q.result c.requires.second ∙ ap (λ x. Some x) (sym c.index-items-q.is) in
    ticks_of g.S.Closed.extent c.args.items.now c.args.p c.args.q c.index-items-p.result c.index-items-q.result c.args.tests.now c.touches.new.tests here there (λ e. c.if-q-p.false (sym e)) c.touches.ensures.one_test c.touches.ensures.none_apart c.touches.ensures.none_away

pub returns-then-q-p-clause-near : goal.returns-then-q-p-clause-near
returns-then-q-p-clause-near g c = (λ t. (let f = t in absurd cc), λ n. absurd (n.other (sym c.if-q-p.true)))

pub returns-then-q-p-clause-ticks : goal.returns-then-q-p-clause-ticks
returns-then-q-p-clause-ticks g c = omega arith
