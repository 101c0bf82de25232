use Rattle.std.proofs.Common.{◌≡◌, ◌+◌, ◌∙◌, ap, subst, ℕ, Some}
use Rattle.std.proofs.lemmas.Result.{err_from_is_err_and}
use Rattle.verdict.specs.ReportReading.{Fails, items_at}
use Rattle.verdict.proofs.ReadLists.{items_go_on, items_end, items_done}
use Rattle.verdict.proofs.lines.items.Goals as goal

pub returns-in_err-item : goal.returns-in_err-item
returns-in_err-item g c =
    let p = err_from_is_err_and c.from_residual-in_err-item.result c.from_residual-in_err-item.ensures.1 in
    let fails = subst (λ (n : ℕ). Fails c.in_err-item.field-0.0 (g.T.Line.at n c.loop.rest.now)) c.loop.invariant.1 c.in_err-item.ensures in
    rw (p.1, p.2) (items_end g.T.Line.at c.in_err-item.field-0.0 c.loop.items c.args.count c.loop.counter c.loop.rest.now (items_at g.T.Line.at c.args.count 0 c.args.bytes.now) c.loop-test.true fails c.loop.invariant.0)

pub loop-preserved : goal.loop-preserved
loop-preserved g c =
    let read = subst (λ (n : ℕ). g.T.Line.at n c.loop.rest.now ≡ Some (c.in_ok-item.item, c.in_ok-item.behind.now)) c.loop.invariant.1 c.in_ok-item.ensures in (
      rw c.in_ok-push.ensures.ok (items_go_on g.T.Line.at c.loop.items c.args.count c.loop.counter c.loop.rest.now c.in_ok-item.item c.in_ok-item.behind.now (items_at g.T.Line.at c.args.count 0 c.args.bytes.now) c.loop-test.true read c.loop.invariant.0),
      c.next-line.ensures ∙ ap (λ (n : ℕ). n + 1) c.loop.invariant.1,
    )

pub returns : goal.returns
returns g c = items_done g.T.Line.at c.loop.items c.args.count c.loop.counter c.loop.rest.now (items_at g.T.Line.at c.args.count 0 c.args.bytes.now) c.loop-test.false c.loop.invariant.0
