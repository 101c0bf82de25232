use Rattle.std.proofs.Common.{◌≡◌, ◌∙◌, ◌+◌, ◌-◌, ap, arith, sym}
use Rattle.std.proofs.lemmas.Result.{err_from_is_err_and}
use Rattle.aperture_macros.specs.Outlines.{last_from}
use Rattle.aperture_macros.proofs.Steps.{last_bad, last_more, last_none}
use Rattle.aperture_macros.proofs.outline.Outline.last_point.Goals as goal

pub returns-in_err-last : goal.returns-in_err-last
returns-in_err-last c =
    let p = err_from_is_err_and c.from_residual.result c.from_residual.ensures.1 in
    rw (p.1, p.2) (sym (last_bad c.args.self.now.edges c.loop.counter c.loop.last c.in_err-last.field-0.0 c.loop.rest.now c.args.self.now.parameters.now c.args.self.now.unit c.loop-test.true (sym c.in_err-last.ensures.value)) ∙ c.loop.invariant)

pub loop-preserved : goal.loop-preserved
loop-preserved c =
    ap (λ x. last_from c.in_ok-last.last (c.args.self.now.edges - (c.loop.counter + 1)) x c.args.self.now.parameters.now c.args.self.now.unit) c.past-rest-in-loop.ensures ∙ (sym (last_more c.args.self.now.edges c.loop.counter c.loop.last c.in_ok-last.last c.loop.rest.now c.args.self.now.parameters.now c.args.self.now.unit c.loop-test.true (sym c.in_ok-last.ensures.value)) ∙ c.loop.invariant)

pub returns : goal.returns
returns c =
    let end : c.args.self.now.edges - c.loop.counter ≡ 0 = omega arith in
    sym (last_none c.loop.last c.loop.rest.now c.args.self.now.parameters.now c.args.self.now.unit) ∙ (rw end at c.loop.invariant)
