use Rattle.std.proofs.Common.{◌≡◌, ◌∙◌, false, true, ap, ◌+◌, ◌-◌, rules, sym}
use Rattle.aperture_macros.specs.Expression as spec
use Rattle.aperture_macros.proofs.Steps.{sum_bad, sum_more}
use Rattle.aperture_macros.proofs.expression.is_sum.Goals as goal

pub returns-then-not-is_term : goal.returns-then-not-is_term
returns-then-not-is_term c =
    let full : spec.is_empty c.loop.rest.now ≡ false = search rules in
    let one : spec.is_term (spec.first_term c.loop.rest.now) ≡ false = ap spec.is_term (sym c.first_term-one.ensures) ∙ (sym c.is_term.ensures ∙ c.if-not-is_term.true) in
    sym (sum_bad c.args.most c.loop.counter c.loop.rest.now c.loop-test.true full one) ∙ c.loop.invariant

pub loop-preserved : goal.loop-preserved
loop-preserved c =
    let full : spec.is_empty c.loop.rest.now ≡ false = search rules in
    let one : spec.is_term (spec.first_term c.loop.rest.now) ≡ true = ap spec.is_term (sym c.first_term-one.ensures) ∙ sym c.if-not-is_term.ensures in
    ap (λ x. spec.is_sum (c.args.most - (c.loop.counter + 1)) x) c.further_terms-rest.ensures ∙ (sym (sum_more c.args.most c.loop.counter c.loop.rest.now c.loop-test.true full one) ∙ c.loop.invariant)
