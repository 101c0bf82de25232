use Rattle.std.proofs.Common.{◌≡◌, ◌∙◌, ◌-◌, false, true, ap, arith, rules, sym, ℤ, ◌+ℤ◌, to_z, of_z, w64}
use Rattle.std.proofs.lemmas.Result.{err_from_is_err_and}
use Rattle.aperture_macros.specs.Expression.{is_empty}
use Rattle.aperture_macros.specs.Values.{term_at}
use Rattle.aperture_macros.proofs.Steps.{value_bad, value_end, value_more, value_over}
use Rattle.aperture_macros.proofs.Turns.{sum_high, sum_low, sum_read}
use Rattle.aperture_macros.specs.declared.expression.TheConstants.{MOST_TERMS}
use Rattle.aperture_macros.proofs.values.sum.Goals as goal

pub returns-then-is_empty : goal.returns-then-is_empty
returns-then-is_empty c =
    let none : is_empty c.loop.rest.now ≡ true = search rules in
    sym (value_end (MOST_TERMS - c.loop.counter) (to_z w64 c.loop.sum-bits) c.loop.rest.now c.args.parameters.now c.args.unit none) ∙ c.loop.invariant.same

pub returns-in_err-sum : goal.returns-in_err-sum
returns-in_err-sum c =
    let p = err_from_is_err_and c.from_residual.result c.from_residual.ensures.1 in
    let full : is_empty c.loop.rest.now ≡ false = search rules in
    let one = ap (λ x. term_at x c.args.parameters.now c.args.unit) (sym c.first_term-one.ensures) ∙ sym c.in_err-sum.ensures.value in
    rw (p.1, p.2) (sym (value_bad MOST_TERMS c.loop.counter (to_z w64 c.loop.sum-bits) c.in_err-sum.field-0.0 c.loop.rest.now c.args.parameters.now c.args.unit c.loop-test.true full one) ∙ c.loop.invariant.same)

pub loop-preserved : goal.loop-preserved
loop-preserved c =
    let s : ℤ = to_z w64 c.loop.sum-bits in
    let u : ℤ = c.in_ok-sum.field-0 in
    let full : is_empty c.loop.rest.now ≡ false = search rules in
    let one = ap (λ x. term_at x c.args.parameters.now c.args.unit) (sym c.first_term-one.ensures) ∙ sym c.in_ok-sum.ensures.value in
    let i = c.loop.invariant in
    let read : to_z w64 (of_z w64 (s +ℤ to_z w64 (of_z w64 u))) ≡ s +ℤ u = sum_read s u c.loop.counter i.low i.high c.loop-test.true c.in_ok-sum.ensures.reached in
    let more = sym (value_more MOST_TERMS c.loop.counter s u c.loop.rest.now c.args.parameters.now c.args.unit c.loop-test.true full one) ∙ i.same in
    rw (read, c.further_terms-rest.ensures) (record {
      same = more;
      low = sum_low s u c.loop.counter i.low c.in_ok-sum.ensures.reached;
      high = sum_high s u c.loop.counter i.high c.in_ok-sum.ensures.reached;
    })

pub returns-then-is_empty-2 : goal.returns-then-is_empty-2
returns-then-is_empty-2 c =
    let none : is_empty c.loop.rest.now ≡ true = search rules in
    sym (value_end (MOST_TERMS - c.loop.counter) (to_z w64 c.loop.sum-bits) c.loop.rest.now c.args.parameters.now c.args.unit none) ∙ c.loop.invariant.same

pub returns-else-is_empty-2 : goal.returns-else-is_empty-2
returns-else-is_empty-2 c =
    let full : is_empty c.loop.rest.now ≡ false = search rules in
    let end : MOST_TERMS - c.loop.counter ≡ 0 = omega arith in
    sym (value_over (to_z w64 c.loop.sum-bits) c.loop.rest.now c.args.parameters.now c.args.unit full) ∙ (rw end at c.loop.invariant.same)
