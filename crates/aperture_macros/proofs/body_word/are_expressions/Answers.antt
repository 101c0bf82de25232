use Rattle.std.proofs.Common.{◌≡◌, ◌∙◌, ◌+◌, ◌-◌, true, ap, sym}
use Rattle.std.specs.List.{before_first}
use Rattle.aperture_macros.specs.Expression.{is_expression}
use Rattle.aperture_macros.specs.BodyWord as spec
use Rattle.aperture_macros.proofs.Steps.{expressions_more}
use Rattle.aperture_macros.proofs.body_word.are_expressions.Goals as goal

pub loop-preserved : goal.loop-preserved
loop-preserved c =
    let one : is_expression (before_first spec.is_comma c.loop.rest.now) ≡ true = ap is_expression (sym c.before_byte.ensures) ∙ sym c.if-not-is_expression.ensures in
    ap (λ x. spec.are_expressions (c.args.n - (c.loop.counter + 1)) x) c.after_byte-rest.ensures ∙ (sym (expressions_more c.args.n c.loop.counter c.loop.rest.now c.loop-test.true one) ∙ c.loop.invariant)
