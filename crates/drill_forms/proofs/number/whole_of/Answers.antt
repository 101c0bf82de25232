use Rattle.std.proofs.Common.{◌≡◌, ◌++◌, ℕ, List, length, ap, sym, ◌∙◌, arith}
use Rattle.std.specs.Str.Parse.{digits_value, digits_value_after}
use Rattle.lengths.specs.Decimal.{front, back}
use Rattle.lengths.proofs.Digits.{both_fit, eighteen_fit, digits_value_after-append}
use Rattle.drill_forms.proofs.Pointed.{are_digits}
use Rattle.drill_forms.proofs.number.whole_of.Goals as goal

-- equal parts make equal wholes
ap2 : {a b c d : List ℕ} → a ≡ b → c ≡ d → a ++ c ≡ b ++ d
ap2 p q = cc

pub digits_value-before-requires-clause-fits : goal.digits_value-before-requires-clause-fits
digits_value-before-requires-clause-fits c =
    let few = (are_digits (front c.args.body.now) (back c.args.body.now) c.requires).few in
    let before = ap length c.before_byte.ensures in
    eighteen_fit (length c.before_byte.result.now) (omega (arith, few, before))

pub digits_value-requires-clause-fits : goal.digits_value-requires-clause-fits
digits_value-requires-clause-fits c =
    let few = (are_digits (front c.args.body.now) (back c.args.body.now) c.requires).few in
    let before = ap length c.before_byte.ensures in
    let behind = ap length c.after_byte.ensures in
    both_fit _ (length c.before_byte.result.now) _ c.digits_value-before.ensures.bound (omega (arith, few, before, behind))

pub returns-clause-value : goal.returns-clause-value
returns-clause-value c =
    let F : List ℕ = c.before_byte.result.now in
    let B : List ℕ = c.after_byte.result.now in
    c.digits_value.ensures.value ∙ ap (λ (n : ℕ). digits_value_after 10 n B) c.digits_value-before.ensures.value ∙ sym (digits_value_after-append 10 0 F B) ∙ ap (digits_value 10) (ap2 c.before_byte.ensures c.after_byte.ensures)

pub returns-clause-bound : goal.returns-clause-bound
returns-clause-bound c =
    let few = (are_digits (front c.args.body.now) (back c.args.body.now) c.requires).few in
    let before = ap length c.before_byte.ensures in
    let behind = ap length c.after_byte.ensures in
    let fits = both_fit _ (length c.before_byte.result.now) (length c.after_byte.result.now) c.digits_value-before.ensures.bound (omega (arith, few, before, behind)) in
    let small = c.digits_value.ensures.bound in
    omega (arith, fits, small)
