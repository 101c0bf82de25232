use Rattle.std.proofs.Common.{◌≡◌, ℕ, true, take, sym, ap, ◌∙◌, subst, arith}
use Rattle.std.specs.List.{list_all, prefix_len}
use Rattle.texts.specs.Digits.{is_decimal_digit}
use Rattle.texts.proofs.Runs.{run_further, run_passes}
use Rattle.texts.proofs.parts.digits_len.Goals as goal

pub returns-then-are_digits-clause-value : goal.returns-then-are_digits-clause-value
returns-then-are_digits-clause-value c =
    let front = c.in-Some.ensures.cases.0 in
    let behind = c.in-Some.ensures.cases.1 in
    let are : list_all is_decimal_digit (take 8 c.args.text.now) ≡ true = ap (list_all is_decimal_digit) (sym front) ∙ sym c.are_digits.ensures ∙ c.if-are_digits.true in
    let further = run_further 8 is_decimal_digit c.args.text.now (omega (arith, c.in-Some.ensures.cases.2)) are in
    omega (arith, further, c.run_len.ensures.value ∙ ap (prefix_len is_decimal_digit) behind)

pub returns-then-are_digits-clause-digits : goal.returns-then-are_digits-clause-digits
returns-then-are_digits-clause-digits c =
    subst (λ (n : ℕ). list_all is_decimal_digit (take n c.args.text.now) ≡ true) (sym (returns-then-are_digits-clause-value c)) (run_passes is_decimal_digit c.args.text.now)
