use Rattle.std.proofs.Common.{◌≡◌, ◌≢◌, ◌-◌, ◌≤◌, List, ℕ, length, take, drop, sym, ap, ◌∙◌, subst, arith}
use Rattle.std.proofs.lemmas.Bool.{eqb-true, eqb-false}
use Rattle.std.proofs.lemmas.List.{take_all, length-drop}
use Rattle.ipc356_records.proofs.WordLemmas.{Next, first_word, no_word}
use Rattle.ipc356_records.proofs.blanks.next_word.Goals as goal

pub returns-then-is_empty : goal.returns-then-is_empty
returns-then-is_empty c =
    no_word c.args.text.now (ap length (sym c.without_front-text.ensures) ∙ eqb-true _ _ (sym c.is_empty.ensures ∙ c.if-is_empty.true))

pub returns : goal.returns
returns c =
    let behind : List ℕ = c.without_front-text.result.now in
    let some : length behind ≢ 0 = eqb-false _ _ (sym c.is_empty.ensures ∙ c.if-is_empty.false) in
    let next = first_word c.args.text.now (subst (λ (xs : List ℕ). 1 ≤ length xs) c.without_front-text.ensures (omega arith)) in
    let at : Next c.args.text.now behind = subst (Next c.args.text.now) (sym c.without_front-text.ensures) next in
    let all : take (length behind - c.run_len-len.result) (drop c.run_len-len.result behind) ≡ drop c.run_len-len.result behind = take_all (length behind - c.run_len-len.result) (drop c.run_len-len.result behind) (omega (arith, length-drop c.run_len-len.result behind)) in
    rw (all, c.run_len-len.ensures.value) at
