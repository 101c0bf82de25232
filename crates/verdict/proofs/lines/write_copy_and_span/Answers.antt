use Rattle.std.proofs.Common.{◌≡◌, ℕ, ◌+◌, ◌<◌, List, [], ◌∷◌, ◌++◌, refl, sym, ap, ◌∙◌}
use Rattle.std.proofs.lemmas.Fmt.{decimal_digit}
use Rattle.std.proofs.lemmas.Result.{on_ok_weaker}
use Rattle.verdict.specs.ReportText.{end, word}
use Rattle.verdict.proofs.lines.write_copy_and_span.Goals as goal

-- numbers of one digit
three : (a b c : ℕ) → a < 10 → b < 10 → c < 10 → word a ++ word b ++ word c ++ end ≡ 32 ∷ (48 + a) ∷ 32 ∷ (48 + b) ∷ 32 ∷ (48 + c) ∷ 10 ∷ []
three a b c p q r = rw (decimal_digit a p, decimal_digit b q, decimal_digit c r) refl

put_three : (a b c : ℕ) (start after : List ℕ) → a < 10 → b < 10 → c < 10 → after ≡ start ++ (32 ∷ (48 + a) ∷ 32 ∷ (48 + b) ∷ 32 ∷ (48 + c) ∷ 10 ∷ []) → after ≡ start ++ (word a ++ word b ++ word c ++ end)
put_three a b c start after p q r is = is ∙ ap (λ (t : List ℕ). start ++ t) (sym (three a b c p q r))

pub returns-then-bottom-lt10-clause-written : goal.returns-then-bottom-lt10-clause-written
returns-then-bottom-lt10-clause-written c = on_ok_weaker c.put.result (put_three c.args.source.now.copy c.args.source.now.top c.args.source.now.bottom c.args.out.now.items _ c.if-copy-lt10.true c.if-top-lt10.true c.if-bottom-lt10.true) c.put.ensures
