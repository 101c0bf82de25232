use Rattle.std.proofs.Common.{◌≡◌, ◌∙◌, Ok, ap, decimal, rules, sym}
use Rattle.std.proofs.lemmas.Fmt.{parse-decimal}
use Rattle.boardnet.proofs.words.number_of.Goals as goal

pub returns-in_default-clause-none : goal.returns-in_default-clause-none
returns-in_default-clause-none c = λ n small e.
    let parsed : c.parse.result ≡ Ok n = parse-decimal 64 n c.args.text.now c.parse.result small small e c.parse.ensures.value.0 in
    absurd (cc (parsed, c.in_default.is))

pub returns-else-eq-clause-none : goal.returns-else-eq-clause-none
returns-else-eq-clause-none c = λ n small e.
    let parsed : c.parse.result ≡ Ok n = parse-decimal 64 n c.args.text.now c.parse.result small small e c.parse.ensures.value.0 in
    let number : c.in-Ok.number ≡ n = cc (parsed, c.in-Ok.is) in
    let same : c.as_bytes.result.now ≡ c.as_bytes-2.result.now = c.as_bytes.ensures ∙ (c.of.ensures ∙ (ap decimal number ∙ (sym e ∙ sym c.as_bytes-2.ensures.value))) in
    search (rules, same)
