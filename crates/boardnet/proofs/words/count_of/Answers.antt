use Rattle.std.proofs.Common.{◌≡◌, ◌<◌, ◌∙◌, arith, rules, sym}
use Rattle.std.proofs.lemmas.Fmt.{decimal_injective}
use Rattle.boardnet.proofs.words.count_of.Goals as goal

pub returns-in-Err-clause-none : goal.returns-in-Err-clause-none
returns-in-Err-clause-none c = λ n small e.
    let same : c.in_ok-number_of.field-0 ≡ n = decimal_injective _ _ c.in_ok-number_of.ensures.small (omega (arith, small)) (sym c.in_ok-number_of.ensures.some ∙ e) in
    let fits : c.in_ok-number_of.field-0 < 4294967296 = omega (arith, same, small) in
    search (rules, fits)
