use Rattle.std.proofs.Common.{◌≡◌, sym, ◌∙◌, arith}
use Rattle.std.proofs.lemmas.Fmt.{decimal_injective}
use Rattle.boardnet.proofs.commands.gap.of_words.Goals as goal

pub returns-then-nanometres-gt-MOST_NANOMETRES-clause-none : goal.returns-then-nanometres-gt-MOST_NANOMETRES-clause-none
returns-then-nanometres-gt-MOST_NANOMETRES-clause-none c = λ text n spelled few.
    let small = c.in_ok-nanometres.ensures.small in
    let over = c.if-nanometres-gt-MOST_NANOMETRES.true in
    let same : n ≡ c.in_ok-nanometres.nanometres = decimal_injective n c.in_ok-nanometres.nanometres (omega (arith, few)) (omega (arith, small)) (sym spelled ∙ c.in_ok-nanometres.ensures.some) in
    omega (arith, few, over, same)
