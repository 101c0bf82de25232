use Rattle.std.proofs.Common.{ap, ◌∙◌, sym, arith}
use Rattle.std.proofs.lemmas.Fmt.{decimal_digit}
use Rattle.texts.specs.Words.{is_word}
use Rattle.xnc.proofs.Numbers.{two_digits}
use Rattle.xnc.proofs.drill_lines.is_number.Goals as goal

pub returns-then-number-lt10 : goal.returns-then-number-lt10
returns-then-number-lt10 c = c.is_word.ensures ∙ ap (is_word c.args.text.now) (sym (decimal_digit c.args.number (omega arith)))

pub returns-else-number-lt10 : goal.returns-else-number-lt10
returns-else-number-lt10 c = c.is_word-else-number-lt10.ensures ∙ ap (is_word c.args.text.now) (sym (two_digits c.args.number (omega arith) (omega arith)))
