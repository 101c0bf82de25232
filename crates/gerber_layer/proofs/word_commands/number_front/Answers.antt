use Rattle.std.proofs.Common.{◌∙◌, sym, rules}
use Rattle.gerber_layer.proofs.NumberFront.{front_by}
use Rattle.gerber_layer.proofs.word_commands.number_front.Goals as goal

pub returns-clause-len : goal.returns-clause-len
returns-clause-len c = (front_by c.args.text.now c.unsigned-body.result.now c.behind.result.now c.digits_len-digits.result c.is_signed.result c.unsigned-body.ensures c.digits_len-digits.ensures.value c.behind.ensures c.is_signed.ensures (search rules)).long

pub returns-clause-number : goal.returns-clause-number
returns-clause-number c =
    let front = front_by c.args.text.now c.unsigned-body.result.now c.behind.result.now c.digits_len-digits.result c.is_signed.result c.unsigned-body.ensures c.digits_len-digits.ensures.value c.behind.ensures c.is_signed.ensures (search rules) in
    c.are_few.ensures ∙ (rw (sym c.digits_len-digits.ensures.value) at front.number)
