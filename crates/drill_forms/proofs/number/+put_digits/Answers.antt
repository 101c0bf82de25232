use Rattle.drill_forms.proofs.Pointed.{put_step}
use Rattle.std.proofs.Common.{arith}
use Rattle.drill_forms.proofs.number.+put_digits.Goals as goal

pub returns-then-count-gt0-clause-put : goal.returns-then-count-gt0-clause-put
returns-then-count-gt0-clause-put t c =
    let some = c.if-count-gt0.true in
    let inside = c.requires.inside in
    put_step c.args.to c.args.count c.args.n c.args.text.now c.put_digits.new.text (omega (arith, some)) c.requires.few (omega (arith, inside)) c.put_digits.ensures.put
