use Rattle.std.proofs.lemmas.Result.{on_ok_weaker}
use Rattle.texts.proofs.LastDigits.{put_digit}
use Rattle.texts.proofs.writing.+put_last_digits.Goals as goal

pub returns : goal.returns
returns t c = on_ok_weaker c.put.result (put_digit c.args.count c.args.n c.args.text.now.items _ _ c.if-count-eq0.false c.in_ok-put_last_digits.ensures) c.put.ensures
