use Rattle.std.proofs.Common.{arith}
use Rattle.std.proofs.lemmas.Result.{on_ok_weaker}
use Rattle.texts.proofs.Decimals.{put_front}
use Rattle.texts.proofs.writing.put_behind.Goals as goal

pub returns-then-front-lt100000 : goal.returns-then-front-lt100000
returns-then-front-lt100000 c = on_ok_weaker c.put_last_five.result (put_front c.args.byte c.args.n c.args.text.now.items _ _ c.ranges.n.fits (omega arith) c.in_ok-put_few.ensures) c.put_last_five.ensures
