use Rattle.verdict.proofs.Steps.{wide_from_run}
use Rattle.verdict.proofs.fields.usual_wide.Goals as goal

pub returns-then-bytes-gt48 : goal.returns-then-bytes-gt48
returns-then-bytes-gt48 c = wide_from_run c.args.bytes.now c.split_at.result.1.now c.leading-len.result.0 c.leading-len.result.1 c.leading-len.ensures c.if-len-ge2.true c.if-len-le18.true c.if-bytes-gt48.true c.split_at.ensures.back
