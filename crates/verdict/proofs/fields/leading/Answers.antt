use Rattle.verdict.proofs.Steps.{run_in_front}
use Rattle.verdict.proofs.fields.leading.Goals as goal

pub returns-then-len-lt-FRONT : goal.returns-then-len-lt-FRONT
returns-then-len-lt-FRONT c = run_in_front c.args.bytes.now 11 c.run-len.result.0 c.run-len.result.1 c.if-len-lt-FRONT.true c.run-len.ensures
