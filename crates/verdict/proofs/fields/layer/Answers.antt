use Rattle.verdict.proofs.Steps.{layer_short}
use Rattle.verdict.proofs.fields.layer.Goals as goal

pub returns-in-Some : goal.returns-in-Some
returns-in-Some c = layer_short c.args.bytes.now c.in-Some.rest.now c.in-Some.n c.in-Some.ensures.0 c.in-Some.ensures.1
