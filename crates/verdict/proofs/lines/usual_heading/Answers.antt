use Rattle.verdict.proofs.Usual.{front_reads}
use Rattle.verdict.proofs.lines.usual_heading.Goals as goal

pub returns : goal.returns
returns c title is = front_reads c.args.front.now title c.args.bytes.now c.in_ok-behind_front.behind_front.now c.in_ok-rest.rest.now c.args.line.number is c.in_ok-behind_front.ensures c.in_ok-rest.ensures
