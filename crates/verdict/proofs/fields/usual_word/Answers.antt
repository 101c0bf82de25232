use Rattle.std.proofs.Common.{sym}
use Rattle.std.proofs.lemmas.Option.{IfSome_then}
use Rattle.verdict.proofs.Steps.{word_reads}
use Rattle.verdict.proofs.fields.usual_word.Goals as goal

pub returns-in-Some : goal.returns-in-Some
returns-in-Some c = IfSome_then c.usual_number.result c.usual_number.ensures (λ x h. word_reads c.args.bytes.now c.in-Some.rest.now (x.0, x.1.now) (sym c.in-Some.ensures) h)
