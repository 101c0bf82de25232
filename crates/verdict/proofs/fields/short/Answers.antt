use Rattle.std.proofs.Common.{sym}
use Rattle.std.proofs.lemmas.Option.{IfSome_then}
use Rattle.verdict.proofs.Steps.{word_reads}
use Rattle.verdict.proofs.fields.short.Goals as goal

pub returns-in-Some : goal.returns-in-Some
returns-in-Some c = IfSome_then c.one_digit.result c.one_digit.ensures (λ x h. (h.0, word_reads c.args.bytes.now c.in-Some.rest.now (x.0, x.1.now) (sym c.in-Some.ensures) h.1))
