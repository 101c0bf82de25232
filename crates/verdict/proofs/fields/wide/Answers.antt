use Rattle.std.proofs.Common.{◌∙◌, sym}
use Rattle.verdict.proofs.Steps.{wide_is}
use Rattle.verdict.proofs.fields.wide.Goals as goal

pub returns-then-len-le18-clause-reads : goal.returns-then-len-le18-clause-reads
returns-then-len-le18-clause-reads c = wide_is c.args.bytes.now c.split_at.result.0.now c.split_at.result.1.now c.leading-len.result.0 c.leading-len.result.1 c.leading-len.ensures.long c.split_at.ensures.front c.split_at.ensures.back (sym c.is_numeral.ensures ∙ c.if-not-is_numeral.false) (c.leading-len.ensures.worth c.if-len-le18.true) (c.leading-len.ensures.small c.if-len-le18.true)
