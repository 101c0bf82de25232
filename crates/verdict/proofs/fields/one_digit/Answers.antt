use Rattle.std.proofs.Common.{◌∙◌, sym}
use Rattle.verdict.proofs.Steps.{value_reads}
use Rattle.verdict.proofs.fields.one_digit.Goals as goal

pub returns : goal.returns
returns c = value_reads c.args.bytes.now c.in-Some.rest.now c.in-Some.digit.now c.in_ok-value.value c.in-Some.ensures.cases.0 c.in_ok-value.ensures.some.0 c.in_ok-value.ensures.some.1 (sym c.begins_digit.ensures ∙ c.if-begins_digit.false)
