use Rattle.std.proofs.Common.{◌≡◌, take, sym, ap, ◌∙◌, arith}
use Rattle.std.proofs.lemmas.Grind.{common_steps}
use Rattle.ipc356_records.specs.RecordLines.{digits_in, number_of}
use Rattle.ipc356_records.proofs.NumberLemmas.{filled-full, number_of-short}
use Rattle.ipc356_records.proofs.record_lines.number_of.Goals as goal

pub returns-then-text-width : goal.returns-then-text-width
returns-then-text-width c = record { value = sym (number_of-short c.args.width c.args.text.now c.if-text-width.true) }

pub returns-in-Some : goal.returns-in-Some
returns-in-Some c =
    let whole : take 6 c.without_front-digits.result.now ≡ c.without_front-digits.result.now = grind (arith, common_steps, c.without_front-digits.ensures) in
    record {
      value = c.digits_in.ensures ∙ ap digits_in (c.in-Some.ensures.cases.same ∙ whole ∙ c.without_front-digits.ensures) ∙ ap number_of (sym (filled-full c.args.width c.args.text.now c.if-text-width.false));
    }

pub returns-in-None : goal.returns-in-None
returns-in-None c = record {
  value = c.digits_in-in-None.ensures ∙ ap digits_in c.without_front-digits.ensures ∙ ap number_of (sym (filled-full c.args.width c.args.text.now c.if-text-width.false));
}
