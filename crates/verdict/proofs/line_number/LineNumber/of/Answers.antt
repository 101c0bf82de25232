use Rattle.std.proofs.Common.{◌≡◌, ◌∙◌, ◌<◌, ap, arith, decimal, length, sym}
use Rattle.std.proofs.lemmas.Fmt.{decimal_nonempty}
use Rattle.verdict.specs.LineNumbers.{worth}
use Rattle.verdict.proofs.LineNumbers.{mask_is}
use Rattle.verdict.proofs.line_number.LineNumber.of.Goals as goal

pub invariant_of-result-2 : goal.invariant_of-result-2
invariant_of-result-2 c =
    let same : c.as_bytes-digits.result.now ≡ decimal c.args.number = c.as_bytes-digits.ensures ∙ c.of-text.ensures in
    let some : 0 < length (decimal c.args.number) = decimal_nonempty c.args.number c.ranges.number.fits in
    let long : length c.as_bytes-digits.result.now ≡ length (decimal c.args.number) = ap length same in
    record {
      spelled = λ _. sym (c.word_of.ensures ∙ ap worth same);
      long = λ _. sym long;
      unknown = λ none. absurd (omega (arith, none, some, long));
      masks = mask_is (length c.as_bytes-digits.result.now) (omega arith);
      few = omega arith;
      fits = c.ranges.number.fits;
      known = λ _. omega (arith, some, long);
      last = omega arith;
    }
