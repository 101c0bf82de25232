use Rattle.std.proofs.Common.{◌≡◌, ◌<◌, ◌^◌, arith, false, rules, sym}
use Rattle.texts.specs.Digits.{is_decimal_digit}
use Rattle.verdict.specs.ReportReading.{starts}
use Rattle.verdict.proofs.Usual.{next_reads}
use Rattle.verdict.proofs.fields.next_word.Goals as goal

pub returns : goal.returns
returns c =
    let none : starts is_decimal_digit c.in_ok-rest.rest.now ≡ false = search rules in
    let next = c.next-next.ensures in
    let small : c.next-next.result.number < 2 ^ 32 = omega (arith, next) in
    next_reads c.args.bytes.now c.in_ok-digits.digits.now c.in_ok-rest.rest.now c.next-next.result.number (sym c.in_ok-digits.ensures) c.in_ok-rest.ensures none small
