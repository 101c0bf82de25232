use Rattle.std.proofs.Common.{◌≡◌, ◌∙◌, ◌+◌, ◌*◌, ◌^◌, ◌<◌, ◌%◌, ℕ, List, ap, arith, get_or, length, subst, sym, take, true}
use Rattle.std.specs.List.{list_all}
use Rattle.std.specs.Str.Parse.{digits_value}
use Rattle.std.proofs.Math.Nat.{mod-eq_of_lt}
use Rattle.std.specs.Char.{is_digit}
use Rattle.lengths.proofs.Digits.{digit_of, digits_more, digits_value_after-more, eighteen_fit, room}
use Rattle.texts.proofs.Runs.{prefix_len_at}
use Rattle.texts.specs.Digits.{is_decimal_digit}
use Rattle.verdict.proofs.fields.run.Goals as goal

pub returns-then-digit-ge10 : goal.returns-then-digit-ge10
returns-then-digit-ge10 c = record {
  long = sym (prefix_len_at is_decimal_digit c.args.bytes.now c.loop-i.i c.loop-i.invariant.0 (omega arith) (λ below. c.above_zero-digit.ensures.other c.if-digit-ge10.true));
  within = omega arith;
  digits = c.loop-i.invariant.0;
  worth = λ few. (c.loop-i.invariant.1 few).0;
  small = λ few. let fits = eighteen_fit c.loop-i.i few in omega (arith, fits, (c.loop-i.invariant.1 few).1);
}

pub loop-i-preserved : goal.loop-i-preserved
loop-i-preserved c =
    let i : ℕ = c.loop-i.i in
    let xs : List ℕ = c.args.bytes.now in
    let small : c.above_zero-digit.result < 10 = omega (arith, c.if-digit-ge10.false) in
    let one : is_digit (get_or xs i 0) 10 ≡ true = c.above_zero-digit.ensures.digit small in (
      digits_more xs i c.loop-i-test.true c.loop-i.invariant.0 one,
      λ few.
          let was = c.loop-i.invariant.1 (omega arith) in
          let h = room 0 i 18 c.loop-i.value (omega arith) (eighteen_fit 18 (omega arith)) was.1 in
          let d = digit_of (get_or xs i 0) one in
          let from = c.above_zero-digit.ensures.value small in
          let short : c.loop-i.value * 10 + c.above_zero-digit.result < 2 ^ 64 = omega (arith, h, d, from) in
          let whole : c.loop-i.value * 10 % 2 ^ 64 ≡ c.loop-i.value * 10 = mod-eq_of_lt (omega (arith, short)) in
          let kept : (c.loop-i.value * 10 % 2 ^ 64 + c.above_zero-digit.result) % 2 ^ 64 ≡ c.loop-i.value * 10 + c.above_zero-digit.result = ap (λ (n : ℕ). (n + c.above_zero-digit.result) % 2 ^ 64) whole ∙ mod-eq_of_lt short in
          let more = digits_value_after-more 10 0 xs i c.loop-i-test.true in
          (kept ∙ omega (arith, more, d, was.0, from), omega (arith, h, d, from, kept)),
    )

pub returns : goal.returns
returns c =
    let xs : List ℕ = c.args.bytes.now in
    let end : c.loop-i.i ≡ length xs = omega arith in
    let digits : list_all is_decimal_digit (take (length xs) xs) ≡ true = rw end at c.loop-i.invariant.0 in
    record {
      long = sym (prefix_len_at is_decimal_digit xs (length xs) digits (omega arith) (λ below. absurd (omega arith)));
      within = omega arith;
      digits = digits;
      worth = λ few. subst (λ (k : ℕ). c.loop-i.value ≡ digits_value 10 (take k xs)) end (c.loop-i.invariant.1 (omega (arith, few, end))).0;
      small = λ few. let fits = eighteen_fit c.loop-i.i (omega (arith, few, end)) in omega (arith, fits, (c.loop-i.invariant.1 (omega (arith, few, end))).1);
    }
