use Rattle.std.proofs.Common.{◌%◌, ◌+◌, ◌<◌, ◌^◌, ◌≡◌, ◌≤◌, arith}
use Rattle.verdict.specs.declared.line_number.LineNumber.{LineNumber}
use Rattle.verdict.proofs.LineNumbers.{Carries, carries}
use Rattle.verdict.proofs.line_number.LineNumber.carried.Goals as goal

carry : (line : LineNumber) → line.number + 1 < 2 ^ 64 → 2 ≤ line.len → line.number % 10 ≡ 9 → (line.number % 100 ≡ 99 → ⊥) → Carries line.number line.len line.word line.mask
carry line small two nine low =
    let some : 0 < line.len = omega (arith, two) in
    carries line.number line.len line.word line.mask small nine (omega (arith, low)) two (line.long some) (line.spelled some) line.masks

pub overflow_sub-result : goal.overflow_sub-result
overflow_sub-result c = (carry c.args.self c.requires c.if-len-lt2.false c.if-number-ne9.false c.if-number-eq99.false).enough

pub invariant_of-result : goal.invariant_of-result
invariant_of-result c =
    let line = c.args.self in
    let next = carry line c.requires c.if-len-lt2.false c.if-number-ne9.false c.if-number-eq99.false in
    let two = c.if-len-lt2.false in
    let nine = c.if-number-ne9.false in
    record {
      spelled = λ _. next.spelled;
      long = λ _. next.long;
      unknown = λ none. absurd (omega (arith, none, two));
      masks = line.masks;
      few = line.few;
      fits = c.requires;
      known = λ _. omega (arith, two);
      last = omega (arith, nine);
    }
