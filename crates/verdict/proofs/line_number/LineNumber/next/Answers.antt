use Rattle.std.proofs.Common.{◌%◌, ◌<◌, arith}
use Rattle.verdict.proofs.LineNumbers.{stepped, word_fits}
use Rattle.verdict.proofs.line_number.LineNumber.next.Goals as goal

pub overflow_add-result-2 : goal.overflow_add-result-2
overflow_add-result-2 c =
    let line = c.args.self in
    let some : 0 < line.len = line.known (omega arith) in
    let small = word_fits line.number line.len line.word line.mask line.fits line.few (line.long some) (line.spelled some) line.masks in
    omega (arith, small)

pub overflow_add-result-3 : goal.overflow_add-result-3
overflow_add-result-3 c =
    let line = c.args.self in
    let some : 0 < line.len = line.known (omega arith) in
    let small = word_fits line.number line.len line.word line.mask line.fits line.few (line.long some) (line.spelled some) line.masks in
    omega (arith, small)

pub invariant_of-result : goal.invariant_of-result
invariant_of-result c =
    let line = c.args.self in
    let some : 0 < line.len = line.known (omega arith) in
    let low : line.number % 10 < 9 = omega (arith, line.last) in
    let next = stepped line.number line.len line.word line.mask c.requires low some (line.long some) (line.spelled some) line.masks in
    record {
      spelled = λ _. next.0;
      long = λ _. next.1;
      unknown = λ none. absurd (omega (arith, none, some));
      masks = line.masks;
      few = line.few;
      fits = c.requires;
      known = λ _. some;
      last = omega (arith, line.last);
    }
