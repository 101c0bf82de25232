use Rattle.std.proofs.Common.{arith, ap, length, sym, ◌∙◌}
use Rattle.std.proofs.lemmas.Bool.{eqb-false}
use Rattle.arc_covers.proofs.Counted.{all_more, both_takes, lines_next, longer, other_line, shorter}
use Rattle.arc_covers.proofs.counts.read_lines.Goals as goal

pub loop-rest-smaller : goal.loop-rest-smaller
loop-rest-smaller c = shorter c.loop-rest.rest.now c.in-Some.below c.in-Some.above c.in-Some.after.now (both_takes c.loop-rest.rest.now c.in-Some.below c.in-Some.above c.in-Some.after.now (sym c.in-Some.ensures)).0

pub loop-rest-preserved : goal.loop-rest-preserved
loop-rest-preserved c =
    let read = both_takes c.loop-rest.rest.now c.in-Some.below c.in-Some.above c.in-Some.after.now (sym c.in-Some.ensures) in
    let low = c.in_ok-push-in-Some.ensures.ok in
    let up = c.in_ok-push-in-Some-2.ensures.ok in
    let less = shorter c.loop-rest.rest.now c.in-Some.below c.in-Some.above c.in-Some.after.now read.0 in
    let lower = longer c.loop-rest.lower c.push.new.self c.in-Some.below low in
    let upper = longer c.loop-rest.upper c.push-in-Some.new.self c.in-Some.above up in
    let number = c.loop-rest.invariant.number in
    let room = c.loop-rest.invariant.room in
    let even = c.loop-rest.invariant.even in
    record {
      number = omega (arith, number, lower);
      room = omega (arith, room, less);
      even = omega (arith, even, lower, upper);
      below = all_more c.loop-rest.lower c.push.new.self c.in-Some.below low c.loop-rest.invariant.below read.1;
      above = all_more c.loop-rest.upper c.push-in-Some.new.self c.in-Some.above up c.loop-rest.invariant.above read.2;
      whole = lines_next c.args.lines.now c.loop-rest.lower c.loop-rest.upper c.loop-rest.rest.now c.push.new.self c.push-in-Some.new.self c.in-Some.below c.in-Some.above c.in-Some.after.now even low up read.0 c.loop-rest.invariant.whole;
    }

pub returns-in-None-clause-fault : goal.returns-in-None-clause-fault
returns-in-None-clause-fault c = other_line c.args.lines.now c.loop-rest.rest.now c.loop-rest.lower c.loop-rest.upper c.loop-rest.line c.loop-rest.invariant.number c.loop-rest.invariant.even c.loop-rest.invariant.below c.loop-rest.invariant.above c.loop-rest.invariant.whole
    (λ none. eqb-false _ _ (sym c.is_empty.ensures ∙ c.loop-rest-test.true) (ap length none)) (sym c.in-None.ensures)
