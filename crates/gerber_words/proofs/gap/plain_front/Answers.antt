use Rattle.std.proofs.Common.{◌≡◌, ℕ, ap, ◌∙◌, subst, sym, take, drop, true, nat_lt, arith}
use Rattle.std.specs.List.{list_all}
use Rattle.gerber_words.proofs.Strides.{drop-further, over_from, plain_further, same_further}
use Rattle.gerber_words.proofs.gap.plain_front.Goals as goal

pub loop-front-preserved : goal.loop-front-preserved
loop-front-preserved c =
    let there = c.loop-front.invariant.there in
    let over = over_from c.args.bytes.now c.in-Some.front.now c.loop-front.len c.over_star-over.result (c.in-Some.ensures.cases.0 ∙ ap (take 16) there) c.over_star-over.ensures.value c.over_star-over.ensures.within in
    let whole : c.over_star-over.result ≡ 16 = omega arith in
    let all : list_all (nat_lt 42) (take 16 (drop c.loop-front.len c.args.bytes.now)) ≡ true = subst (λ (n : ℕ). list_all (nat_lt 42) (take n (drop c.loop-front.len c.args.bytes.now)) ≡ true) whole over in
    record {
      there = c.in-Some.ensures.cases.1 ∙ ap (drop 16) there ∙ sym (drop-further c.args.bytes.now c.loop-front.len 16);
      within = omega (arith, c.in-Some.ensures.cases.2, c.loop-front.invariant.within);
      plain = plain_further 16 c.loop-front.len c.args.bytes.now all c.loop-front.invariant.plain;
      same = same_further 16 c.loop-front.len c.args.bytes.now all c.loop-front.invariant.same;
    }

pub returns-then-over-lt-LANES-clause-plain : goal.returns-then-over-lt-LANES-clause-plain
returns-then-over-lt-LANES-clause-plain c =
    let over = over_from c.args.bytes.now c.in-Some.front.now c.loop-front.len c.over_star-over.result (c.in-Some.ensures.cases.0 ∙ ap (take 16) c.loop-front.invariant.there) c.over_star-over.ensures.value c.over_star-over.ensures.within in
    plain_further c.over_star-over.result c.loop-front.len c.args.bytes.now over c.loop-front.invariant.plain

pub returns-then-over-lt-LANES-clause-same : goal.returns-then-over-lt-LANES-clause-same
returns-then-over-lt-LANES-clause-same c =
    let over = over_from c.args.bytes.now c.in-Some.front.now c.loop-front.len c.over_star-over.result (c.in-Some.ensures.cases.0 ∙ ap (take 16) c.loop-front.invariant.there) c.over_star-over.ensures.value c.over_star-over.ensures.within in
    same_further c.over_star-over.result c.loop-front.len c.args.bytes.now over c.loop-front.invariant.same
