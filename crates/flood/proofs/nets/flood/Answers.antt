use Rattle.std.proofs.Common.{◌≡◌, ℕ, ◌+◌, false, arith, replicate, sym, subst, ap, ◌∙◌}
use Rattle.verdict.specs.Forest.{IsForest}
use Rattle.cell_index.specs.Field.{IsNear, rivals_of, sum_below}
use Rattle.flood.proofs.Seen.{unseen-all}
use Rattle.flood.proofs.Flooding.{IsFlooded, flooded_start, flooded_on, flooded_more, flooded_all, within_pairs}
use Rattle.flood.proofs.nets.flood.Goals.{then-not-seen-first+in_ok-net+in_ok-push, else-not-seen-first}
use Rattle.flood.proofs.nets.flood.Goals as goal

pub loop-first-init : goal.loop-first-init
loop-first-init g c =
    let e = unseen-all (rivals_of (g.F.Field.size c.args.field.now) (g.F.Field.extent c.args.field.now) (g.F.Field.top c.args.field.now) (g.F.Field.bottom c.args.field.now)) 0 c.count-count.result in
    let all : c.as_mut_slice-seen.result.now ≡ replicate c.count-count.result false = c.as_mut_slice-seen.ensures.value ∙ c.in_ok-flags.ensures.items_if_clones_equal (λ y h. h) in
    let same : 0 + c.count-count.result ≡ c.count-count.result = omega arith in
    let sum : sum_below (rivals_of (g.F.Field.size c.args.field.now) (g.F.Field.extent c.args.field.now) (g.F.Field.top c.args.field.now) (g.F.Field.bottom c.args.field.now)) (0 + c.count-count.result) ≡ sum_below (rivals_of (g.F.Field.size c.args.field.now) (g.F.Field.extent c.args.field.now) (g.F.Field.top c.args.field.now) (g.F.Field.bottom c.args.field.now)) c.count-count.result = ap (sum_below (rivals_of (g.F.Field.size c.args.field.now) (g.F.Field.extent c.args.field.now) (g.F.Field.top c.args.field.now) (g.F.Field.bottom c.args.field.now))) same in
    rw (all, c.new-nets.ensures) (flooded_start c.count-count.result (IsNear (g.F.Field.size c.args.field.now) (g.F.Field.touch c.args.field.now)), omega arith)

pub loop-first-preserved : goal.loop-first-preserved
loop-first-preserved g c = elim c.if-not-seen-first.branch [
  | then-not-seen-first+in_ok-net+in_ok-push w ↦
      let both : (p q : ℕ) → IsNear (g.F.Field.size c.args.field.now) (g.F.Field.touch c.args.field.now) p q → IsNear (g.F.Field.size c.args.field.now) (g.F.Field.touch c.args.field.now) q p = λ p q h. record { first = h.second; second = h.first; other = λ e. h.other (sym e); touch = g.met.F.Field.symmetric c.args.field.now p q c.count-count.ensures.lawful h.touch } in
      let more = flooded_more c.count-count.result (IsNear (g.F.Field.size c.args.field.now) (g.F.Field.touch c.args.field.now)) both c.loop-first.nets c.loop-first.seen c.loop-first.first w.in_ok-net.net w.net_from.new.seen c.loop-first.invariant.0 w.in_ok-net.ensures.whole in
      let before = c.loop-first.invariant.1 in
      let ticks = w.net_from.ensures.ticks in
      rw (w.nets-is, w.in_ok-push.ensures.ok, w.seen-is, w.tests-is) (more, omega arith)
  | else-not-seen-first w ↦
      let before = c.loop-first.invariant.1 in
      rw (w.nets-is, w.seen-is, w.tests-is) (flooded_on _ _ _ _ _ c.loop-first.invariant.0 w.if-not-seen-first.false, before)
]

pub returns-clause-nets : goal.returns-clause-nets
returns-clause-nets g c =
    let same : c.loop-first.first ≡ c.count-count.result = omega arith in
    let f = flooded_all c.count-count.result (IsNear (g.F.Field.size c.args.field.now) (g.F.Field.touch c.args.field.now)) c.loop-first.nets c.loop-first.seen (subst (λ (x : ℕ). IsFlooded c.count-count.result (IsNear (g.F.Field.size c.args.field.now) (g.F.Field.touch c.args.field.now)) c.loop-first.nets c.loop-first.seen x) same c.loop-first.invariant.0) in
    subst (λ (x : ℕ). IsForest x (IsNear (g.F.Field.size c.args.field.now) (g.F.Field.touch c.args.field.now)) c.loop-first.nets) c.count-count.ensures.value f

pub returns-clause-pairs : goal.returns-clause-pairs
returns-clause-pairs g c =
    within_pairs (rivals_of (g.F.Field.size c.args.field.now) (g.F.Field.extent c.args.field.now) (g.F.Field.top c.args.field.now) (g.F.Field.bottom c.args.field.now)) c.count-count.result (g.F.Field.size c.args.field.now) _ _ _ c.count-count.ensures.value
    (c.rivals_are_twice_the_pairs.ensures (g.F.Field.size c.args.field.now) (g.F.Field.extent c.args.field.now) (g.F.Field.top c.args.field.now) (g.F.Field.bottom c.args.field.now)) (omega (arith, c.loop-first.invariant.1))

pub returns-in_err-net-clause-pairs : goal.returns-in_err-net-clause-pairs
returns-in_err-net-clause-pairs g c =
    within_pairs (rivals_of (g.F.Field.size c.args.field.now) (g.F.Field.extent c.args.field.now) (g.F.Field.top c.args.field.now) (g.F.Field.bottom c.args.field.now)) c.count-count.result (g.F.Field.size c.args.field.now) _ _ _ c.count-count.ensures.value
    (c.rivals_are_twice_the_pairs.ensures (g.F.Field.size c.args.field.now) (g.F.Field.extent c.args.field.now) (g.F.Field.top c.args.field.now) (g.F.Field.bottom c.args.field.now)) (omega (arith, c.loop-first.invariant.1, c.net_from.ensures.ticks))

pub returns-in_err-push-clause-pairs : goal.returns-in_err-push-clause-pairs
returns-in_err-push-clause-pairs g c =
    within_pairs (rivals_of (g.F.Field.size c.args.field.now) (g.F.Field.extent c.args.field.now) (g.F.Field.top c.args.field.now) (g.F.Field.bottom c.args.field.now)) c.count-count.result (g.F.Field.size c.args.field.now) _ _ _ c.count-count.ensures.value
    (c.rivals_are_twice_the_pairs.ensures (g.F.Field.size c.args.field.now) (g.F.Field.extent c.args.field.now) (g.F.Field.top c.args.field.now) (g.F.Field.bottom c.args.field.now)) (omega (arith, c.loop-first.invariant.1, c.net_from.ensures.ticks))
