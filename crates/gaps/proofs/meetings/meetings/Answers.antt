use Rattle.std.proofs.Common.{◌≡◌, All, List, length, ◌<◌, ◌≤◌, ◌+◌, ℕ, Contains, arith, falls, rules, subst, sym}
use Rattle.std.specs.List.Sorted.{IsStrictlyIncreasing}
use Rattle.cell_index.specs.Among.{TouchAmong, bottom_in, extent_in, top_in}
use Rattle.cell_index.specs.Field.{IsNear, rivals_of}
use Rattle.gaps.specs.Meetings.{IsOver, net_of, span_of}
use Rattle.gaps.specs.declared.gap.Gap.{Gap}
use Rattle.gaps.proofs.Collecting.{IsCollected, collected_all, collected_more, collected_none, gathers_on, one_row, rows_within, thinned}
use Rattle.gaps.proofs.meetings.meetings.Goals as goal

no_less : (n more : ℕ) → n ≤ n + more
no_less n more = omega arith

pub candidates-requires : goal.candidates-requires
candidates-requires g c = record { piece = subst (λ (n : ℕ). c.loop-i.i < n) c.count-i-end.ensures.value c.loop-i-test.true }

pub add_piece-requires-clause-first : goal.add_piece-requires-clause-first
add_piece-requires-clause-first g c = subst (λ (n : ℕ). c.loop-i.i < n) c.count-i-end.ensures.value c.loop-i-test.true

pub add_piece-requires-clause-numbered : goal.add_piece-requires-clause-numbered
add_piece-requires-clause-numbered g c = c.requires.numbered

pub add_piece-requires-clause-spanned : goal.add_piece-requires-clause-spanned
add_piece-requires-clause-spanned g c = c.requires.spanned

pub bounds-numbers-i : goal.bounds-numbers-i
bounds-numbers-i g c = subst (λ (n : ℕ). c.loop-i.i < n) (sym c.requires.numbered) (subst (λ (n : ℕ). c.loop-i.i < n) c.count-i-end.ensures.value c.loop-i-test.true)

pub bounds-spans-i : goal.bounds-spans-i
bounds-spans-i g c = subst (λ (n : ℕ). c.loop-i.i < n) (sym c.requires.spanned) (subst (λ (n : ℕ). c.loop-i.i < n) c.count-i-end.ensures.value c.loop-i-test.true)

pub loop-i-smaller : goal.loop-i-smaller
loop-i-smaller g c = falls c.count-i-end.result c.loop-i.i c.loop-i-test.true

pub returns-in_err-found-clause-ticks : goal.returns-in_err-found-clause-ticks
returns-in_err-found-clause-ticks g c = no_less c.args.tests.now _

pub loop-i-init : goal.loop-i-init
loop-i-init g c = (
  subst (λ (xs : List Gap). IsCollected (length c.args.field.now.items.now) (TouchAmong g.S.Closed.holds c.args.field.now.items.now) c.args.numbers.now c.args.spans.now 0 xs) (sym c.in_ok-found.ensures) (collected_none (length c.args.field.now.items.now) (TouchAmong g.S.Closed.holds c.args.field.now.items.now) c.args.numbers.now c.args.spans.now),
  omega arith,
  omega arith,
)

pub add_piece-requires-clause-known : goal.add_piece-requires-clause-known
add_piece-requires-clause-known g c =
    let e : c.deref.result.now ≡ c.candidates.new.into.items = search rules in
    subst (λ (xs : List ℕ). All (λ j. j < length c.args.field.now.items.now) xs) (sym e) c.in_ok-candidates.ensures.known

pub add_piece-requires-clause-rising : goal.add_piece-requires-clause-rising
add_piece-requires-clause-rising g c =
    let e : c.deref.result.now ≡ c.candidates.new.into.items = search rules in
    subst (λ (xs : List ℕ). IsStrictlyIncreasing xs) (sym e) c.in_ok-candidates.ensures.rising

pub loop-i-preserved : goal.loop-i-preserved
loop-i-preserved g c =
    let e : c.deref.result.now ≡ c.candidates.new.into.items = search rules in (
      gathers_on c.add_piece.new.found.lines.items c.thin-most.new.self.lines.items
          (collected_more (length c.args.field.now.items.now) (TouchAmong g.S.Closed.holds c.args.field.now.items.now) c.args.numbers.now c.args.spans.now c.loop-i.i c.deref.result.now c.loop-i.found.lines.items c.add_piece.new.found.lines.items
          (subst (λ (xs : List ℕ). (q : ℕ) → IsOver c.args.numbers.now c.args.spans.now (net_of c.args.numbers.now c.loop-i.i) (span_of c.args.spans.now c.loop-i.i) q → IsNear (length c.args.field.now.items.now) (TouchAmong g.S.Closed.holds c.args.field.now.items.now) c.loop-i.i q → Contains xs q) (sym e) c.in_ok-candidates.ensures.near) c.loop-i.invariant.0 c.in_ok-add_piece.ensures.lines)
          (thinned _ c.add_piece.new.found.lines.items c.thin-most.new.self.lines.items c.thin-most.ensures.few c.thin-most.ensures.many),
      omega arith,
      one_row (rivals_of (length c.args.field.now.items.now) (extent_in g.S.Closed.extent c.args.field.now.items.now) (top_in c.args.field.now.items.now) (bottom_in c.args.field.now.items.now)) c.loop-i.i _ _ _ c.loop-i.invariant.2 c.add_piece.ensures.ticks,
    )

pub returns-clause-gaps : goal.returns-clause-gaps
returns-clause-gaps g c = collected_all (length c.args.field.now.items.now) (TouchAmong g.S.Closed.holds c.args.field.now.items.now) c.args.numbers.now c.args.spans.now c.loop-i.i c.loop-i.found.lines.items c.firsts.result.items (omega arith) c.loop-i.invariant.0 c.firsts.ensures

pub returns-clause-ticks : goal.returns-clause-ticks
returns-clause-ticks g c = rows_within (rivals_of (length c.args.field.now.items.now) (extent_in g.S.Closed.extent c.args.field.now.items.now) (top_in c.args.field.now.items.now) (bottom_in c.args.field.now.items.now)) c.loop-i.i (length c.args.field.now.items.now) _ _ (omega arith) c.loop-i.invariant.2

pub returns-in_err-candidates-clause-ticks : goal.returns-in_err-candidates-clause-ticks
returns-in_err-candidates-clause-ticks g c = rows_within (rivals_of (length c.args.field.now.items.now) (extent_in g.S.Closed.extent c.args.field.now.items.now) (top_in c.args.field.now.items.now) (bottom_in c.args.field.now.items.now)) c.loop-i.i (length c.args.field.now.items.now) _ _ (omega arith) c.loop-i.invariant.2

pub returns-in_err-add_piece-clause-ticks : goal.returns-in_err-add_piece-clause-ticks
returns-in_err-add_piece-clause-ticks g c =
    rows_within (rivals_of (length c.args.field.now.items.now) (extent_in g.S.Closed.extent c.args.field.now.items.now) (top_in c.args.field.now.items.now) (bottom_in c.args.field.now.items.now)) (c.loop-i.i + 1) (length c.args.field.now.items.now) _ _ (omega arith)
    (one_row (rivals_of (length c.args.field.now.items.now) (extent_in g.S.Closed.extent c.args.field.now.items.now) (top_in c.args.field.now.items.now) (bottom_in c.args.field.now.items.now)) c.loop-i.i _ _ _ c.loop-i.invariant.2 c.add_piece.ensures.ticks)
