use Rattle.std.proofs.Common.{ℕ, List, ◌+◌, ◌≤◌, if◌then◌else◌, get_or, length, refl, subst, sym, take}
use Rattle.std.proofs.lemmas.List.{take_more}
use Rattle.cell_index.specs.Among.{TouchAmong, bottom_in, extent_in, top_in}
use Rattle.cell_index.specs.Field.{is_rival}
use Rattle.cell_index.proofs.Found.{ticks_turn}
use Rattle.gaps.specs.declared.found.Pair.{Pair}
use Rattle.gaps.specs.Meetings.{CoversLines, IsNearLine}
use Rattle.gaps.proofs.Collecting.{neighbour_more, tested_within}
use Rattle.gaps.proofs.meetings.add_piece.Goals as goal

pub returns-in_err-add_pair-clause-ticks : goal.returns-in_err-add_pair-clause-ticks
returns-in_err-add_pair-clause-ticks g c =
    tested_within (extent_in g.S.Closed.extent c.args.field.now.items.now) (top_in c.args.field.now.items.now) (bottom_in c.args.field.now.items.now) c.args.near.now (length c.args.field.now.items.now) c.args.i c.loop-j.j-index (get_or c.args.near.now c.loop-j.j-index 0) c.args.tests.now c.loop-j.tests c.add_pair.new.tests c.requires.known c.loop-j-test.true refl c.loop-j.invariant.1
    (subst (λ (p : Pair). c.add_pair.new.tests ≤ c.loop-j.tests + (if is_rival (extent_in g.S.Closed.extent c.args.field.now.items.now) (top_in c.args.field.now.items.now) (bottom_in c.args.field.now.items.now) p.first p.second then 1 else 0)) c.pair_of-pair.ensures c.add_pair.ensures.ticks)

pub loop-j-preserved : goal.loop-j-preserved
loop-j-preserved g c = (
  subst (λ (xs : List ℕ). CoversLines (IsNearLine (length c.args.field.now.items.now) (TouchAmong g.S.Closed.holds c.args.field.now.items.now) c.args.numbers.now c.args.spans.now c.args.i xs) c.args.found.now.lines.items c.add_pair.new.found.lines.items) (sym (take_more c.args.near.now c.loop-j.j-index 0 c.loop-j-test.true))
      (neighbour_more (length c.args.field.now.items.now) (TouchAmong g.S.Closed.holds c.args.field.now.items.now) c.args.numbers.now c.args.spans.now c.args.i (get_or c.args.near.now c.loop-j.j-index 0) (take c.loop-j.j-index c.args.near.now) c.pair_of-pair.result c.args.found.now.lines.items c.loop-j.found.lines.items c.add_pair.new.found.lines.items c.pair_of-pair.ensures c.loop-j.invariant.0 c.in_ok-add_pair.ensures.lines),
  ticks_turn (extent_in g.S.Closed.extent c.args.field.now.items.now) (top_in c.args.field.now.items.now) (bottom_in c.args.field.now.items.now) c.args.near.now (length c.args.field.now.items.now) c.args.i c.loop-j.j-index (get_or c.args.near.now c.loop-j.j-index 0) c.args.tests.now c.loop-j.tests c.add_pair.new.tests c.requires.rising c.requires.known c.loop-j-test.true refl c.loop-j.invariant.1
      (subst (λ (p : Pair). c.add_pair.new.tests ≤ c.loop-j.tests + (if is_rival (extent_in g.S.Closed.extent c.args.field.now.items.now) (top_in c.args.field.now.items.now) (bottom_in c.args.field.now.items.now) p.first p.second then 1 else 0)) c.pair_of-pair.ensures c.add_pair.ensures.ticks),
)
