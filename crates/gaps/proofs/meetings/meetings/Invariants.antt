use Rattle.std.proofs.Common.{length, ◌+◌, ◌≤◌}
use Rattle.cell_index.specs.Among.{TouchAmong, bottom_in, extent_in, top_in}
use Rattle.cell_index.specs.Field.{rivals_of, sum_below}
use Rattle.gaps.proofs.Collecting.{IsCollected}
use Rattle.gaps.proofs.meetings.meetings.Given as goal

abbrev pub invariant-loop-i : goal.invariant-loop-i
invariant-loop-i g l =
    IsCollected (length l.fn.field.items.now) (TouchAmong g.S.Closed.holds l.fn.field.items.now) l.fn.numbers l.fn.spans l.i l.found.lines.items × (l.i ≤ length l.fn.field.items.now)
    × (l.tests ≤ l.fn.tests + sum_below (rivals_of (length l.fn.field.items.now) (extent_in g.S.Closed.extent l.fn.field.items.now) (top_in l.fn.field.items.now) (bottom_in l.fn.field.items.now)) l.i)
