use Rattle.std.proofs.Common.{take, length, ◌+◌, ◌≤◌}
use Rattle.cell_index.specs.Among.{TouchAmong, bottom_in, extent_in, top_in}
use Rattle.cell_index.specs.Field.{rivals_of}
use Rattle.cell_index.proofs.Found.{next_of}
use Rattle.gaps.specs.Meetings.{CoversLines, IsNearLine}
use Rattle.gaps.proofs.meetings.add_piece.Given as goal

abbrev pub invariant-loop-j : goal.invariant-loop-j
invariant-loop-j g l =
    CoversLines (IsNearLine (length l.fn.field.items.now) (TouchAmong g.S.Closed.holds l.fn.field.items.now) l.fn.numbers l.fn.spans l.fn.i (take l.j-index l.fn.near)) l.fn.found.lines.items l.found.lines.items
    × (l.tests ≤ l.fn.tests + rivals_of (next_of l.fn.near (length l.fn.field.items.now) l.j-index) (extent_in g.S.Closed.extent l.fn.field.items.now) (top_in l.fn.field.items.now) (bottom_in l.fn.field.items.now) l.fn.i)
