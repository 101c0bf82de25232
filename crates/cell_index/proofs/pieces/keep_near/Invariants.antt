use Rattle.std.proofs.Common.{◌+◌, ◌≤◌, length}
use Rattle.cell_index.specs.Among.{TouchAmong, bottom_in, extent_in, top_in}
use Rattle.cell_index.specs.Field.{IsNear, rivals_of}
use Rattle.cell_index.proofs.Found.{IsKept, next_of}
use Rattle.cell_index.proofs.pieces.keep_near.Given as goal

abbrev pub invariant-loop-k : goal.invariant-loop-k
invariant-loop-k g l = IsKept (IsNear (length l.items) (TouchAmong g.S.Closed.holds l.items) l.i) l.fn.into.items l.k l.kept l.into.items
    × (l.tests ≤ l.fn.tests + rivals_of (next_of l.fn.into.items (length l.items) l.k) (extent_in g.S.Closed.extent l.items) (top_in l.items) (bottom_in l.items) l.i)
