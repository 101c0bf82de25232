use Rattle.std.proofs.Common.{refl}
use Rattle.arc_covers.specs.declared.side.Side.TheVariants.{Below, Above}
use Rattle.board_shapes.specs.Plain.{plain_board}
use Rattle.boardnet.proofs.Readings.{fault_moved, in_range, not_taken, taken_moved}
use Rattle.boardnet.specs.Bounded.{AreCounted}
use Rattle.real_package.specs.RealBoards.{plain_real_board}
use Rattle.boardnet.proofs.commands.between.bounded.Goals as goal

pub returns-in-Ok-clause-ok : goal.returns-in-Ok-clause-ok
returns-in-Ok-clause-ok c = record {
  counted = record {
    lower_counts = c.in_ok-counts.counts.lower;
    upper_counts = c.in_ok-counts.counts.upper;
    counts = c.in_ok-counts.ensures.ok;
    lower_netlist = c.in_default.ensures.none.0;
    upper_netlist = c.in_default.ensures.none.1;
    pieces = c.args.boards.now.real.pieces.items;
    are = refl;
  };
  below = taken_moved Below _ _ _ _ _ _ c.deref.ensures.value c.as_slice.ensures c.pieces.ensures.plain c.in-Ok.ensures.taken_below;
  above = taken_moved Above _ _ _ _ _ _ c.deref.ensures.value c.as_slice-2.ensures c.pieces-2.ensures.plain c.in-Ok.ensures.taken_above;
}

pub not_taken-requires : goal.not_taken-requires
not_taken-requires c =
    in_range c.args.boards.now.real.pieces.items _ _ _ _ c.in-Err.fault
    (fault_moved _ _ _ _ _ _ _ _ _ _ c.in-Err.fault c.deref.ensures.value c.as_slice.ensures c.pieces.ensures.plain c.as_slice-2.ensures c.pieces-2.ensures.plain c.in-Err.ensures.fault)

pub returns-clause-fault : goal.returns-clause-fault
returns-clause-fault c =
    let r = plain_real_board c.args.boards.now.real in
    let l = plain_board c.args.boards.now.lower in
    let u = plain_board c.args.boards.now.upper in
    let counted : AreCounted r l u c.args.bytes.now = record {
      lower_counts = c.in_ok-counts.counts.lower;
      upper_counts = c.in_ok-counts.counts.upper;
      counts = c.in_ok-counts.ensures.ok;
      lower_netlist = c.in_default.ensures.none.0;
      upper_netlist = c.in_default.ensures.none.1;
      pieces = c.args.boards.now.real.pieces.items;
      are = refl;
    } in
    not_taken r l u c.args.bytes.now counted c.in-Err.fault c.not_taken.result
    (fault_moved _ _ _ _ _ _ _ _ _ _ c.in-Err.fault c.deref.ensures.value c.as_slice.ensures c.pieces.ensures.plain c.as_slice-2.ensures c.pieces-2.ensures.plain c.in-Err.ensures.fault)
    c.not_taken.ensures
