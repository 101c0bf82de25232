use Rattle.std.proofs.Common.{arith}
use Rattle.std.proofs.lemmas.Bool.{both_ways}
use Rattle.board_shapes.specs.Pieces.{plain_pieces}
use Rattle.arc_covers.specs.declared.side.Side.TheVariants.{Above, Below}
use Rattle.arc_covers.proofs.Steps.{first_more, fits, further, item_there, shared, unshared}
use Rattle.arc_covers.proofs.between.check_between.Goals as goal

pub returns-then-not-add_up-2-clause-fault : goal.returns-then-not-add_up-2-clause-fault
returns-then-not-add_up-2-clause-fault c = (c.add_up.ensures.0 c.if-not-add_up.false, λ up. both_ways c.add_up-2.result c.if-not-add_up-2.true (c.add_up-2.ensures.1 up))

pub returns-then-not-branch-clause-fault : goal.returns-then-not-branch-clause-fault
returns-then-not-branch-clause-fault c = record {
  counted_below = c.add_up.ensures.0 c.if-not-add_up.false;
  counted_above = c.add_up-2.ensures.0 c.if-not-add_up-2.false;
  piece = c.index-real-i.result;
  there = item_there c.args.real.now c.loop-i.i c.index-real-i.result (omega arith) c.index-real-i.is;
  below = c.loop-i.invariant.below;
  above = c.loop-i.invariant.above;
  refused = λ taken.
      both_ways c.in_ok-stand.field-0 c.if-not-branch.true (c.in_ok-stand.ensures.1 (unshared Below c.index-real-i.result c.args.lower_counts.now c.args.lower.now c.part-under.result.now c.loop-i.i c.loop-i.low c.loop-i.invariant.low c.part-under.ensures taken));
}

pub part-over-requires : goal.part-over-requires
part-over-requires c = fits c.args.real.now c.args.upper_counts.now c.args.upper.now c.loop-i.i c.loop-i.high (c.add_up-2.ensures.0 c.if-not-add_up-2.false) (omega arith) c.loop-i.invariant.high

pub returns-then-not-branch-2-clause-fault : goal.returns-then-not-branch-2-clause-fault
returns-then-not-branch-2-clause-fault c = record {
  counted_below = c.add_up.ensures.0 c.if-not-add_up.false;
  counted_above = c.add_up-2.ensures.0 c.if-not-add_up-2.false;
  piece = c.index-real-i-in-loop-i.result;
  there = item_there c.args.real.now c.loop-i.i c.index-real-i-in-loop-i.result (omega arith) c.index-real-i-in-loop-i.is;
  below = first_more Below c.loop-i.i c.args.real.now c.args.lower_counts.now (plain_pieces c.args.lower.now) c.index-real-i.result (item_there c.args.real.now c.loop-i.i c.index-real-i.result (omega arith) c.index-real-i.is) c.loop-i.invariant.below
      (shared Below c.index-real-i.result c.args.lower_counts.now c.args.lower.now c.part-under.result.now c.loop-i.i c.loop-i.low c.loop-i.invariant.low c.part-under.ensures (c.in_ok-stand.ensures.0 c.if-not-branch.false));
  above = c.loop-i.invariant.above;
  refused = λ taken.
      both_ways c.in_ok-stand-2.field-0 c.if-not-branch-2.true (c.in_ok-stand-2.ensures.1 (unshared Above c.index-real-i-in-loop-i.result c.args.upper_counts.now c.args.upper.now c.part-over.result.now c.loop-i.i c.loop-i.high c.loop-i.invariant.high c.part-over.ensures taken));
}

pub loop-i-preserved : goal.loop-i-preserved
loop-i-preserved c = record {
  low = further c.args.real.now c.args.lower_counts.now (plain_pieces c.args.lower.now) c.loop-i.i c.loop-i.low (c.add_up.ensures.0 c.if-not-add_up.false) (omega arith) c.loop-i.invariant.low;
  high = further c.args.real.now c.args.upper_counts.now (plain_pieces c.args.upper.now) c.loop-i.i c.loop-i.high (c.add_up-2.ensures.0 c.if-not-add_up-2.false) (omega arith) c.loop-i.invariant.high;
  below = first_more Below c.loop-i.i c.args.real.now c.args.lower_counts.now (plain_pieces c.args.lower.now) c.index-real-i.result (item_there c.args.real.now c.loop-i.i c.index-real-i.result (omega arith) c.index-real-i.is) c.loop-i.invariant.below
      (shared Below c.index-real-i.result c.args.lower_counts.now c.args.lower.now c.part-under.result.now c.loop-i.i c.loop-i.low c.loop-i.invariant.low c.part-under.ensures (c.in_ok-stand.ensures.0 c.if-not-branch.false));
  above = first_more Above c.loop-i.i c.args.real.now c.args.upper_counts.now (plain_pieces c.args.upper.now) c.index-real-i-in-loop-i.result (item_there c.args.real.now c.loop-i.i c.index-real-i-in-loop-i.result (omega arith) c.index-real-i-in-loop-i.is) c.loop-i.invariant.above
      (shared Above c.index-real-i-in-loop-i.result c.args.upper_counts.now c.args.upper.now c.part-over.result.now c.loop-i.i c.loop-i.high c.loop-i.invariant.high c.part-over.ensures (c.in_ok-stand-2.ensures.0 c.if-not-branch-2.false));
}

pub returns-clause-taken_below : goal.returns-clause-taken_below
returns-clause-taken_below c = record { counted = c.add_up.ensures.0 c.if-not-add_up.false; taken = λ i piece below there. c.loop-i.invariant.below i piece (omega arith) there }

pub returns-clause-taken_above : goal.returns-clause-taken_above
returns-clause-taken_above c = record { counted = c.add_up-2.ensures.0 c.if-not-add_up-2.false; taken = λ i piece below there. c.loop-i.invariant.above i piece (omega arith) there }

pub returns-clause-below : goal.returns-clause-below
returns-clause-below c = c.taken_are_bounds.ensures Below c.args.real.now c.args.lower_counts.now (plain_pieces c.args.lower.now) (record { counted = c.add_up.ensures.0 c.if-not-add_up.false; taken = λ i piece below there. c.loop-i.invariant.below i piece (omega arith) there })

pub returns-clause-above : goal.returns-clause-above
returns-clause-above c = c.taken_are_bounds.ensures Above c.args.real.now c.args.upper_counts.now (plain_pieces c.args.upper.now) (record { counted = c.add_up-2.ensures.0 c.if-not-add_up-2.false; taken = λ i piece below there. c.loop-i.invariant.above i piece (omega arith) there })
