use Rattle.std.proofs.Common.{length}
use Rattle.board_shapes.specs.Plain.{plain_board}
use Rattle.board_shapes.specs.Touching.{UnderAt}
use Rattle.witness_check.proofs.Sweeping.{AreFound}
use Rattle.witness_check.proofs.least.find_all.Given as goal

abbrev pub invariant-loop-interval : goal.invariant-loop-interval
invariant-loop-interval l = AreFound (UnderAt (plain_board l.fn.board)) l.wanted l.intervals l.points (length (plain_board l.fn.board).probes) l.interval-index l.from l.homes
