use Rattle.board_shapes.specs.Plain.{plain_board}
use Rattle.witness_check.specs.Strips.{AreSet}
use Rattle.witness_check.proofs.least.places_of.Given as goal

abbrev pub invariant-loop-k : goal.invariant-loop-k
invariant-loop-k l = AreSet (plain_board l.fn.board) l.height l.k l.points.items
