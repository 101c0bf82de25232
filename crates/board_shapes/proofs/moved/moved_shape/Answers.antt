use Rattle.std.proofs.lemmas.Result.{err_from_is_err_and}
use Rattle.board_shapes.proofs.moved.moved_shape.Goals as goal

pub returns-in_err-moved_capsule-in-Round-clause-fault : goal.returns-in_err-moved_capsule-in-Round-clause-fault
returns-in_err-moved_capsule-in-Round-clause-fault c = let p = err_from_is_err_and c.from_residual.result c.from_residual.ensures.1 in rw (p.1, p.2, c.in-Round.is) c.in_err-moved_capsule-in-Round.ensures.fault

pub returns-in-Filled-clause-fault : goal.returns-in-Filled-clause-fault
returns-in-Filled-clause-fault c = rw c.in-Filled.is c.moved_area.ensures.fault
