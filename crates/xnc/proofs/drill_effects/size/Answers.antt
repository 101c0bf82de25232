use Rattle.std.proofs.Common.{ap, Ok, Err}
use Rattle.std.proofs.lemmas.Result.{err_from_is_err_and}
use Rattle.lengths.proofs.GridLemmas.{Sizes-is}
use Rattle.xnc.specs.DrillEffects.{gridded}
use Rattle.xnc.proofs.drill_effects.size.Goals as goal

pub returns : goal.returns
returns c = ap gridded (Sizes-is c.args.d c.args.unit (Ok c.in_ok-len.len) c.in_ok-len.ensures)

pub returns-in_err-len : goal.returns-in_err-len
returns-in_err-len c =
    let p = err_from_is_err_and c.from_residual.result c.from_residual.ensures.1 in
    rw (p.1, p.2) (ap gridded (Sizes-is c.args.d c.args.unit (Err c.in_err-len.field-0.0) c.in_err-len.ensures))
