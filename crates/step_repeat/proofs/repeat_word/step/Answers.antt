use Rattle.std.proofs.Common.{◌∙◌, ap, Ok, Err, rules}
use Rattle.std.proofs.lemmas.Int.{to_z-of_z}
use mir.Val.{SFits}
use Rattle.std.specs.Int.{w64}
use Rattle.step_repeat.proofs.Steps.{step_is}
use Rattle.step_repeat.proofs.repeat_word.step.Goals as goal

pub returns-in-Ok-clause-value : goal.returns-in-Ok-clause-value
returns-in-Ok-clause-value c =
    let fits : SFits w64 c.u.result = search rules in
    ap Ok (to_z-of_z w64 c.u.result fits ∙ c.u.ensures.value) ∙ step_is c.args.decimal c.args.unit (Ok c.in-Ok.len) c.in-Ok.ensures

pub returns-in-Err-clause-value : goal.returns-in-Err-clause-value
returns-in-Err-clause-value c =
    ap Err c.choose.ensures ∙ step_is c.args.decimal c.args.unit (Err c.in-Err.fault) c.in-Err.ensures
