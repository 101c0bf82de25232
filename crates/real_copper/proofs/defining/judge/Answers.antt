use Rattle.std.proofs.Common.{◌∙◌, ap, sym, arith}
use Rattle.real_copper.specs.Table.{as_macro}
use Rattle.real_copper.proofs.MacroFlash.{first_fault, next_judged, none_faulty}
use Rattle.real_copper.proofs.defining.judge.Goals as goal

pub returns-in-Err : goal.returns-in-Err
returns-in-Err c =
    rw c.from.ensures (sym (ap as_macro (c.loop-primitive.invariant ∙ first_fault c.args.body.now c.loop-primitive.primitive-index c.primitive-item.result c.args.parameters.now c.args.unit c.in-Err.fault (omega (arith, c.loop-primitive-test.true)) c.primitive-item.is (sym c.in-Err.is ∙ c.judge.ensures))))

pub loop-primitive-preserved : goal.loop-primitive-preserved
loop-primitive-preserved c =
    c.loop-primitive.invariant ∙ next_judged c.args.body.now c.loop-primitive.primitive-index c.primitive-item.result c.args.parameters.now c.args.unit (omega (arith, c.loop-primitive-test.true)) c.primitive-item.is (sym c.in_default.is ∙ c.judge.ensures)

pub returns : goal.returns
returns c = sym (ap as_macro (c.loop-primitive.invariant ∙ none_faulty c.args.body.now c.loop-primitive.primitive-index c.args.parameters.now c.args.unit (omega (arith, c.loop-primitive-test.false))))
