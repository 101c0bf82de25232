use Rattle.std.proofs.Common.{◌≡◌, ◌∙◌, Ok, Err, Result, ap, subst, arith, rules}
use Rattle.std.proofs.lemmas.Grind.{common_steps}
use Rattle.aperture_macros.specs.Flashes.{judged}
use Rattle.aperture_macros.specs.Seen.{plain}
use Rattle.aperture_macros.specs.declared.primitive.Copper.TheVariants.{Exact}
use Rattle.aperture_macros.specs.declared.primitive.Primitive.{Primitive}
use Rattle.aperture_macros.specs.declared.fault.MacroFault.{MacroFault}
use Rattle.gerber_layer.specs.MacroTable.{as_macro}
use Rattle.gerber_layer.specs.Reader.{body_of}
use Rattle.gerber_layer.proofs.MacroFlash.{first_fault, next_judged, none_faulty}
use Rattle.gerber_layer.proofs.Marks.{mark_more, no_marks}
use Rattle.gerber_layer.proofs.macro_rows.judge.Goals as goal

pub loop-primitive-init : goal.loop-primitive-init
loop-primitive-init c = record {
  rest = search rules;
  counted = search rules;
  blank = no_marks (body_of c.args.body.now) c.args.parameters.now c.args.unit _ (search rules);
}

pub loop-primitive-preserved : goal.loop-primitive-preserved
loop-primitive-preserved c =
    record {
      rest = c.loop-primitive.invariant.rest ∙ next_judged c.args.body.now c.loop-primitive.primitive-index c.primitive-item.result c.args.parameters.now c.args.unit (omega (arith, c.loop-primitive-test.true)) (subst (λ (p : Primitive). ◌≡◌ {A = Result (Unit {0}) MacroFault} (Ok tt) (judged Exact (plain p) c.args.parameters.now c.args.unit)) c.primitive-item.is c.in-Ok.ensures.lawful);
      counted = grind (arith, common_steps);
      blank = mark_more c.args.body.now c.loop-primitive.primitive-index c.primitive-item.result c.args.parameters.now c.args.unit c.loop-primitive.marks.items c.push.new.self.items c.in-Ok.has_image (omega (arith, c.loop-primitive-test.true)) c.primitive-item.is c.loop-primitive.invariant.counted c.in-Ok.ensures.blank c.in_default.ensures.items c.loop-primitive.invariant.blank;
    }

pub returns-in-Err-clause-halt : goal.returns-in-Err-clause-halt
returns-in-Err-clause-halt c =
    rw c.from.ensures (ap as_macro (c.loop-primitive.invariant.rest ∙ first_fault c.args.body.now c.loop-primitive.primitive-index c.primitive-item.result c.args.parameters.now c.args.unit c.in-Err.fault (omega (arith, c.loop-primitive-test.true)) (subst (λ (p : Primitive). ◌≡◌ {A = Result (Unit {0}) MacroFault} (Err c.in-Err.fault) (judged Exact (plain p) c.args.parameters.now c.args.unit)) c.primitive-item.is c.in-Err.ensures.lawful)))

pub returns-clause-ok : goal.returns-clause-ok
returns-clause-ok c = c.loop-primitive.invariant.rest ∙ none_faulty c.args.body.now c.loop-primitive.primitive-index c.args.parameters.now c.args.unit (omega (arith, c.loop-primitive-test.false))
