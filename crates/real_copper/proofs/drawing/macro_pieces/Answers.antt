use Rattle.std.proofs.Common.{◌++◌, ◌+◌, ap, arith}
use Rattle.gerber_reading.specs.CommandEffects.{listed}
use Rattle.gerber_reading.specs.Reader.{place_of}
use Rattle.step_repeat.specs.Copies.{pieces_by}
use Rattle.real_copper.specs.Flashed.{option_figure}
use Rattle.real_copper.specs.RealReader.{plain}
use Rattle.real_copper.specs.Rows.{all_flashed}
use Rattle.real_copper.proofs.MacroFlash.{all_figures, made_more, next_figure, no_figure}
use Rattle.real_copper.proofs.drawing.macro_pieces.Goals as goal

pub returns-in-Err-clause-halt : goal.returns-in-Err-clause-halt
returns-in-Err-clause-halt c =
    rw c.halt_of_figure.ensures (no_figure c.args.body.now c.loop-primitive.primitive-index c.primitive-item.result c.args.parameters.now c.args.unit c.args.to c.loop-primitive.invariant.0 c.in-Err.fault (omega (arith, c.loop-primitive-test.true)) c.primitive-item.is c.in-Err.ensures c.loop-primitive.invariant.2)

pub loop-primitive-preserved : goal.loop-primitive-preserved
loop-primitive-preserved c = (
  c.loop-primitive.invariant.0 ++ listed (option_figure c.in-Ok.figure),
  made_more (place_of c.args.reader.now) (c.args.reader.now.commands + 1) c.loop-primitive.invariant.0 (listed (option_figure c.in-Ok.figure)) (pieces_by plain c.loop-primitive.pieces.items) (pieces_by plain c.push_figure.new.pieces.items) c.loop-primitive.invariant.1 c.in_ok-push_figure.ensures.ok,
  next_figure c.args.body.now c.loop-primitive.primitive-index c.primitive-item.result c.args.parameters.now c.args.unit c.args.to c.loop-primitive.invariant.0 (option_figure c.in-Ok.figure) (omega (arith, c.loop-primitive-test.true)) c.primitive-item.is c.in-Ok.ensures c.loop-primitive.invariant.2,
)

pub returns-clause-ok : goal.returns-clause-ok
returns-clause-ok c = record {
  figures = c.loop-primitive.invariant.0;
  is = ap all_flashed (all_figures c.args.body.now c.loop-primitive.primitive-index c.args.parameters.now c.args.unit c.args.to c.loop-primitive.invariant.0 (omega (arith, c.loop-primitive-test.false)) c.loop-primitive.invariant.2);
  are = c.loop-primitive.invariant.1;
}
