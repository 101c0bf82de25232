use Rattle.std.proofs.Common.{◌++◌, ap, arith, sym, ◌∙◌}
use Rattle.board_shapes.specs.Figures.{seen_shape}
use Rattle.board_shapes.specs.Pieces.{plain_pieces}
use Rattle.gerber_layer.specs.Reader.{origin_place}
use Rattle.gerber_layer.specs.CommandEffects.{all_flashed, listed}
use Rattle.gerber_layer.proofs.MacroFlash.{all_figures, made_more, next_figure, no_figure}
use Rattle.gerber_layer.proofs.Marks.{here_blank}
use Rattle.gerber_layer.proofs.macro_flash.pieces_of.Goals as goal

pub figure_unless-requires-clause-blank : goal.figure_unless-requires-clause-blank
figure_unless-requires-clause-blank c = λ is.
    here_blank c.args.body.now c.loop-i.i c.index-body-i.result c.args.parameters.now c.args.unit c.args.blanks.now (omega (arith, c.loop-i-test.true)) c.index-body-i.is c.requires.blank (sym c.is_marked-blank.ensures ∙ is)

pub returns-in-Err-clause-halt : goal.returns-in-Err-clause-halt
returns-in-Err-clause-halt c =
    rw c.halt_of_figure.ensures (no_figure c.args.body.now c.loop-i.i c.index-body-i.result c.args.parameters.now c.args.unit c.args.to c.loop-i.invariant.0 c.in-Err.fault (omega (arith, c.loop-i-test.true)) c.index-body-i.is c.in-Err.ensures c.loop-i.invariant.2)

pub loop-i-preserved : goal.loop-i-preserved
loop-i-preserved c = (
  c.loop-i.invariant.0 ++ listed (seen_shape c.in-Ok.shape),
  made_more (origin_place c.args.layer c.args.origin) c.args.origin.command c.loop-i.invariant.0 (listed (seen_shape c.in-Ok.shape)) (plain_pieces c.loop-i.pieces.items) (plain_pieces c.push_shape.new.pieces.items) c.loop-i.invariant.1 c.in_ok-push_shape.ensures.ok,
  next_figure c.args.body.now c.loop-i.i c.index-body-i.result c.args.parameters.now c.args.unit c.args.to c.loop-i.invariant.0 (seen_shape c.in-Ok.shape) (omega (arith, c.loop-i-test.true)) c.index-body-i.is c.in-Ok.ensures c.loop-i.invariant.2,
)

pub returns-clause-ok : goal.returns-clause-ok
returns-clause-ok c = record {
  figures = c.loop-i.invariant.0;
  is = ap all_flashed (all_figures c.args.body.now c.loop-i.i c.args.parameters.now c.args.unit c.args.to c.loop-i.invariant.0 (omega (arith, c.loop-i-test.false)) c.loop-i.invariant.2);
  are = c.loop-i.invariant.1;
}
