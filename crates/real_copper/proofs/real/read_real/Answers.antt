use Rattle.std.proofs.Common.{◌≡◌, true, All, List, subst, sym}
use Rattle.board_shapes.specs.Pieces.{PieceOf}
use Rattle.gerber_reading.proofs.Placing.{layers_read}
use Rattle.step_repeat.specs.Copies.{pieces_by}
use Rattle.real_copper.specs.Figures.{RealFigure}
use Rattle.real_copper.specs.RealReader.{plain}
use Rattle.real_copper.specs.Shapes.{plain_reals, real_figure}
use Rattle.real_copper.specs.Table.{IsRealCopper, real}
use Rattle.real_copper.proofs.Carrying.{if_ok}
use Rattle.real_copper.proofs.Layers.{effect_on}
use Rattle.real_shapes.specs.Settled.{is_settled}
use Rattle.real_copper.proofs.Settled.{all_settled}
use Rattle.real_copper.proofs.real.read_real.Goals as goal

pub returns-clause-layers : goal.returns-clause-layers
returns-clause-layers c =
    let read = if_ok (λ reals. plain_reals reals.items ≡ pieces_by plain c.in_ok-pieces.pieces.items) (λ reals. IsRealCopper c.args.file.now c.args.place (plain_reals reals.items)) (λ reals are. subst (λ (xs : List (PieceOf RealFigure)). IsRealCopper c.args.file.now c.args.place xs) (sym are) c.in_ok-pieces.ensures.ok) c.shapes_of.result c.shapes_of.ensures.are in
    layers_read real_figure real effect_on (λ v. v.items) c.shapes_of.result c.args.file.now c.args.place read

pub returns-clause-settled : goal.returns-clause-settled
returns-clause-settled c =
    if_ok (λ reals. plain_reals reals.items ≡ pieces_by plain c.in_ok-pieces.pieces.items) (λ reals. All (λ piece. is_settled piece.shape ≡ true) reals.items) (λ reals are. all_settled reals.items c.in_ok-pieces.pieces.items are) c.shapes_of.result c.shapes_of.ensures.are
