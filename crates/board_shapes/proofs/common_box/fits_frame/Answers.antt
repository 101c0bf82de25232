use Rattle.board_shapes.proofs.Boxes.{inside_fits}
use Rattle.board_shapes.proofs.common_box.fits_frame.Goals as goal

pub returns : goal.returns
returns c = inside_fits c.args.b c.corner.result c.inside.result c.corner.ensures c.inside.ensures
