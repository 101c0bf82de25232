use Rattle.std.proofs.Common.{drop, false, refl, sym}
use Rattle.board_shapes.specs.Pieces.{plain_pieces}
use Rattle.board_shapes.specs.declared.shape.Shape.TheVariants.{Filled, Round}
use Rattle.arc_covers.specs.Bounds.{figures_of}
use Rattle.arc_covers.proofs.Figures.{as_shape, filled_refused}
use Rattle.arc_covers.proofs.rows.are_chain.Goals as goal

pub begin_chain-requires : goal.begin_chain-requires
begin_chain-requires c = (figures_of (plain_pieces (drop 1 c.args.pieces.now)), as_shape c.args.pieces.now c.in-Some.first.now (Round c.in-Round.capsule) (sym c.in-Some.ensures.value) c.in-Round.is)

pub returns-in-Filled : goal.returns-in-Filled
returns-in-Filled c = filled_refused c.args.side c.args.arc.now c.in-Filled.field-0.points.items (figures_of (plain_pieces (drop 1 c.args.pieces.now))) (figures_of (plain_pieces c.args.pieces.now)) false refl
    (as_shape c.args.pieces.now c.in-Some.first.now (Filled c.in-Filled.field-0) (sym c.in-Some.ensures.value) c.in-Filled.is)
