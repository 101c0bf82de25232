use Rattle.std.proofs.Common.{refl}
use Rattle.board_shapes.specs.Pieces.{plain_pieces}
use Rattle.arc_covers.specs.Bounds.{figures_of}
use Rattle.arc_covers.proofs.Contours.{alone_stands}
use Rattle.arc_covers.proofs.Figures.{answer_taken, layers_refused, pieces_taken}
use Rattle.real_shapes.specs.declared.RealShape.TheVariants.{ArcDraw, Holed, Plain, Region, Turned}
use Rattle.arc_covers.proofs.between.stand.Goals as goal

pub returns-then-not-are_on : goal.returns-then-not-are_on
returns-then-not-are_on c = layers_refused c.args.side c.args.real.now c.args.pieces.now _ c.are_on.result refl c.if-not-are_on.true c.are_on.ensures

pub returns-in-Plain : goal.returns-in-Plain
returns-in-Plain c = pieces_taken c.args.side c.args.real.now (Plain c.in-Plain.shape) c.args.pieces.now c.is_itself.result c.in-Plain.is (c.are_on.ensures.0 c.if-not-are_on.false) c.is_itself.ensures

pub returns-in-ArcDraw : goal.returns-in-ArcDraw
returns-in-ArcDraw c = answer_taken c.args.side c.args.real.now (ArcDraw c.in-ArcDraw.arc) c.args.pieces.now c.are_chain.result c.in-ArcDraw.is (c.are_on.ensures.0 c.if-not-are_on.false) c.are_chain.ensures

pub returns-in-Region : goal.returns-in-Region
returns-in-Region c = answer_taken c.args.side c.args.real.now (Region c.in-Region.region) c.args.pieces.now c.is_region.result c.in-Region.is (c.are_on.ensures.0 c.if-not-are_on.false) c.is_region.ensures

pub returns-in-Turned : goal.returns-in-Turned
returns-in-Turned c = answer_taken c.args.side c.args.real.now (Turned c.in-Turned.figure) c.args.pieces.now c.is_turned.result c.in-Turned.is (c.are_on.ensures.0 c.if-not-are_on.false) c.is_turned.ensures

pub returns-in-Holed : goal.returns-in-Holed
returns-in-Holed c = pieces_taken c.args.side c.args.real.now (Holed c.in-Holed.holed) c.args.pieces.now c.is_holed.result c.in-Holed.is (c.are_on.ensures.0 c.if-not-are_on.false) c.is_holed.ensures

pub returns-in_default : goal.returns-in_default
returns-in_default c = pieces_taken c.args.side c.args.real.now c.args.real.now.shape c.args.pieces.now c.stand_alone.result refl (c.are_on.ensures.0 c.if-not-are_on.false)
    (alone_stands c.args.side c.args.real.now.shape (figures_of (plain_pieces c.args.pieces.now)) c.stand_alone.result c.in_default.not-Plain c.in_default.not-ArcDraw c.in_default.not-Region c.in_default.not-Turned c.in_default.not-Holed c.stand_alone.ensures)
