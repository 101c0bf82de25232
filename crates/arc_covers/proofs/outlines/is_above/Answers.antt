use Rattle.std.proofs.Common.{IsTrue, List, ◌↔◌, subst}
use Rattle.board_shapes.specs.Figures.{Figure}
use Rattle.arc_covers.specs.Taken.{TurnedTaken}
use Rattle.arc_covers.specs.declared.side.Side.TheVariants.{Above}
use Rattle.arc_covers.proofs.Outlined.{first_filled}
use Rattle.arc_covers.proofs.outlines.is_above.Goals as goal

pub returns-in-Filled : goal.returns-in-Filled
returns-in-Filled c =
    subst (λ (figures : List Figure). IsTrue c.holds.result ↔ TurnedTaken Above c.args.figure.now.contour.items c.args.figure.now.about c.args.figure.now.angle figures)
    (first_filled c.args.pieces.now c.first-item.result c.in-Filled.area c.in-len1-up.len_at_least c.first-item.is c.in-Filled.is) c.holds.ensures
