use Rattle.std.proofs.Common.{IfOk, IsTrue, subst, sym, ◌↔◌}
use Rattle.board_shapes.specs.Pieces.{plain_pieces}
use Rattle.arc_covers.specs.Bounds.{figures_of}
use Rattle.arc_covers.specs.Taken.{RegionTaken}
use Rattle.arc_covers.specs.declared.side.Side.{Side}
use Rattle.arc_covers.proofs.regions.is_region.Goals as goal

pub returns-in-Above : goal.returns-in-Above
returns-in-Above c = subst (λ (side : Side). IfOk c.is_above.result (λ yes. IsTrue yes ↔ RegionTaken side c.args.region.now (figures_of (plain_pieces c.args.pieces.now)))) (sym c.in-Above.is) c.is_above.ensures

pub returns-in-Below : goal.returns-in-Below
returns-in-Below c = subst (λ (side : Side). IfOk c.is_inside.result (λ yes. IsTrue yes ↔ RegionTaken side c.args.region.now (figures_of (plain_pieces c.args.pieces.now)))) (sym c.in-Below.is) c.is_inside.ensures
