use Rattle.std.proofs.Common.{◌≡◌, sym, subst}
use Rattle.board_shapes.specs.Figures.{figure_of}
use Rattle.board_shapes.specs.declared.shape.Shape.{Shape}
use Rattle.board_package.specs.LabelledBoard as spec
use Rattle.board_package.proofs.Named.{first_is}
use Rattle.board_package.proofs.labelling.first_spot.Goals as goal

pub returns-in-Filled : goal.returns-in-Filled
returns-in-Filled c = subst (λ (s : Shape). c.corner.result ≡ spec.first_spot (figure_of s)) (sym c.in-Filled.is) (first_is c.in-Filled.area.points.items c.corner.result c.in-Filled.area.enough c.corner.ensures)
