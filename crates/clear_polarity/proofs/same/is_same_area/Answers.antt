use Rattle.std.proofs.Common.{ap}
use Rattle.std.proofs.lemmas.Slice.Eq.{slice_eq-Decides}
use Rattle.board_shapes.specs.Figures.{filled}
use Rattle.clear_polarity.proofs.Lists.{points_in, spot_decides}
use Rattle.clear_polarity.proofs.same.is_same_area.Goals as goal

pub returns : goal.returns
returns c =
    let same = slice_eq-Decides spot_decides c.args.a.now.points.items c.args.b.now.points.items c.eq.result c.eq.ensures in
    (λ yes. ap filled (same.0 yes), λ e. same.1 (ap points_in e))
