use Rattle.std.proofs.Common.{subst, sym}
use Rattle.board_shapes.specs.Pieces.{plain_pieces}
use Rattle.arc_regions.specs.declared.Part.{Part}
use Rattle.arc_regions.specs.declared.Part.TheVariants.{Curved}
use Rattle.arc_covers.specs.Bounds.{figures_of}
use Rattle.arc_covers.specs.Regions.{NoneStands}
use Rattle.arc_covers.proofs.Figures.{none_of}
use Rattle.arc_covers.proofs.regions.part_stands.Goals as goal

pub returns-in-None-clause-none : goal.returns-in-None-clause-none
returns-in-None-clause-none c =
    subst (λ (x : Part). NoneStands c.args.start x c.args.corners.now (figures_of (plain_pieces c.args.pieces.now))) (sym c.in-Curved.is)
    (none_of c.in_ok-n-in-Curved.field-0 (NoneStands c.args.start (Curved c.in-Curved.bend) c.args.corners.now (figures_of (plain_pieces c.args.pieces.now))) c.in-None.is c.in_ok-n-in-Curved.ensures.none)
