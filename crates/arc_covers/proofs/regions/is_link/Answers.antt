use Rattle.std.proofs.Common.{pos}
use Rattle.board_shapes.specs.Figures.{figure_of}
use Rattle.arc_covers.proofs.Parts.{link_read}
use Rattle.arc_covers.proofs.regions.is_link.Goals as goal

pub returns-in-Some : goal.returns-in-Some
returns-in-Some c = link_read (figure_of c.args.shape.now) c.args.a c.in-Some.to c.args.b (pos c.args.r) c.is_same.result c.in-Some.ensures.some c.is_same.ensures.same
