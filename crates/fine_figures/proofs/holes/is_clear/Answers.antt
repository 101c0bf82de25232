use Rattle.std.proofs.Common.{arith, ◌∙◌}
use Rattle.std.proofs.lemmas.Int.{ints}
use Rattle.std.specs.Int.{w64}
use Rattle.std.proofs.Math.Facts.{to_z_pos}
use Rattle.board_shapes.specs.Figures.{figure_of}
use Rattle.fine_figures.proofs.Pierced.{clear_read}
use Rattle.fine_figures.proofs.holes.is_clear.Goals as goal

pub returns : goal.returns
returns g c =
    clear_read c.is_apart.result c.args.frame c.args.centre c.args.r (figure_of c.args.bound.now) c.new-disc.result.a c.new-disc.result.b c.new-disc.result.r c.new-disc.ensures.start c.new-disc.ensures.end (c.new-disc.ensures.radius ∙ to_z_pos w64 (omega (arith, ints, c.if-r.false)))
    (c.is_placed.ensures.placed.0 c.if-not-is_placed.false) (omega (arith, ints), omega (arith, ints, c.if-r.false)) c.requires.inside c.is_apart.ensures
