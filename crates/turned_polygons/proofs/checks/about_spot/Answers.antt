use Rattle.turned_polygons.proofs.Spots.{about_is, read}
use Rattle.turned_polygons.proofs.checks.about_spot.Goals as goal

pub returns : goal.returns
returns c = about_is c.args.g.now c.args.s c.args.x c.args.y _ _ (read c.args.s.x c.args.x c.requires.placed.0 c.requires.x_short) (read c.args.s.y c.args.y c.requires.placed.1 c.requires.y_short)
