use Rattle.std.proofs.Common.{subst}
use Rattle.slants.specs.Polygons.{PolygonsAbove}
use Rattle.turned_polygons.proofs.checks.is_above_turned_polygon.Goals as goal

pub returns-in-Some-clause-copper : goal.returns-in-Some-clause-copper
returns-in-Some-clause-copper c = λ yes p. (c.turned_polygon_is_between.ensures c.args.a.now c.args.points.now p).1 record {
  near = c.in-Some.ensures.0;
  above = subst (λ gs. PolygonsAbove gs c.args.points.now) c.in-Some.ensures.1 (c.is_above_polygons.ensures.taken.0 yes);
}
