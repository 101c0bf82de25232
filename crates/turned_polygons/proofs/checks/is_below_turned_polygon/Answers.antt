use Rattle.std.proofs.Common.{All, subst, sym}
use Rattle.slants.specs.Polygons.{PolygonBelow}
use Rattle.turned_polygons.proofs.checks.is_below_turned_polygon.Goals as goal

pub returns-in-Some-clause-taken : goal.returns-in-Some-clause-taken
returns-in-Some-clause-taken c = (
  λ yes. record { near = c.in-Some.ensures.0; below = subst (λ gs. All (λ g. PolygonBelow g c.args.points.now) gs) c.in-Some.ensures.1 (c.is_below_each.ensures.0 yes) },
  λ h. c.is_below_each.ensures.1 (subst (λ gs. All (λ g. PolygonBelow g c.args.points.now) gs) (sym c.in-Some.ensures.1) h.below),
)

pub returns-in-Some-clause-copper : goal.returns-in-Some-clause-copper
returns-in-Some-clause-copper c = λ yes p. (c.turned_polygon_is_between.ensures c.args.a.now c.args.points.now p).0 ((returns-in-Some-clause-taken c).0 yes)
