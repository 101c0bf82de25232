-- What is right of a shape that is made by a copper file.
use Rattle.std.specs.Prelude.{Bool, true, ◌&&◌, nat_le, nat_lt}
use Rattle.real_shapes.specs.declared.RealShape.{RealShape}
use Rattle.real_shapes.specs.declared.RealShape.TheVariants.{Plain, ArcDraw, Slanted, Region, Turned, TurnedDisc, Polygon, Fine, Holed}
use Rattle.slants.specs.declared.cones.TheConstants.{RIGHT_ANGLE}

-- What is turned is turned by less than a right angle, and a polygon has from 3 to 12 corners (Gerber Layer Format Specification, 4.5.1).
abbrev pub is_settled : RealShape → Bool
is_settled (Plain shape) = true
is_settled (ArcDraw arc) = true
is_settled (Slanted line) = true
is_settled (Region area) = true
is_settled (Turned t) = nat_lt t.angle RIGHT_ANGLE
is_settled (TurnedDisc disc) = nat_lt disc.angle RIGHT_ANGLE
is_settled (Polygon g) = nat_lt g.angle RIGHT_ANGLE && (nat_le 3 g.polygon.corners && nat_le g.polygon.corners 12)
is_settled (Fine f) = true
is_settled (Holed h) = true
