-- Spots near the corners of a turned figure, and how far off they may be. Nobody needs to trust them: the checks look at them.
use Rattle.std.specs.Int.{int_div_euclid}
use Rattle.std.specs.Prelude.{ℕ, if◌then◌else◌, ◌+◌, ◌-◌, ◌*◌, ◌/◌, ℤ, pos, ◌+ℤ◌, ◌-ℤ◌, ◌*ℤ◌, unsigned_abs, max, List, [], ◌∷◌, map}
use Rattle.planar.specs.Plane.{is_placed}
use Rattle.planar.specs.declared.Spot.{Spot}
use Rattle.slants.specs.declared.cones.TheConstants.{ONE, PI}
use Rattle.turned_outlines.specs.declared.nearest.Direction.{Direction}
use Rattle.turned_outlines.specs.declared.nearest.TheConstants.{FINE, PARTS, SCALE}

-- ---- a direction at about the angle

-- a way at twice the angle, in whole parts of ONE and at most that
unfoldable pub doubled : ℕ × ℕ → ℕ × ℕ
doubled w = (w.0 * w.0 / ONE - w.1 * w.1 / ONE, ONE - (ONE - 2 * (w.0 * w.1 / ONE)))

-- five times
unfoldable pub doubled_five : ℕ × ℕ → ℕ × ℕ
doubled_five w = doubled (doubled (doubled (doubled (doubled w))))

-- half the angle, about: a way that is so low that its height is its angle, doubled twenty times
unfoldable pub half_way : ℕ → ℕ × ℕ
half_way angle = doubled_five (doubled_five (doubled_five (doubled_five (ONE, angle * PI / PARTS))))

-- its square: n times the cosine and the sine of the angle, about
abbrev pub direction_by : ℕ × ℕ → Direction
direction_by w = record { x = (w.0 * w.0 - w.1 * w.1) / SCALE; y = 2 * w.0 * w.1 / SCALE; n = (w.0 * w.0 + w.1 * w.1) / SCALE + 1 }

-- ---- a spot turned so

-- z/n, to the nearest whole number
abbrev pub nearest : ℤ → ℤ → ℤ
nearest z n = int_div_euclid (z +ℤ z +ℤ n) (n +ℤ n)

-- s turned about o, to the nearest spot
abbrev pub turned_spot : Direction → Spot → Spot → Spot
turned_spot d o s = record {
  x = nearest (pos d.n *ℤ o.x +ℤ (pos d.x *ℤ (s.x -ℤ o.x) -ℤ pos d.y *ℤ (s.y -ℤ o.y))) (pos d.n);
  y = nearest (pos d.n *ℤ o.y +ℤ (pos d.x *ℤ (s.y -ℤ o.y) +ℤ pos d.y *ℤ (s.x -ℤ o.x))) (pos d.n);
}

-- that spot where it is within a metre, else s
abbrev pub kept : Spot → Spot → Spot
kept q s = if is_placed q then q else s

abbrev pub turned_corner : Direction → Spot → Spot → Spot
turned_corner d o s = kept (turned_spot d o s) s

abbrev pub turned_at : ℕ → Spot → Spot → Spot
turned_at angle about s = turned_corner (direction_by (half_way angle)) about s

abbrev pub turned_corners : List Spot → Spot → ℕ → List Spot
turned_corners figure about angle = map (turned_corner (direction_by (half_way angle)) about) figure

-- ---- how far off they may be

-- the greatest of m and how far spots of the list are from o, across or up
abbrev pub far_by : Spot → ℕ → List Spot → ℕ
far_by o m [] = m
far_by o m (s ∷ rest) = far_by o (max m (max (unsigned_abs (s.x -ℤ o.x)) (unsigned_abs (s.y -ℤ o.y)))) rest

-- a ten millionth of that, and 2 u, for the turns of the cone and for the grid
abbrev pub slack : List Spot → Spot → ℕ
slack figure about = 2 + far_by about 0 figure / FINE
