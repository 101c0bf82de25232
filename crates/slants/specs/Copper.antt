-- The copper of a slanted rectangle, as a set of rational points, without roots and angles.
-- Source, cited as docs/FORMATS.md says: Gerber Layer Format Specification, 4.5.1 (a vector line, code 20: square ends that are cut at start and end)
use Rattle.std.specs.Prelude.{ℤ, pos, ◌+ℤ◌, ◌-ℤ◌, ◌*ℤ◌, ◌≤ℤ◌}
use Rattle.planar.specs.Plane.{Point, dot_of, square}
use Rattle.planar.specs.declared.Spot.{Spot}
use Rattle.area_contact.specs.Parity.{side_of}
use Rattle.slants.specs.declared.Slant.{Slant}

-- n times the scalar product of e - s and p - s: from 0 where p is not behind s, on a line from s to e
abbrev pub along_of : Spot → Spot → Point → ℤ
along_of s e p = (e.x -ℤ s.x) *ℤ (p.x -ℤ p.n *ℤ s.x) +ℤ (e.y -ℤ s.y) *ℤ (p.y -ℤ p.n *ℤ s.y)

-- The point lies in the rectangle: between the lines across both ends, and at most half the width from the line through them. Where start and end are one spot, no point does
pub record InSlant (a : Slant) (p : Point) : Type 0 where
  pub apart : pos 1 ≤ℤ dot_of a.start a.end a.end
  pub from_start : pos 0 ≤ℤ along_of a.start a.end p
  pub to_end : along_of a.start a.end p ≤ℤ (p.n *ℤ dot_of a.start a.end a.end)
  pub beside : square (pos 2 *ℤ side_of a.start a.end p.x p.y p.n) ≤ℤ (square (p.n *ℤ pos a.width) *ℤ dot_of a.start a.end a.end)
