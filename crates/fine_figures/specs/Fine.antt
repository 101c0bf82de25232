-- Figures on the grid of half a u, as sets of rational points.
-- Source, cited as docs/FORMATS.md says: Gerber Layer Format Specification, 4.4.2 to 4.4.4 (a circle, a rectangle and an obround are symmetric about the flash point): where a size is an odd number of u, the sides or the ends are at half a u
use Rattle.std.specs.Prelude.{pos, ◌*ℤ◌}
use Rattle.planar.specs.Plane.{InCapsule, Point}
use Rattle.contact.specs.Solid.{InBox}
use Rattle.fine_figures.specs.declared.FineFigure.{FineFigure}
use Rattle.fine_figures.specs.declared.FineFigure.TheVariants.{Round, Rectangle}

-- the point as far again from 0
abbrev pub twice : Point → Point
twice p = record { x = pos 2 *ℤ p.x; y = pos 2 *ℤ p.y; n = p.n; positive = p.positive }

-- the point lies in the figure: in half u, it is at most r from the segment, or not outside a side
abbrev pub InFine : FineFigure → Point → Type 0
InFine (Round f) p = InCapsule f.a f.b (pos f.r) (twice p)
InFine (Rectangle sides) p = InBox sides (twice p)
