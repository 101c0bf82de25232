-- Figures of real copper: what a flash, a draw or a contour makes. Which points each has, the crates of `real_shapes` say.
use Rattle.std.specs.Prelude.{ℕ, ◌-◌, Bool, ◌&&◌, nat_le, List, length, map, ℤ, pos, ◌+ℤ◌, ◌*ℤ◌, unsigned_abs}
use Rattle.std.specs.List.{list_all}
use Rattle.planar.specs.Plane.{is_placed}
use Rattle.planar.specs.declared.Spot.{Spot}
use Rattle.planar.specs.declared.TheConstants.{TWO_METRES}
use Rattle.board_shapes.specs.Figures.{Figure, figure_edges}
use Rattle.board_shapes.specs.Moved.{corners, shifted, shifted_figure}
use Rattle.arcs.specs.declared.Arc.{Arc}
use Rattle.arc_regions.specs.declared.Part.{Part}
use Rattle.arc_regions.specs.declared.Part.TheVariants.{Straight, Curved}
use Rattle.slants.specs.declared.Slant.{Slant}
use Rattle.slants.specs.declared.discs.TurnedDisc.{TurnedDisc}
use Rattle.turned_polygons.specs.declared.TurnedPolygon.{TurnedPolygon}
use Rattle.fine_figures.specs.declared.FineFigure.{FineFigure}
use Rattle.fine_figures.specs.declared.FineFigure.TheVariants.{Round, Rectangle}
use Rattle.fine_figures.specs.declared.HoledFigure.{HoledFigure}
use Rattle.step_repeat.specs.Figures.{Handling}

-- A figure that is taken exactly; an arc draw by its two ends, its centre and its pen (4.7, 4.8); the rectangle of a vector line along no
-- axis (4.5.1, code 20); what a contour with arcs bounds, by where it begins and its edges (4.10); a contour, and a disc, that is
-- turned about a spot, counterclockwise, by so many parts of 10^-7 degrees (4.5); a regular polygon (4.5.1, code 5); a figure of an odd
-- size, in half u (4.4, 4.5); and one with a round hole (4.4.6).
pub data RealFigure : Type 0 where
  exact : Figure → RealFigure
  arc : Arc → RealFigure
  line : Slant → RealFigure
  region : Spot → List Part → RealFigure
  turned : List Spot → Spot → ℕ → RealFigure
  turned_disc : TurnedDisc → RealFigure
  polygon : TurnedPolygon → RealFigure
  odd : FineFigure → RealFigure
  holed : HoledFigure → RealFigure

-- ---- What the reader does with them

-- how many edges one counts for the room: those of its border that are straight or arcs of a contour; none of what is round
abbrev pub odd_edges : FineFigure → ℕ
odd_edges (Round stroke) = 0
odd_edges (Rectangle sides) = 4

abbrev pub real_edges : RealFigure → ℕ
real_edges (exact f) = figure_edges f
real_edges (line a) = 4
real_edges (region start parts) = length parts
real_edges (turned contour about angle) = length contour - 1
real_edges (polygon g) = g.polygon.corners
real_edges (odd f) = odd_edges f
real_edges (holed h) = odd_edges h.outline
real_edges other = 0

-- an edge, and a figure in half u, so much further to the right and up
abbrev pub shifted_part : ℤ → ℤ → Part → Part
shifted_part dx dy (Straight to) = Straight (shifted dx dy to)
shifted_part dx dy (Curved b) = Curved (record { centre = shifted dx dy b.centre; end = shifted dx dy b.end; counterclockwise = b.counterclockwise })

abbrev pub shifted_odd : ℤ → ℤ → FineFigure → FineFigure
shifted_odd dx dy (Round s) = Round (record { a = shifted (pos 2 *ℤ dx) (pos 2 *ℤ dy) s.a; b = shifted (pos 2 *ℤ dx) (pos 2 *ℤ dy) s.b; r = s.r })
shifted_odd dx dy (Rectangle b) = Rectangle (record { left = b.left +ℤ pos 2 *ℤ dx; low = b.low +ℤ pos 2 *ℤ dy; right = b.right +ℤ pos 2 *ℤ dx; high = b.high +ℤ pos 2 *ℤ dy })

-- how a figure is moved by step and repeat (4.12)
abbrev pub shifted_real : ℤ → ℤ → RealFigure → RealFigure
shifted_real dx dy (exact f) = exact (shifted_figure dx dy f)
shifted_real dx dy (arc a) = arc (record { centre = shifted dx dy a.centre; start = shifted dx dy a.start; end = shifted dx dy a.end; width = a.width })
shifted_real dx dy (line a) = line (record { start = shifted dx dy a.start; end = shifted dx dy a.end; width = a.width })
shifted_real dx dy (region start parts) = region (shifted dx dy start) (map (shifted_part dx dy) parts)
shifted_real dx dy (turned contour about angle) = turned (map (shifted dx dy) contour) (shifted dx dy about) angle
shifted_real dx dy (turned_disc d) = turned_disc (record { centre = shifted dx dy d.centre; radius = d.radius; about = shifted dx dy d.about; angle = d.angle })
shifted_real dx dy (polygon g) = polygon (record { polygon = record (g.polygon) { centre = shifted dx dy g.polygon.centre }; about = shifted dx dy g.about; angle = g.angle })
shifted_real dx dy (odd f) = odd (shifted_odd dx dy f)
shifted_real dx dy (holed h) = holed (record { outline = shifted_odd dx dy h.outline; centre = shifted dx dy h.centre; hole = h.hole })

-- a spot in half u is at most 1 m from 0
abbrev pub is_half_placed : Spot → Bool
is_half_placed p = nat_le (unsigned_abs p.x) TWO_METRES && nat_le (unsigned_abs p.y) TWO_METRES

abbrev pub is_part_placed : Part → Bool
is_part_placed (Straight to) = is_placed to
is_part_placed (Curved b) = is_placed b.centre && is_placed b.end

abbrev pub is_odd_placed : FineFigure → Bool
is_odd_placed (Round s) = is_half_placed s.a && is_half_placed s.b
is_odd_placed (Rectangle b) = is_half_placed (record { x = b.left; y = b.low }) && is_half_placed (record { x = b.right; y = b.high })

-- each end, corner, centre and spot that it is turned about is at most 1 m from 0 in x and y (own)
abbrev pub is_real_placed : RealFigure → Bool
is_real_placed (exact f) = list_all is_placed (corners f)
is_real_placed (arc a) = is_placed a.centre && (is_placed a.start && is_placed a.end)
is_real_placed (line a) = is_placed a.start && is_placed a.end
is_real_placed (region start parts) = is_placed start && list_all is_part_placed parts
is_real_placed (turned contour about angle) = is_placed about && list_all is_placed contour
is_real_placed (turned_disc d) = is_placed d.centre && is_placed d.about
is_real_placed (polygon g) = is_placed g.polygon.centre && is_placed g.about
is_real_placed (odd f) = is_odd_placed f
is_real_placed (holed h) = is_odd_placed h.outline && is_placed h.centre

-- what the reader does with figures of real copper
abbrev pub real_handling : Handling RealFigure
real_handling = record { edges = real_edges; shifted = shifted_real; within = is_real_placed }
