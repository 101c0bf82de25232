-- What an aperture of real copper flashes at a spot (Gerber Layer Format Specification, 4.4).
use Rattle.std.specs.Prelude.{ℕ, ◌+◌, ◌-◌, ◌*◌, ◌/◌, false, nat_lt, if◌then◌else◌, List, [], ◌∷◌, pos, ◌+ℤ◌, ◌-ℤ◌, Option, Some, option_map, Result, Ok, Err}
use Rattle.planar.specs.Plane.{IsWithin}
use Rattle.planar.specs.declared.Spot.{Spot}
use Rattle.planar.specs.declared.TheConstants.{METRE}
use Rattle.contact.specs.declared.Bounds.{Bounds}
use Rattle.apertures.specs.Flash.{NoFlash, flash_of, leaves}
use Rattle.board_shapes.specs.Figures.{Figure}
use Rattle.board_shapes.specs.Rectangles.{lower, upper}
use Rattle.arc_regions.specs.declared.Part.{Part}
use Rattle.arc_regions.specs.declared.Part.TheVariants.{Straight, Curved}
use Rattle.fine_figures.specs.declared.FineFigure.{FineFigure}
use Rattle.fine_figures.specs.declared.FineFigure.TheVariants.{Round, Rectangle}
use Rattle.fine_figures.specs.declared.FineStroke.{FineStroke}
use Rattle.real_copper.specs.Figures.{RealFigure, arc, exact, holed, is_real_placed, odd, region}
use Rattle.real_copper.specs.declared.aperture.OddForm.{OddForm}
use Rattle.real_copper.specs.declared.aperture.OddForm.TheVariants as form
use Rattle.real_copper.specs.declared.aperture.RealAperture.{RealAperture}
use Rattle.real_copper.specs.declared.aperture.RealAperture.TheVariants.{Exact, Ring, Frame, Odd, Pierced}

-- a spot at most 4 m from 0: a middle, wherever it is set down
abbrev pub IsAbout : Spot → Type 0
IsAbout p = IsWithin (4 * METRE) p.x × IsWithin (4 * METRE) p.y

-- in half u, the spots so far to the left of and below a spot, and to the right of and above it
abbrev pub half_below : Spot → ℕ → ℕ → Spot
half_below m w h = record { x = m.x +ℤ m.x -ℤ pos w; y = m.y +ℤ m.y -ℤ pos h }

abbrev pub half_above : Spot → ℕ → ℕ → Spot
half_above m w h = record { x = m.x +ℤ m.x +ℤ pos w; y = m.y +ℤ m.y +ℤ pos h }

-- a rectangle w wide and h high about its middle, in half u (4.4.3)
abbrev pub sides_about : Spot → ℕ → ℕ → Bounds
sides_about m w h = record { left = (half_below m w h).x; low = (half_below m w h).y; right = (half_above m w h).x; high = (half_above m w h).y }

-- an obround (4.4.4), or with equal sizes a circle (4.4.2), in half u: a wide one lies, any other stands
abbrev pub stroke_about : Spot → ℕ → ℕ → FineStroke
stroke_about m w h =
    if nat_lt h w then record { a = half_below m (w - h) 0; b = half_above m (w - h) 0; r = h }
    else record { a = half_below m 0 (h - w); b = half_above m 0 (h - w); r = w }

abbrev pub odd_at : OddForm → Spot → FineFigure
odd_at (form.Circle d) at = Round (stroke_about at d d)
odd_at (form.Rectangle x y) at = Rectangle (sides_about at x y)
odd_at (form.Obround x y) at = Round (stroke_about at x y)

-- A circle with a round hole has the copper of a round pen that is drawn once round its middle (4.4.2, 4.7.2): the middle of the pen lies
-- halfway between the hole and the outside, and the pen is as wide as the copper.
abbrev pub ring_at : ℕ → ℕ → Spot → RealFigure
ring_at d hole at = arc (record { centre = at; start = upper at ((d + hole) / 2) 0; end = upper at ((d + hole) / 2) 0; width = (d - hole) / 2 })

-- A rectangle with a round hole has the copper of a region with a cut-in (4.4.3, 4.10): from the right of the hole clockwise once round its
-- middle, straight to the right side, counterclockwise round the rectangle, and the same way back.
abbrev pub cut_in : Spot → Spot → Spot → Spot → List Part
cut_in centre border low high =
    Curved (record { centre = centre; end = border; counterclockwise = false }) ∷ Straight (record { x = high.x; y = border.y }) ∷
    Straight high ∷ Straight (record { x = low.x; y = high.y }) ∷ Straight low ∷ Straight (record { x = high.x; y = low.y }) ∷
    Straight (record { x = high.x; y = border.y }) ∷ Straight border ∷ []

abbrev pub frame_at : ℕ → ℕ → ℕ → Spot → RealFigure
frame_at x y hole at = region (upper at hole 0) (cut_in at (upper at hole 0) (lower at x y) (upper at x y))

-- any with a hole of any size: what is nearer to the middle than half its diameter is left out (4.4.6)
abbrev pub pierced_at : OddForm → ℕ → Spot → RealFigure
pierced_at f hole at = holed (record { outline = odd_at f at; centre = at; hole = hole })

-- Each end, corner and middle is at most 1 m from 0, of a ring also the spot at which it is begun (own).
abbrev pub within : RealFigure → Result (Option RealFigure) NoFlash
within f = if is_real_placed f then Ok (Some f) else Err leaves

abbrev pub as_real : Result (Option Figure) NoFlash → Result (Option RealFigure) NoFlash
as_real (Ok f) = Ok (option_map exact f)
as_real (Err why) = Err why

abbrev pub real_flash : RealAperture → Spot → Result (Option RealFigure) NoFlash
real_flash (Exact a) at = as_real (flash_of a at)
real_flash (Ring d hole) at = within (ring_at d hole.diameter at)
real_flash (Frame x y hole) at = within (frame_at x y hole.diameter at)
real_flash (Odd f) at = within (odd (odd_at f at))
real_flash (Pierced f hole) at = within (pierced_at f hole.diameter at)
