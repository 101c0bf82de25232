-- What an aperture flashes.
use Rattle.std.specs.Prelude.{◌≡◌, ℕ, Bool, true, false, ◌&&◌, ◌==◌, ◌%◌, ◌/◌, ◌-◌, min, nat_lt, if◌then◌else◌, List, ℤ, pos, ◌≤◌, ◌≤ℤ◌, unsigned_abs, Option, Some, None, Result, Ok, Err}
use Rattle.std.specs.List.{list_all}
use Rattle.contact.specs.declared.TheConstants.{MOST_DIAMETER}
use Rattle.planar.specs.Plane.{is_placed}
use Rattle.planar.specs.declared.Spot.{Spot}
use Rattle.planar.specs.declared.TheConstants.{METRE}
use Rattle.board_shapes.specs.declared.shape.Shape.{Shape}
use Rattle.board_shapes.specs.Figures.{Figure, Stroke, filled, round, seen_shape}
use Rattle.board_shapes.specs.Rectangles.{lower, rectangle, upper}
use Rattle.apertures.specs.declared.aperture.Aperture.{Aperture}
use Rattle.apertures.specs.declared.aperture.Aperture.TheVariants.{Circle, Rectangle, Obround}
use Rattle.apertures.specs.declared.fault.FlashFault.{FlashFault}
use Rattle.apertures.specs.declared.fault.FlashFault.TheVariants.{OutOfRange, NoMemory}
use Rattle.apertures.specs.Definition.{is_zero}

-- a size: even, and from 0 to 1 m
pub record IsSize (z : ℤ) : Type 0 where
  pub low : pos 0 ≤ℤ z
  pub high : z ≤ℤ pos METRE
  pub even : unsigned_abs z % 2 ≡ 0

-- at most the greatest diameter
abbrev pub IsNarrow : ℕ → Type 0
IsNarrow size = size ≤ MOST_DIAMETER

-- every size is one; only a circle may have a size of 0; neither a circle's diameter nor an obround's lesser side is over MOST_DIAMETER
abbrev pub IsLawful : Aperture → Type 0
IsLawful (Circle d) = IsSize d × IsNarrow (unsigned_abs d)
IsLawful (Rectangle x y) = IsSize x × IsSize y × (is_zero x ≡ false) × (is_zero y ≡ false)
IsLawful (Obround x y) = IsSize x × IsSize y × (is_zero x ≡ false) × (is_zero y ≡ false) × IsNarrow (min (unsigned_abs x) (unsigned_abs y))

-- whether the aperture flashes an area
abbrev pub is_of_area : Aperture → Bool
is_of_area (Rectangle x y) = true
is_of_area other = false

-- the diameter of the pen that the aperture is: a circle alone draws (4.8)
abbrev pub pen_of : Aperture → Option ℤ
pen_of (Circle d) = Some d
pen_of other = None

-- half a size
abbrev pub half : ℤ → ℤ
half z = pos (unsigned_abs z / 2)

-- a disc of this diameter around the spot; none for diameter 0
abbrev pub disc : ℕ → Spot → Option Figure
disc d at = if d == 0 then None else Some (round (record { a = at; b = at; r = pos (d / 2) }))

-- why there is no flash: an end or a corner is over 1 m from 0
pub data NoFlash : Type 0 where
  leaves : NoFlash

-- the area of these spots, each within 1 m
abbrev pub area_at : List Spot → Result (Option Figure) NoFlash
area_at points = if list_all is_placed points then Ok (Some (filled points)) else Err leaves

-- that of four corners
abbrev pub rectangle_at : ℕ → ℕ → Spot → Result (Option Figure) NoFlash
rectangle_at x y at = area_at (rectangle (lower at x y) (upper at x y))

-- a capsule with both ends within 1 m
abbrev pub placed : Stroke → Result (Option Figure) NoFlash
placed s = if is_placed s.a && is_placed s.b then Ok (Some (round s)) else Err leaves

-- With x over y its segment lies across, of length x - y, and the radius is y/2; otherwise it stands, of length y - x, with x/2.
abbrev pub obround : ℕ → ℕ → Spot → Result (Option Figure) NoFlash
obround x y at =
    if nat_lt y x then placed (record { a = lower at (x - y) 0; b = upper at (x - y) 0; r = pos (y / 2) })
    else placed (record { a = lower at 0 (y - x); b = upper at 0 (y - x); r = pos (x / 2) })

-- What the aperture makes at a spot (Gerber Layer Format Specification, 4.4).
unfoldable pub flash_of : Aperture → Spot → Result (Option Figure) NoFlash
flash_of (Circle d) at = Ok (disc (unsigned_abs d) at)
flash_of (Rectangle x y) at = rectangle_at (unsigned_abs x) (unsigned_abs y) at
flash_of (Obround x y) at = obround (unsigned_abs x) (unsigned_abs y) at

-- the answer is the flash
abbrev pub IsFlash : Result (Option Shape) FlashFault → Result (Option Figure) NoFlash → Type 0
IsFlash (Ok shape) flash = Ok (seen_shape shape) ≡ flash
IsFlash (Err OutOfRange) flash = Err leaves ≡ flash
IsFlash (Err NoMemory) flash = ⊥

-- the answer is the flash, unless memory is wanted
abbrev pub Flashes : Result (Option Shape) FlashFault → Result (Option Figure) NoFlash → Type 0
Flashes (Ok shape) flash = Ok (seen_shape shape) ≡ flash
Flashes (Err OutOfRange) flash = Err leaves ≡ flash
Flashes (Err NoMemory) flash = Unit {0}
