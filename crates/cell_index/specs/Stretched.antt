-- Boxes and spots stretched over a whole frame. A place never falls where another rises, so boxes that meet still meet.
use Rattle.std.specs.Prelude.{◌≡◌, ℕ, ℤ, pos, ◌-ℤ◌, ◌*ℤ◌, ◌<◌, List, length, All}
use Rattle.std.specs.Int.{int_max, int_min}
use Rattle.board_shapes.specs.declared.placed.Placed.{Placed}
use Rattle.contact.specs.Solid.{IsInside}
use Rattle.contact.specs.declared.Bounds.{Bounds}
use Rattle.planar.specs.declared.Frame.{Frame}
use Rattle.planar.specs.declared.Spot.{Spot}
use Rattle.planar.specs.declared.TheConstants.{SIDE}
use Rattle.cell_index.specs.Among.{extent_in}
use Rattle.cell_index.specs.declared.plate.Plate.{Plate}
use Rattle.cell_index.specs.declared.stretch.Side.{Side}
use Rattle.cell_index.specs.declared.stretch.Stretch.{Stretch}

-- the frame that begins at 0
abbrev pub corner : Frame
corner = record { left = pos 0; low = pos 0 }

-- how far the place is along the side, so many times, and no further than a frame
abbrev pub place_of : Side → ℤ → ℤ
place_of s z = int_min SIDE (int_max (pos 0) (z -ℤ s.from) *ℤ pos s.times)

-- a box and a spot, each place of which is stretched
abbrev pub box_over : Stretch → Bounds → Bounds
box_over s b = record { left = place_of s.across b.left; low = place_of s.up b.low; right = place_of s.across b.right; high = place_of s.up b.high }

abbrev pub spot_over : Stretch → Spot → Spot
spot_over s p = record { x = place_of s.across p.x; y = place_of s.up p.y }

-- the box of each copy
abbrev pub copy_in : List (Placed Plate) → ℕ → Bounds
copy_in copies p = extent_in (λ s. s.bounds) copies p

-- These are the copies of the first n items, on one layer.
pub record AreCopies {A : Type 0} (box : A → Bounds) (s : Stretch) (items : List (Placed A)) (n : ℕ) (copies : List (Placed Plate)) : Type 0 where
  pub long : length copies ≡ n
  pub each : (p : ℕ) → p < n → copy_in copies p ≡ box_over s (extent_in box items p)
  pub flat : All (λ c. (c.top ≡ 1) × (c.bottom ≡ 1)) copies
  pub inside : All (λ c. IsInside c.shape.bounds corner) copies
