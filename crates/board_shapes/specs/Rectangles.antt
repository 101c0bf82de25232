-- Rectangles along the axes, by spots in them.
use Rattle.std.specs.Prelude.{ℕ, ◌/◌, List, [], ◌∷◌, ℤ, pos, ◌+ℤ◌, ◌-ℤ◌}
use Rattle.planar.specs.declared.Spot.{Spot}

-- half a size, rounded down
abbrev pub halved : ℕ → ℤ
halved n = pos (n / 2)

-- the spot so far to the left and below, or to the right and above, by halves
abbrev pub lower : Spot → ℕ → ℕ → Spot
lower p w h = record { x = p.x -ℤ halved w; y = p.y -ℤ halved h }

abbrev pub upper : Spot → ℕ → ℕ → Spot
upper p w h = record { x = p.x +ℤ halved w; y = p.y +ℤ halved h }

-- the contour between two corners: lower left, lower right, upper right, upper left, and lower left again
abbrev pub rectangle : Spot → Spot → List Spot
rectangle low high = low ∷ record { x = high.x; y = low.y } ∷ high ∷ record { x = low.x; y = high.y } ∷ low ∷ []
