-- Turns by about an angle, told by whole numbers, and the copper of a figure that is turned by it.
-- Source, cited as docs/FORMATS.md says: Gerber Layer Format Specification, 4.5.1 (each primitive is rotated counterclockwise about the origin of the macro, by degrees)
-- Trusted, and compared with sums of 60 digits by tools/tests/test_cones.py: `cosine` and `sine` are less than 1 off RADIUS times those of half the angle, and of half of each that is less than a part more
use Rattle.std.specs.Prelude.{ℕ, ◌+◌, ◌-◌, ◌*◌, ◌/◌, ◌<◌, pos, ◌+ℤ◌, ◌-ℤ◌, List}
use Rattle.planar.specs.Plane.{Point}
use Rattle.planar.specs.declared.Spot.{Spot}
use Rattle.slants.specs.Turned.{InTurned, IsBetween, TurnedAbove, TurnedBelow}
use Rattle.slants.specs.declared.cones.TheConstants.{DEGREE, ONE, PI, RADIUS, RIGHT_ANGLE}
use Rattle.slants.specs.declared.turns.Motions.{Motions}
use Rattle.slants.specs.declared.turns.Turn.{Turn}

-- ---- cosines and sines: numbers are whole parts of ONE

-- half the angle in radians, and its square
abbrev pub half_of : ℕ → ℕ
half_of angle = angle * PI / (360 * DEGREE)

abbrev pub square_of : ℕ → ℕ
square_of half = half * half / ONE

-- 1 - t z / k
abbrev pub lessened : ℕ → ℕ → ℕ → ℕ
lessened t k z = ONE - t * z / ONE / k

-- The series of the cosine, by the square t: 1 - t/2 (1 - t/12 (1 - t/30 ..)), up to the power 12 of half the angle
unfoldable pub cosine_by : ℕ → ℕ
cosine_by t = lessened t 2 (lessened t 12 (lessened t 30 (lessened t 56 (lessened t 90 (lessened t 132 ONE)))))

-- And of the sine, without its first factor: 1 - t/6 (1 - t/20 (1 - t/42 ..)), up to the power 12
unfoldable pub sine_by : ℕ → ℕ
sine_by t = lessened t 6 (lessened t 20 (lessened t 42 (lessened t 72 (lessened t 110 (lessened t 156 ONE)))))

-- RADIUS times a number, to the nearest whole one
abbrev pub scaled : ℕ → ℕ
scaled z = (z * RADIUS + ONE / 2) / ONE

-- of half the angle
unfoldable pub cosine : ℕ → ℕ
cosine angle = scaled (cosine_by (square_of (half_of angle)))

unfoldable pub sine : ℕ → ℕ
sine angle = scaled (half_of angle * sine_by (square_of (half_of angle)) / ONE)

-- ---- the cone

-- turns about the spot, from one that is less to one that is more: half the angle has a way within 1 of the cosine and the sine
abbrev pub turns_by : Spot → ℕ → Motions
turns_by about angle = record {
  first = record { x = pos (cosine angle) +ℤ pos 1; y = pos (sine angle) -ℤ pos 1 };
  last = record { x = pos (cosine angle) -ℤ pos 1; y = pos (sine angle) +ℤ pos 1 };
  from = about;
  to = about;
}

-- the point lies in the figure of the contour at each of these turns
abbrev pub SurelyTurned : List Spot → Spot → ℕ → Point → Type 0
SurelyTurned contour about angle p = (t : Turn) → IsBetween (turns_by about angle) t → InTurned contour (turns_by about angle) t p

-- at one of them
abbrev pub PossiblyTurned : List Spot → Spot → ℕ → Point → Type 0
PossiblyTurned contour about angle p = (t : Turn) × IsBetween (turns_by about angle) t × InTurned contour (turns_by about angle) t p

-- The points are a copper of the figure that is turned by the angle: the turn itself may have no rational way, and lies between these. All points that are in the figure at each of them are, and no others than those that are at one
pub record IsTurnedCopper (contour : List Spot) (about : Spot) (angle : ℕ) (holds : Point → Type 0) : Type 0 where
  pub least : (p : Point) → SurelyTurned contour about angle p → holds p
  pub most : (p : Point) → holds p → PossiblyTurned contour about angle p

-- ---- which contours are taken

-- the angle is below a right one, and the contour is taken at all turns of its cone
pub record FigureBelow (contour : List Spot) (about : Spot) (angle : ℕ) (points : List Spot) : Type 0 where
  pub acute : angle < RIGHT_ANGLE
  pub taken : TurnedBelow contour (turns_by about angle) points

pub record FigureAbove (contour : List Spot) (about : Spot) (angle : ℕ) (points : List Spot) : Type 0 where
  pub acute : angle < RIGHT_ANGLE
  pub taken : TurnedAbove contour (turns_by about angle) points
