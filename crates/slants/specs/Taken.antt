-- Exactly which contours the checks take.
use Rattle.std.specs.Prelude.{ℕ, ◌*◌, ◌<◌, ◌^◌, ℤ, pos, unsigned_abs, ◌-ℤ◌, ◌*ℤ◌, ◌≤ℤ◌, ◌<ℤ◌, ◌≡◌, ⊤, Option, None, Some, List, [], ◌∷◌, All}
use Rattle.planar.specs.Plane.{IsPlaced, at, cross_of, dot_of, square}
use Rattle.planar.specs.declared.Spot.{Spot}
use Rattle.area_contact.specs.Contour.{IsClosed}
use Rattle.slants.specs.Copper.{InSlant}
use Rattle.slants.specs.declared.Slant.{Slant}
use Rattle.slants.specs.Rounds.{GoesRound}
use Rattle.slants.specs.declared.measures.TheConstants.{FINE}

-- what is said of a spot holds of each of the list
abbrev pub Each : (Spot → Type 0) → List Spot → Type 0
Each P [] = ⊤
Each P (q ∷ rest) = P q × Each P rest

-- start and end are within a metre
pub record IsPlacedSlant (a : Slant) : Type 0 where
  pub start : IsPlaced a.start
  pub end : IsPlaced a.end

-- so are they and the points
pub record ArePlaced (a : Slant) (points : List Spot) : Type 0 where
  pub slant : IsPlacedSlant a
  pub spots : All IsPlaced points

-- ---- below

-- the square of the width times that of the length
abbrev pub band : Slant → ℤ
band a = square (pos a.width) *ℤ dot_of a.start a.end a.end

-- that number; none where it does not fit in 128 bits
abbrev pub IsBand : Option ℕ → ℤ → Type 0
IsBand None z = pos (2 ^ 128) ≤ℤ z
IsBand (Some n) z = pos n ≡ z

-- a closed contour whose corners lie in the rectangle, where start and end are two spots and the band has 128 bits
pub record TakenBelow (a : Slant) (points : List Spot) : Type 0 where
  pub placed : ArePlaced a points
  pub apart : pos 1 ≤ℤ dot_of a.start a.end a.end
  pub closed : IsClosed points
  pub fits : band a <ℤ pos (2 ^ 128)
  pub corners : Each (λ q. InSlant a (at q)) points

-- ---- above

-- the scalar product of the ways from start to end and from b to c
abbrev pub rise : Slant → Spot → Spot → ℤ
rise a b c = dot_of a.start a.end c -ℤ dot_of a.start a.end b

-- that times the width, in parts of FINE
abbrev pub reach : Slant → Spot → Spot → ℕ
reach a b c = FINE * a.width * unsigned_abs (rise a b c)

-- The spot is on the left of the line from b to c, and so are all places that are half the width from it, across the line from start to end:
-- root is at most the length, in parts of 2 FINE
abbrev pub IsOff : Slant → ℤ → Spot → Spot → Spot → Type 0
IsOff a root b c q = (pos 0 ≤ℤ cross_of b c q) × (pos (reach a b c) ≤ℤ (cross_of b c q *ℤ root))

-- So are start and end: the edge has the rectangle on its left. The reach has 128 bits
abbrev pub Keeps : Slant → ℤ → Spot → Spot → Type 0
Keeps a root b c = (reach a b c < 2 ^ 128) × IsOff a root b c a.start × IsOff a root b c a.end

-- some whole number is at most the length, in parts of 2 FINE, and serves for each edge of a contour that goes round once
pub record HasRoot (a : Slant) (points : List Spot) : Type 0 where
  pub root : ℤ
  pub from_zero : pos 0 ≤ℤ root
  pub is : square root ≤ℤ (square (pos (2 * FINE)) *ℤ dot_of a.start a.end a.end)
  pub round : GoesRound (Keeps a root) points

-- all spots within a metre, and a contour that goes round once and has the rectangle on the left of each edge, by a number that serves
pub record TakenAbove (a : Slant) (points : List Spot) : Type 0 where
  pub placed : ArePlaced a points
  pub edges : HasRoot a points
