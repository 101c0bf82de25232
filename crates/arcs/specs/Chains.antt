-- Chords and chains of chords.
use Rattle.std.specs.Prelude.{ℕ, ◌^◌, Option, Some, None, ℤ, pos, ◌+ℤ◌, ◌*ℤ◌, ◌≤ℤ◌, ◌<ℤ◌, ◌≡◌, ◌⊎◌, List, [], ◌∷◌}
use Rattle.planar.specs.Plane.{cross_of, dot_of, square, EachFrom}
use Rattle.planar.specs.declared.Spot.{Spot}

-- a and b are at most `far` from c, b on the left of a, and the line through both is at least `near` from c
pub record IsChord (c : Spot) (near far : ℤ) (a b : Spot) : Type 0 where
  pub left : pos 1 ≤ℤ cross_of c a b
  pub first : dot_of c a a ≤ℤ square far
  pub last : dot_of c b b ≤ℤ square far
  pub line : (square near *ℤ dot_of a b b) ≤ℤ square (cross_of c a b)

-- a and b, which is on the left of a, lie in the turn, and so does the way from one to the other
pub data InTurnBoth (c s e a b : Spot) : Type 0 where
  in_less : pos 0 <ℤ cross_of c s e → pos 0 ≤ℤ cross_of c s a → pos 0 ≤ℤ cross_of c s b → cross_of c e a ≤ℤ pos 0 → cross_of c e b ≤ℤ pos 0 → InTurnBoth c s e a b
  after_start : cross_of c s e <ℤ pos 0 → pos 0 ≤ℤ cross_of c s a → pos 0 ≤ℤ cross_of c s b → InTurnBoth c s e a b
  before_end : cross_of c s e <ℤ pos 0 → (pos 0 ≤ℤ cross_of c s a) ⊎ (cross_of c e a ≤ℤ pos 0) → cross_of c e b ≤ℤ pos 0 → InTurnBoth c s e a b
  in_half : cross_of c s e ≡ pos 0 → dot_of c s e <ℤ pos 0 → pos 0 ≤ℤ cross_of c s a → pos 0 ≤ℤ cross_of c s b → InTurnBoth c s e a b
  in_whole : s ≡ e → InTurnBoth c s e a b

-- the product by which the line's distance is compared with near has 128 bits
abbrev pub IsMeasured : ℤ → Spot → Spot → Type 0
IsMeasured near a b = (square near *ℤ dot_of a b b) <ℤ pos (2 ^ 128)

-- a chord that can be measured
abbrev pub IsLink : Spot → ℤ → ℤ → Spot → Spot → Type 0
IsLink c near far a b = IsChord c near far a b × IsMeasured near a b

-- one in the turn
abbrev pub IsInner : Spot → Spot → Spot → ℤ → ℤ → Spot → Spot → Type 0
IsInner c s e near far a b = IsLink c near far a b × InTurnBoth c s e a b

-- Whole numbers round the radii whose squares are low and high: least is at most the one, most at least the other. Chords between near and far of c are at most k off
pub record IsRoom (low high least most near far k : ℤ) : Type 0 where
  pub least_from : pos 0 ≤ℤ least
  pub most_from : pos 0 ≤ℤ most
  pub near_from : pos 0 ≤ℤ near
  pub far_from : pos 0 ≤ℤ far
  pub k_from : pos 0 ≤ℤ k
  pub least_is : square least ≤ℤ low
  pub most_is : high ≤ℤ square most
  pub near_is : most ≤ℤ (near +ℤ k)
  pub far_is : far ≤ℤ (least +ℤ k)

-- some whole numbers lie round the radii
pub record HasRoom (low high near far k : ℤ) : Type 0 where
  pub least : ℤ
  pub most : ℤ
  pub room : IsRoom low high least most near far k

-- the last of a and the list is e
abbrev pub EndsAt : Spot → Spot → List Spot → Type 0
EndsAt e a [] = a ≡ e
EndsAt e a (b ∷ rest) = EndsAt e b rest

-- so it is of a list that has a first
abbrev pub EachIn : (Spot → Spot → Type 0) → List Spot → Type 0
EachIn P [] = ⊥
EachIn P (a ∷ rest) = EachFrom P a rest

-- and the list leads from s to e
abbrev pub Leads : (Spot → Spot → Type 0) → Spot → Spot → List Spot → Type 0
Leads P s e [] = ⊥
Leads P s e (a ∷ rest) = (a ≡ s) × EachFrom P a rest × EndsAt e a rest

-- the number; none where it does not fit in 128 bits
abbrev pub IsHeld : Option ℕ → ℤ → Type 0
IsHeld None z = pos (2 ^ 128) ≤ℤ z
IsHeld (Some n) z = pos n ≡ z

-- the least whole number whose square is at least z
pub record IsLeastOver (z n : ℤ) : Type 0 where
  pub over : z ≤ℤ square n
  pub least : (m : ℤ) → pos 0 ≤ℤ m → z ≤ℤ square m → n ≤ℤ m

-- the greatest whole number whose square is at most z
pub record IsGreatestUnder (z n : ℤ) : Type 0 where
  pub under : square n ≤ℤ z
  pub greatest : (m : ℤ) → square m ≤ℤ z → m ≤ℤ n

-- the least whole number whose square is at least z; none where z does not fit in 128 bits
abbrev pub IsRootOver : Option ℕ → ℤ → Type 0
IsRootOver None z = pos (2 ^ 128) ≤ℤ z
IsRootOver (Some n) z = (z <ℤ pos (2 ^ 128)) × IsLeastOver z (pos n)

-- distances of chords that are at most k off, and of all such the least and the greatest
pub record IsWidest (low high near far k : ℤ) : Type 0 where
  pub room : HasRoom low high near far k
  pub nearest : (n f : ℤ) → HasRoom low high n f k → near ≤ℤ n
  pub furthest : (n f : ℤ) → HasRoom low high n f k → f ≤ℤ far

-- these distances; none where the greater square does not fit in 128 bits
abbrev pub IsRing : Option (ℕ × ℕ) → ℤ → ℤ → ℤ → Type 0
IsRing None low high k = pos (2 ^ 128) ≤ℤ high
IsRing (Some ring) low high k = (high <ℤ pos (2 ^ 128)) × IsWidest low high (pos ring.0) (pos ring.1) k
