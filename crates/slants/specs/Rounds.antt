-- Contours that go round once: their edges rise in one run.
use Rattle.std.specs.Prelude.{ℕ, ◌+◌, ◌≤◌, Bool, true, false, ◌&&◌, ◌||◌, int_le, int_lt, pos, ◌≡◌, ◌⊎◌, List, [], ◌∷◌}
use Rattle.planar.specs.Plane.{cross_of, EachFrom}
use Rattle.planar.specs.declared.Spot.{Spot}
use Rattle.area_contact.specs.Contour.{IsClosed}

-- the way goes up from a to b: b is higher, or as high where the way went up before
abbrev pub goes_up : Bool → Spot → Spot → Bool
goes_up up a b = int_lt a.y b.y || (up && int_le a.y b.y)

-- 1 where of two ways one goes up and one down
abbrev pub change : Bool → Bool → ℕ
change true true = 0
change true false = 1
change false true = 1
change false false = 0

-- how often the way from a through the spots changes between up and down, where it came to a so; what is level goes on as before
abbrev pub changes : Bool → Spot → List Spot → ℕ
changes up a [] = 0
changes up a (b ∷ rest) = change up (goes_up up a b) + changes (goes_up up a b) b rest

-- b and c are on one line through a
abbrev pub IsFlat : Spot → Spot → Spot → Type 0
IsFlat a b c = cross_of a b c ≡ pos 0

-- the way from a through the spots changes at most twice between up and down, and some edge's line has a beside it
pub record GoesOnce (a : Spot) (rest : List Spot) : Type 0 where
  pub once : (changes true a rest ≤ 2) ⊎ (changes false a rest ≤ 2)
  pub wide : ¬ EachFrom (IsFlat a) a rest

-- of an edge on the way, or on the way back
abbrev pub on_way : Bool → (Spot → Spot → Type 0) → Spot → Spot → Type 0
on_way false P b c = P b c
on_way true P b c = P c b

-- of each edge on the way, or of each on the way back
abbrev pub EachEdge : (Spot → Spot → Type 0) → Spot → List Spot → Type 0
EachEdge P a rest = EachFrom (on_way false P) a rest ⊎ EachFrom (on_way true P) a rest

-- a closed contour that goes round once, with each edge so, either way round
abbrev pub GoesRound : (Spot → Spot → Type 0) → List Spot → Type 0
GoesRound P [] = ⊥
GoesRound P (a ∷ rest) = IsClosed (a ∷ rest) × GoesOnce a rest × EachEdge P a rest
