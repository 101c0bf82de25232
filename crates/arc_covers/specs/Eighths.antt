-- What lies in a region: a contour that `arc_regions` takes, with chains of eighth turns.
use Rattle.std.specs.Int.{int_div_euclid}
use Rattle.std.specs.Prelude.{ℕ, zero, suc, ◌+◌, ◌*◌, ◌/◌, ℤ, pos, ◌+ℤ◌, ◌-ℤ◌, ◌*ℤ◌, int_le, int_lt, unsigned_abs, Bool, ◌&&◌, ◌||◌, if◌then◌else◌, List, [], ◌∷◌, ◌++◌}
use Rattle.planar.specs.Plane.{IsPlaced, IsWithin, cross_of, dot_of, is_placed}
use Rattle.planar.specs.declared.Frame.{Frame}
use Rattle.planar.specs.declared.Spot.{Spot}
use Rattle.planar.specs.declared.TheConstants.{METRE}
use Rattle.area_contact.specs.Contour.{IsContour}
use Rattle.arcs.specs.declared.Arc.{Arc}
use Rattle.arc_regions.specs.Copper.{end_of}
use Rattle.arc_regions.specs.Taken.{Chained, TakenBelow, arc_of}
use Rattle.arc_regions.specs.declared.Part.{Part}
use Rattle.arc_regions.specs.declared.Part.TheVariants.{Straight, Curved}
use Rattle.arc_covers.specs.declared.eighths.TheConstants.{HALF}

-- s turned about c by a quarter turn, counterclockwise
abbrev pub quarter_turn : Spot → Spot → Spot
quarter_turn c s = record { x = c.x -ℤ (s.y -ℤ c.y); y = c.y +ℤ (s.x -ℤ c.x) }

-- z times 70/99, to the nearest whole number: 1 over the root of 2, less 51 millionths of it
abbrev pub shortened : ℤ → ℤ
shortened z = int_div_euclid (z *ℤ pos 70 +ℤ pos 49) (pos 99)

-- s turned about c by about an eighth turn: the ways to s and to its quarter turn, together, and shortened
abbrev pub eighth_turn : Spot → Spot → Spot
eighth_turn c s = record { x = c.x +ℤ shortened (s.x -ℤ c.x -ℤ (s.y -ℤ c.y)); y = c.y +ℤ shortened (s.x -ℤ c.x +ℤ (s.y -ℤ c.y)) }

-- n spots: a, b, then both a quarter turn further, and so on
abbrev pub turns : ℕ → Spot → Spot → Spot → List Spot
turns zero c a b = []
turns (suc n) c a b = a ∷ turns n c b (quarter_turn c a)

-- s turned about c by one eighth turn to seven
abbrev pub eighth_turns : Spot → Spot → List Spot
eighth_turns c s = turns 7 c (eighth_turn c s) (quarter_turn c s)

-- p, an eighth turn from a, is within a metre and passed by the turn about c from a to e: that is a half turn or more, or e is further on than p by about a 64th of its distance from c
abbrev pub is_passed : Spot → Spot → Spot → Spot → Bool
is_passed c e a p = is_placed p && (int_le (cross_of c a e) (pos 0) || int_lt (pos (unsigned_abs (dot_of c e e) / 64)) (cross_of c p e))

-- the spots behind a, as long as each is passed by the turn from the one before it to e
abbrev pub passed : Spot → Spot → Spot → List Spot → List Spot
passed c e a [] = []
passed c e a (p ∷ rest) = if is_passed c e a p then p ∷ passed c e p rest else []

-- a chain of eighth turns, and of what is left
abbrev pub eighth_chain : Arc → List Spot
eighth_chain a = a.start ∷ (passed a.centre a.end a.start (eighth_turns a.centre a.start) ++ a.end ∷ [])

-- a twelfth of the distances across and up, rounded down, and 8 u: more than an eighth turn leaves its chord
abbrev pub eighth_radius : Spot → Spot → ℕ
eighth_radius c s = (unsigned_abs (s.x -ℤ c.x) + unsigned_abs (s.y -ℤ c.y)) / 12 + 8

-- each part with that chain
abbrev pub with_eighths : Spot → Part → Chained
with_eighths a (Straight b) = record { part = Straight b; chain = []; radius = 0 }
with_eighths a (Curved t) = record { part = Curved t; chain = eighth_chain (arc_of a t); radius = eighth_radius t.centre a }

abbrev pub by_eighths : Spot → List Part → List Chained
by_eighths a [] = []
by_eighths a (x ∷ rest) = with_eighths a x ∷ by_eighths (end_of x) rest

-- the square of a metre about the spot
abbrev pub frame_about : Spot → Frame
frame_about a = record { left = a.x -ℤ HALF; low = a.y -ℤ HALF }

-- a contour that is taken in the region, with these chains
abbrev pub LiesBelow : Spot → List Part → List Spot → Type 0
LiesBelow a parts points = IsContour points × TakenBelow (frame_about a) a (by_eighths a parts) points

-- ---- words that only contracts want

-- where the part ends, and an arc's centre, are within a metre
abbrev pub IsPartPlaced : Part → Type 0
IsPartPlaced (Straight b) = IsPlaced b
IsPartPlaced (Curved t) = IsPlaced t.centre × IsPlaced t.end

-- the way from c to s is at most four metres across and up
abbrev pub IsRound : Spot → Spot → Type 0
IsRound c s = IsWithin (4 * METRE) (s.x -ℤ c.x) × IsWithin (4 * METRE) (s.y -ℤ c.y)
