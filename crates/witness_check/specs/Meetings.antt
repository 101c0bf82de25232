-- How often two pieces come together in a sweep.
use Rattle.std.specs.Prelude.{◌≡◌, ℕ, ◌+◌, ◌≤◌, ◌==◌, ◌&&◌, ◌||◌, if◌then◌else◌, Bool, List, [], ◌∷◌}
use Rattle.board_shapes.specs.Plain.{PlainBoard}
use Rattle.witness_check.specs.Strips.{AreIntervals, come_together}
use Rattle.witness_check.specs.declared.strips.Interval.{Interval}

-- The two intervals are of pieces p and q, in either order.
abbrev pub are_of : ℕ → ℕ → Interval → Interval → Bool
are_of p q one two = (one.piece == p && two.piece == q) || (one.piece == q && two.piece == p)

-- with how many of the later intervals it comes together as p with q
abbrev pub met_with : ℕ → ℕ → Interval → List Interval → ℕ
met_with p q one [] = 0
met_with p q one (two ∷ later) = (if come_together one two && are_of p q one two then 1 else 0) + met_with p q one later

-- how many pairs of intervals of p and q come together
abbrev pub meetings : ℕ → ℕ → List Interval → ℕ
meetings p q [] = 0
meetings p q (one ∷ later) = met_with p q one later + meetings p q later

-- Two pieces come together at most once, and none with itself.
pub record MeetOnce (xs : List Interval) : Type 0 where
  pub once : (p q : ℕ) → meetings p q xs ≤ 1
  pub none : (p : ℕ) → meetings p p xs ≡ 0

-- Of the intervals of any board each two pieces come together at most once.
abbrev pub PairsComeTogetherOnce : Type 0
PairsComeTogetherOnce = (b : PlainBoard) (height : ℕ) (xs : List Interval) → AreIntervals b height xs → MeetOnce xs
