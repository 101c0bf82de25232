-- Shorts by the marks on nets, and pieces with a stamp.
use Rattle.std.specs.Prelude.{◌≡◌, ◌↔◌, ℕ, ◌+◌, ◌<◌, ◌≤◌, List, [], ◌∷◌, ◌++◌, length, map, slice_index_or, Contains}
use Rattle.verdict.specs.declared.verdict.Short.{Short}
use Rattle.verdict.specs.declared.verdict.Mark.{Mark}
use Rattle.verdict.specs.Right.{Outline, short_of}
use Rattle.verdict.specs.Seats.{branch_name, mark_name, marks_at}

-- a short of a net with these marks, without its paths
abbrev pub outline_of : ℕ → List Mark → Outline
outline_of net marks = record { net = net; names = map mark_name marks }

-- the shorts of the nets with two marks or more, from net n on
abbrev pub outlines_from : ℕ → List (List Mark) → List Outline
outlines_from n [] = []
outlines_from n (row ∷ rest) = short_of n (map mark_name row) ++ outlines_from (n + 1) rest

-- The net of the short has marks, and they have the names of its branches.
pub record HasMarks (marks : List (List Mark)) (s : Short) : Type 0 where
  pub within : s.net < length marks
  pub names : map branch_name s.branches ≡ map mark_name (marks_at marks s.net)

-- The pieces with the stamp are the ends.
abbrev pub AreStamped : List ℕ → ℕ → List ℕ → Type 0
AreStamped ends stamp stamps = (piece : ℕ) → Contains ends piece ↔ (slice_index_or stamps piece 0 ≡ stamp)

-- No stamp is higher.
abbrev pub AreUpTo : ℕ → List ℕ → Type 0
AreUpTo highest stamps = (piece : ℕ) → slice_index_or stamps piece 0 ≤ highest
