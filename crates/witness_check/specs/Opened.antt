-- Opens of a name that stand in a list.
use Rattle.std.specs.Prelude.{◌≡◌, ◌≤◌, ◌↔◌, ℕ, List, ◌++◌, drop, length, Option, Some, None}
use Rattle.verdict.specs.declared.verdict.Open.{Open}
use Rattle.verdict.specs.declared.verdict.Seat.{Seat}

-- the open of a name at a seat, against its home
abbrev pub open_by : ℕ → ℕ → Seat → Open
open_by name home s = record { name = name; home = home; other = s.net; probe = s.probe }

-- The opens from place `next` on begin with the part, and `after` is the place behind it; none where they do not.
abbrev pub IsPast : List Open → List Open → ℕ → Option ℕ → Type 0
IsPast opens part next None = (rest : List Open) → drop next opens ≡ part ++ rest → ⊥
IsPast opens part next (Some after) = (after ≤ length opens) × ((rest : List Open) → (drop next opens ≡ part ++ rest) ↔ (drop after opens ≡ rest))
