-- Lists of the numbers of which something holds.
use Rattle.std.specs.Prelude.{ℕ, ◌≡◌, ◌<◌, ◌≤◌, Option, Some, None, List, [], length, slice_index_or, Contains}
use Rattle.std.specs.List.Sorted.{IsStrictlyIncreasing}

-- exactly the numbers that P says, rising
pub record Lists (P : ℕ → Type 0) (xs : List ℕ) : Type 0 where
  pub rising : IsStrictlyIncreasing xs
  pub only : (q : ℕ) → Contains xs q → P q
  pub all : (q : ℕ) → P q → Contains xs q

-- the least number that P says, or none where it says none
abbrev pub IsLeast : (ℕ → Type 0) → Option ℕ → Type 0
IsLeast P None = (q : ℕ) → P q → ⊥
IsLeast P (Some least) = P least × ((q : ℕ) → P q → least ≤ q)

-- a row for each of so many items, which lists the numbers that R says of the item
pub record AreRows (count : ℕ) (R : ℕ → ℕ → Type 0) (rows : List (List ℕ)) : Type 0 where
  pub many : length rows ≡ count
  pub each : (i : ℕ) → i < count → Lists (R i) (slice_index_or rows i [])

-- one for each of so many items: the least number that R says of the item, or none
pub record AreLeast (count : ℕ) (R : ℕ → ℕ → Type 0) (least : List (Option ℕ)) : Type 0 where
  pub many : length least ≡ count
  pub each : (i : ℕ) → i < count → IsLeast (R i) (slice_index_or least i None)
