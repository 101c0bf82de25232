-- A piece under each probe, the least one where it is wanted: under the probes of branches.
use Rattle.std.specs.Prelude.{◌≡◌, ℕ, ◌<◌, Bool, true, false, List, length, All, Option, Some, None, slice_index_or}
use Rattle.tables.specs.Lists.{IsLeast}
use Rattle.verdict.specs.declared.verdict.Branch.{Branch}
use Rattle.verdict.specs.declared.verdict.Short.{Short}

-- a number that P says, or none where it says none
abbrev pub IsOneOf : (ℕ → Type 0) → Option ℕ → Type 0
IsOneOf P None = (q : ℕ) → P q → ⊥
IsOneOf P (Some p) = P p

-- one for each of so many items: a number that R says of the item, or none, and the least number where it is wanted
pub record ArePicked (count : ℕ) (R : ℕ → ℕ → Type 0) (wanted : List Bool) (found : List (Option ℕ)) : Type 0 where
  pub many : length found ≡ count
  pub each : (k : ℕ) → k < count → IsOneOf (R k) (slice_index_or found k None)
  pub least : (k : ℕ) → k < count → slice_index_or wanted k false ≡ true → IsLeast (R k) (slice_index_or found k None)

-- The probe of the branch is wanted, if the table has it.
abbrev pub IsWanted : List Bool → Branch → Type 0
IsWanted wanted b = b.probe < length wanted → slice_index_or wanted b.probe false ≡ true

-- So it is of each branch of the shorts.
abbrev pub AreWanted : List Bool → List Short → Type 0
AreWanted wanted shorts = All (λ s. All (IsWanted wanted) s.branches) shorts

-- The home of the branch's probe is the least number that R says of it, if there are more items than that.
abbrev pub HasLeast : ℕ → (ℕ → ℕ → Type 0) → List (Option ℕ) → Branch → Type 0
HasLeast count R homes b = b.probe < count → IsLeast (R b.probe) (slice_index_or homes b.probe None)

-- one for each of so many items: a number that R says of the item, or none, and the least number for the probes of branches
pub record AreHomes (count : ℕ) (R : ℕ → ℕ → Type 0) (shorts : List Short) (homes : List (Option ℕ)) : Type 0 where
  pub many : length homes ≡ count
  pub each : (k : ℕ) → k < count → IsOneOf (R k) (slice_index_or homes k None)
  pub least : All (λ s. All (HasLeast count R homes) s.branches) shorts
