-- Tables of kinds of refusal.
use Rattle.std.specs.Prelude.{◌≡◌, ℕ, List, codes}
use Prim.Native.String.{String}

-- what a report says of a kind: how it numbers it, and names it
pub record Row : Type 0 where
  pub number : ℕ
  pub name : List ℕ

-- a row of a table of kinds
abbrev pub row : ℕ → String → Row
row number name = record { number = number; name = codes name }

-- Each kind of a table has a number of its own.
abbrev pub HaveOwnNumbers : {K : Type 0} → (K → Row) → Type 0
HaveOwnNumbers {K = K} row_of = (a b : K) → (row_of a).number ≡ (row_of b).number → a ≡ b
