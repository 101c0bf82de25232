-- The tables of a board: plain lists, without shapes.
use Rattle.std.specs.Prelude.{ℕ, ℤ, List, [], slice_index_or, Contains}

-- a test point of a board: its record, its place in u, its layer and the number of its name
pub record TestPoint : Type 0 where
  pub number : ℕ
  pub x : ℤ
  pub y : ℤ
  pub layer : ℕ
  pub name : ℕ

-- where a piece comes from, its file, the command in it and the copy, and its span of layers
pub record Source : Type 0 where
  pub file : ℕ
  pub command : ℕ
  pub copy : ℕ
  pub top : ℕ
  pub bottom : ℕ

-- for each piece the other pieces that touch it, for each test point the pieces under it, the test points, the pieces'
-- sources, the names
pub record Tables : Type 0 where
  pub near : List (List ℕ)
  pub beneath : List (List ℕ)
  pub points : List TestPoint
  pub sources : List Source
  pub names : List (List ℕ)

-- the row of a table
abbrev pub row_at : List (List ℕ) → ℕ → List ℕ
row_at table i = slice_index_or table i []

-- q stands in the row of p
abbrev pub Stands : List (List ℕ) → ℕ → ℕ → Type 0
Stands table p q = Contains (row_at table p) q
