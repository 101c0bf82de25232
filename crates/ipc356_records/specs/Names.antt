-- The distinct names of a netlist, numbered from 0 in first-seen order.
use Rattle.std.specs.Prelude.{ℕ, Bool, nat_eq, if◌then◌else◌, List, [], ◌∷◌, ◌++◌}
use Rattle.std.specs.List.{list_any, position_or_len}
use Rattle.std.specs.Cmp.Lexicographic.{pointwise}

-- the same name
abbrev pub is_name : List ℕ → List ℕ → Bool
is_name name other = pointwise nat_eq name other

-- the number of a name: its place among the names, or the next place where it is new
abbrev pub index_of : List ℕ → List (List ℕ) → ℕ
index_of name names = position_or_len (is_name name) names

-- the names with one more, which goes last where it is new
abbrev pub with_name : List ℕ → List (List ℕ) → List (List ℕ)
with_name name names = if list_any (is_name name) names then names else names ++ name ∷ []
