-- The items of a small list.
use Rattle.std.specs.Prelude.{Bool, false, true, List, [], ◌∷◌}
use Rattle.verdict.specs.declared.small_rows.Stored.{Stored}
use Rattle.verdict.specs.declared.small_rows.Stored.TheVariants.{Nothing, One, Many}

-- the items in order
abbrev pub stored_items : {T : Type 0} → Stored T → List T
stored_items Nothing = []
stored_items (One item) = item ∷ []
stored_items (Many items) = items

-- whether the items stand in a list of their own
abbrev pub is_many : {T : Type 0} → Stored T → Bool
is_many Nothing = false
is_many (One item) = false
is_many (Many items) = true
