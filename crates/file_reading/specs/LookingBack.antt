-- What stands in force behind a history, by what each of its items says of it. A history is a list of items, the last first.
use Rattle.std.specs.Prelude.{ℕ, ◌+◌, Bool, if◌then◌else◌, List, [], ◌∷◌, Option, Some, None}
use Rattle.std.specs.Option.{option_or}

-- what is said, if something is, and otherwise what was said earlier
abbrev pub latest : {B : Type 0} → Option B → B → B
latest (Some x) earlier = x
latest None earlier = earlier

-- what was said first, if something was, and otherwise what is said
abbrev pub keep_first : {B : Type 0} → Option B → Option B → Option B
keep_first None first = first
keep_first (Some x) None = Some x
keep_first (Some x) (Some first) = Some first

-- what the last item that says something says, and where none does what stands at the start
abbrev pub last_or : {A B : Type 0} → B → (A → Option B) → List A → B
last_or start says [] = start
last_or start says (item ∷ earlier) = latest (says item) (last_or start says earlier)

-- what the last that says something says, if one does
abbrev pub last_said : {A B : Type 0} → (A → Option B) → List A → Option B
last_said says [] = None
last_said says (item ∷ earlier) = option_or (says item) (last_said says earlier)

-- what the first that says something says, if one does
abbrev pub first_said : {A B : Type 0} → (A → Option B) → List A → Option B
first_said says [] = None
first_said says (item ∷ earlier) = keep_first (says item) (first_said says earlier)

-- how many items pass the test
abbrev pub how_many : {A : Type 0} → (A → Bool) → List A → ℕ
how_many test [] = 0
how_many test (item ∷ earlier) = if test item then how_many test earlier + 1 else how_many test earlier
