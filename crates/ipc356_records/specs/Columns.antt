-- The columns of a line, counted from 1 (IPC-D-356A test records have fixed columns).
use Rattle.std.specs.Prelude.{◌≡◌, ℕ, ◌+◌, ◌-◌, Bool, true, false, not, List, [], ◌∷◌, ◌++◌, length, take, drop, filter, replicate, slice_index_or, Option, Some, None}
use Rattle.std.specs.List.{slice_split}
use Rattle.std.specs.Borrow.{Bor}
use Rattle.texts.specs.Blanks.{is_blank}

-- Where the fields of a test record stand: the net name from a column to another, a letter and two columns with the access,
-- and twice a letter, a sign and six columns with a number.
abbrev pub name_from : ℕ
name_from = 4

abbrev pub name_to : ℕ
name_to = 17

abbrev pub access_at : ℕ
access_at = 39

abbrev pub x_at : ℕ
x_at = 42

abbrev pub y_at : ℕ
y_at = 50

-- the last column that is read
abbrev pub line_to : ℕ
line_to = 57

abbrev pub is_empty : List ℕ → Bool
is_empty [] = true
is_empty (b ∷ text) = false

-- what stands in the columns from first to last: shorter or empty where the line ends before
abbrev pub part : ℕ → ℕ → List ℕ → List ℕ
part first last text = take (last + 1 - first) (drop (first - 1) text)

-- a text of so many columns, of which those past its end are blank
abbrev pub filled : ℕ → List ℕ → List ℕ
filled width text = text ++ replicate (width - length text) 32

-- the columns from first to last, blank past the line's end
abbrev pub columns : ℕ → ℕ → List ℕ → List ℕ
columns first last text = filled (last + 1 - first) (part first last text)

-- a text that is laid into a line from a column on, with blanks between
abbrev pub laid : ℕ → List ℕ → List ℕ → List ℕ
laid first text line = filled (first - 1) line ++ text

-- one column, blank past the line's end
abbrev pub column : ℕ → List ℕ → ℕ
column n text = slice_index_or text (n - 1) 32

-- what stands between blanks
unfoldable pub words : List ℕ → List (List ℕ)
words text = filter (λ w. not (is_empty w)) (slice_split is_blank text)

-- The first word and what stands behind it, or there is none.
abbrev pub NextWord : List ℕ → Option (Bor (List ℕ) × Bor (List ℕ)) → Type 0
NextWord text None = words text ≡ []
NextWord text (Some next) = words text ≡ next.0.now ∷ words next.1.now
