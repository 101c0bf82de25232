-- What a package handed over, and what a sink was handed.
use Rattle.std.specs.Prelude.{◌≡◌, ◌<◌, ℕ, List, [], ◌∷◌, ◌++◌, map, Some, IsSomeAnd, length, drop}
use Rattle.std.specs.List.{AllByRecursion, concat}
use Rattle.board_io.specs.Package.{Files}
use Rattle.board_io.specs.declared.package.Take.{Take}
use Rattle.board_io.specs.declared.package.Take.TheVariants.{Whole, Longer, Failed, NoMemory}

-- A name that was asked for, and what was handed over: the whole file, these bytes; or that it has more than so many bytes.
pub data Handed : Type 0 where
  File : List ℕ → List ℕ → Handed
  Long : List ℕ → ℕ → Handed

-- behind what was handed over before, this file
abbrev pub with_file : List Handed → List ℕ → List ℕ → List Handed
with_file before name bytes = before ++ File name bytes ∷ []

-- behind it, that this file is too long
abbrev pub with_long : List Handed → List ℕ → ℕ → List Handed
with_long before name most = before ++ Long name most ∷ []

-- a take hands over exactly the bytes that it leaves in the buffer, or that there are more, and where it fails nothing
abbrev pub HandsOver : Take → List ℕ → ℕ → List ℕ → List Handed → List Handed → Type 0
HandsOver Whole name most into before after = after ≡ with_file before name into
HandsOver Longer name most into before after = after ≡ with_long before name most
HandsOver Failed name most into before after = after ≡ before
HandsOver NoMemory name most into before after = after ≡ before

-- what was handed over only grows
abbrev pub Grows : List Handed → List Handed → Type 0
Grows before after = (gained : List Handed) × (after ≡ before ++ gained)

-- the files agree with one that was handed over
abbrev pub Agrees : Files → Handed → Type 0
Agrees files (File name bytes) = files name ≡ Some bytes
Agrees files (Long name most) = IsSomeAnd (files name) (λ bytes. most < length bytes)

-- The files agree with all that was handed over in between.
abbrev pub AgreeWith : Files → List Handed → List Handed → Type 0
AgreeWith files before after = AllByRecursion (Agrees files) (drop (length before) after)

-- P holds of all files that agree with what was handed over in between
abbrev pub IfAgreed : List Handed → List Handed → (Files → Type 0) → Type 0
IfAgreed before after P = (files : Files) → AgreeWith files before after → P files

-- ---- How a package and a sink keep it

-- two texts, and a number or none
abbrev pub Note : Type 0
Note = List ℕ × (List ℕ × List ℕ)

abbrev pub note_of : List ℕ → List ℕ → List ℕ → Note
note_of first second number = (first, (second, number))

-- a package notes a name and its bytes, or a name and how many bytes were too few
abbrev pub handed_of : Note → Handed
handed_of (name, (bytes, [])) = File name bytes
handed_of (name, (bytes, most ∷ rest)) = Long name most

abbrev pub deliveries : List Note → List Handed
deliveries notes = map handed_of notes

-- a sink notes each piece, and what was taken of it
abbrev pub pieces : List Note → List (List ℕ)
pieces notes = map (λ (n : Note). n.0) notes

abbrev pub taken : List Note → List ℕ
taken notes = concat (map (λ (n : Note). n.1.0) notes)
