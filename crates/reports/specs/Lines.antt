-- The lines to the notes.
use Rattle.std.specs.Prelude.{◌≤◌, ℕ, List, [], ◌∷◌, ◌++◌, Option, codes, decimal}
use Rattle.std.specs.Fmt.{signed_decimal}
use Rattle.std.specs.List.{concat}
pub use Rattle.board_io.specs.Causes.{Rose}
pub use Rattle.board_io.specs.Sink.{Gains, GainsFrontOf}
use Rattle.contact.specs.declared.Bounds.{Bounds}

-- A sink got a front of these bytes, and all of them where none of its faults rose. Its count of faults never falls.
pub record Says {N : Type 0} (got : N → Option (List ℕ)) (faults : N → ℕ) (old new : N) (bytes : List ℕ) : Type 0 where
  pub front : GainsFrontOf (got old) bytes (got new)
  pub whole : (Rose (faults old) (faults new) → ⊥) → Gains (got old) bytes (got new)
  pub later : faults old ≤ faults new

-- the name of the program begins each line
abbrev pub begin : List ℕ
begin = codes "boardnet: "

-- a line feed ends it
abbrev pub end : List ℕ
end = 10 ∷ []

-- a line of a few words
abbrev pub plain_line : List ℕ → List ℕ
plain_line what = concat (begin ∷ what ∷ end ∷ [])

-- what is said of a file, behind its name
abbrev pub file_line : List ℕ → List ℕ → List ℕ
file_line file what = concat (begin ∷ file ∷ codes ": " ∷ what ∷ end ∷ [])

-- a place in a file, to the end of the line: a command or a line, its number and its first byte
abbrev pub at_byte : List ℕ → ℕ → ℕ → List ℕ
at_byte item number byte = concat (item ∷ codes " " ∷ decimal number ∷ codes ", byte " ∷ decimal byte ∷ end ∷ [])

-- the same without a byte, to the end of the line too
abbrev pub at_item : List ℕ → ℕ → List ℕ
at_item item number = concat (item ∷ codes " " ∷ decimal number ∷ end ∷ [])

-- a refusal of a file in a form: the number and the name of its kind, and its place, which ends the line
abbrev pub kind_line : List ℕ → List ℕ → ℕ → List ℕ → List ℕ → List ℕ
kind_line file form number kind place =
    concat (begin ∷ file ∷ codes ": " ∷ form ∷ codes " " ∷ decimal number ∷ codes " " ∷ kind ∷ codes " at " ∷ []) ++ place

-- a label of a copper file that is amiss: the command and its first byte
abbrev pub label_line : List ℕ → ℕ → ℕ → List ℕ
label_line file command byte = concat (begin ∷ file ∷ codes ": label at " ∷ []) ++ at_byte (codes "command") command byte

-- a word, and how many opens, shorts and points without copper are listed
abbrev pub findings_line : List ℕ → ℕ → ℕ → ℕ → List ℕ
findings_line what opens shorts missing = concat (begin ∷ what ∷ codes ", opens " ∷ decimal opens ∷ codes ", shorts " ∷ decimal shorts ∷ codes ", missing " ∷ decimal missing ∷ end ∷ [])

-- the box that fits in no frame, behind some words: its left, low, right and high side, in u
abbrev pub frame_behind : (file colon : List ℕ) → Bounds → List ℕ
frame_behind file colon b =
    concat (begin ∷ file ∷ colon ∷ codes "frame too large: " ∷ signed_decimal b.left ∷ codes " " ∷ signed_decimal b.low ∷ codes " " ∷ signed_decimal b.right ∷ codes " " ∷ signed_decimal b.high ∷ end ∷ [])

abbrev pub frame_line : Bounds → List ℕ
frame_line b = frame_behind [] [] b

-- the same of a manifest
abbrev pub manifest_frame_line : List ℕ → Bounds → List ℕ
manifest_frame_line manifest b = frame_behind manifest (codes ": ") b

-- a few words and a number
abbrev pub counted_line : List ℕ → ℕ → List ℕ
counted_line what n = concat (begin ∷ what ∷ decimal n ∷ end ∷ [])

-- a file of counts that is none, at the number of a line
abbrev pub not_counts_line : List ℕ → ℕ → List ℕ
not_counts_line counts line = concat (begin ∷ counts ∷ codes ": not counts at line " ∷ decimal line ∷ end ∷ [])
