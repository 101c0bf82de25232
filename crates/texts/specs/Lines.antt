-- What the lines of a file are.
use Rattle.std.specs.Prelude.{ℕ, ◌+◌, ◌-◌, Bool, ◌==◌, nat_eq, if◌then◌else◌, List, [], ◌∷◌, length, take}
use Rattle.std.specs.List.{ends_with, slice_split}

-- a line: its number, from 1, the place of its first byte, and its bytes without the line end
pub record PlainLine : Type 0 where
  pub number : ℕ
  pub at : ℕ
  pub text : List ℕ

abbrev pub is_feed : ℕ → Bool
is_feed b = b == 10

-- a carriage return before a line feed is no part of the line
abbrev pub without_return : List ℕ → List ℕ
without_return text = if ends_with nat_eq text (13 ∷ []) then take (length text - 1) text else text

-- What no line feed follows is a line where it is not empty.
abbrev pub last_line : ℕ → ℕ → List ℕ → List PlainLine
last_line number at [] = []
last_line number at (b ∷ text) = record { number = number; at = at; text = b ∷ text } ∷ []

-- A file is cut at its line feeds. Each part that a line feed follows is a line.
abbrev pub lines_in : ℕ → ℕ → List (List ℕ) → List PlainLine
lines_in number at [] = []
lines_in number at (last ∷ []) = last_line number at last
lines_in number at (part ∷ next ∷ parts) =
    record { number = number; at = at; text = without_return part } ∷ lines_in (number + 1) (at + length part + 1) (next ∷ parts)

-- a place in a file: the number of the line that begins there, and the bytes from there on
pub record Ahead : Type 0 where
  pub number : ℕ
  pub at : ℕ
  pub bytes : List ℕ

-- the first byte of a file, which is of line 1
abbrev pub start : List ℕ → Ahead
start file = record { number = 1; at = 0; bytes = file }

-- the lines from a place on
unfoldable pub lines_from : Ahead → List PlainLine
lines_from a = lines_in a.number a.at (slice_split is_feed a.bytes)

-- all lines of a file
abbrev pub lines_of : List ℕ → List PlainLine
lines_of file = lines_from (start file)
