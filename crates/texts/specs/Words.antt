-- Whether a text is a word, or begins with one.
use Rattle.std.specs.Prelude.{ℕ, Bool, nat_eq, List}
use Rattle.std.specs.List.{starts_with}
use Rattle.std.specs.Cmp.Lexicographic.{pointwise}

-- the text is this word, byte by byte
abbrev pub is_word : List ℕ → List ℕ → Bool
is_word text word = pointwise nat_eq text word

-- these bytes stand in front of the text
abbrev pub begins : List ℕ → List ℕ → Bool
begins text front = starts_with nat_eq text front
