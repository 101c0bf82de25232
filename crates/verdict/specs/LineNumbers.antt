-- The bytes of a text as a number.
use Rattle.std.specs.Prelude.{ℕ, ◌+◌, ◌*◌, List, [], ◌∷◌}

-- what bytes are worth in a word, the first the lowest
abbrev pub worth : List ℕ → ℕ
worth [] = 0
worth (b ∷ bs) = b + 256 * worth bs
